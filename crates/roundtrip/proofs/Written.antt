-- The fields of a file that was written, and what stands in a command's. Assumes nothing.
use mathlib.Core.Path.{◌≡◌, refl, ap, ◌∙◌}
use mathlib.Core.List.{List, [], ◌∷◌, ◌++◌, map}
use Prim.Native.Nat.{ℕ, ◌+◌}
use native.Mathlib.Omega.{arith}
use lib.ListN.{length}
use Rattle.timeline.specs.declared.Row.{Row}
use Rattle.fields.specs.Bytes.{two, four, eight, four_bytes, eight_bytes}
use Rattle.fields.specs.Field.{fields_of, frame_in, number_in, kind_in, carried}
use Rattle.tourfile.specs.Writer.{version_bytes, last_bytes, head_bytes, command_bytes, tail_bytes, file_of}
use Rattle.fields.proofs.Fields.{fields_none, Field, field_front}
use Rattle.tourfile.proofs.Writes.{length_command}

module _ (clips : List ℕ) (x : Row) where
  -- a command that was written has its tag, its length,
  pub length_written : two (command_bytes clips x) 1 ≡ 17 + carried x.kind
  unfolding two command_bytes head_bytes eight_bytes four_bytes
  length_written = omega arith

  pub command_field : Field (command_bytes clips x)
  command_field = let l = length_command clips x in let t = length_written in record { head = omega arith; all = omega arith }

  -- its kind, its frame and its number
  pub kind_written : kind_in (command_bytes clips x) ≡ x.kind
  unfolding command_bytes head_bytes eight_bytes four_bytes
  kind_written = refl

  pub frame_written : frame_in (command_bytes clips x) ≡ x.at
  unfolding eight four two command_bytes head_bytes eight_bytes four_bytes
  frame_written = omega arith

  pub number_written : number_in (command_bytes clips x) ≡ x.number
  unfolding eight four two command_bytes head_bytes eight_bytes four_bytes
  number_written = omega arith

pub version_field : Field version_bytes
unfolding two
version_field = record { head = omega arith; all = refl }

pub last_field : (n : ℕ) → Field (last_bytes n)
unfolding two
last_field n = record { head = omega arith; all = refl }

pub fields_last : (n : ℕ) → fields_of (last_bytes n) ≡ last_bytes n ∷ []
fields_last n = field_front (last_bytes n) [] (last_field n) ∙ ap (λ (fs : List (List ℕ)). last_bytes n ∷ fs) (fields_none [] refl)

fields_tail : (clips : List ℕ) (n : ℕ) (xs : List Row) → fields_of (tail_bytes clips n xs) ≡ map (command_bytes clips) xs ++ (last_bytes n ∷ [])
unfolding tail_bytes
fields_tail clips n [] = fields_last n
fields_tail clips n (x ∷ xs) = field_front (command_bytes clips x) (tail_bytes clips n xs) (command_field clips x) ∙ ap (λ (fs : List (List ℕ)). command_bytes clips x ∷ fs) (fields_tail clips n xs)

-- the version, a field for each record, the count
pub fields_written : (clips : List ℕ) (xs : List Row) → fields_of (file_of clips xs) ≡ version_bytes ∷ (map (command_bytes clips) xs ++ (last_bytes (length xs) ∷ []))
unfolding file_of
fields_written clips xs =
    field_front version_bytes (tail_bytes clips (length xs) xs) version_field ∙ ap (λ (fs : List (List ℕ)). version_bytes ∷ fs) (fields_tail clips (length xs) xs)
