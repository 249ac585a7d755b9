-- What a field with no fault has passed. Assumes nothing.
use mathlib.Core.Path.{◌≡◌}
use mathlib.Core.Bool.{Bool, false, not}
use mathlib.Core.List.{List}
use Prim.Native.Nat.{ℕ}
use Rattle.std.specs.Prelude.{Ok}
use Rattle.fields.specs.Field.{is_whole}
use Rattle.tourfile.specs.declared.Progress.{Progress}
use Rattle.tourfile.specs.Reader.{wrong_first, unknown_tag, wrong_length, other_version, unknown_kind, not_listed, not_rising, too_many, wrong_count, bytes_after, judged_of}
use Rattle.tourfile.proofs.Judging.{passed}

-- each test of the chain
pub record Passed (clips : List ℕ) (p : Progress) (more : Bool) (f : List ℕ) : Type 0 where
  pub whole : not (is_whole f) ≡ false
  pub opens : wrong_first p f ≡ false
  pub tag : unknown_tag p f ≡ false
  pub size : wrong_length f ≡ false
  pub version : other_version f ≡ false
  pub kind : unknown_kind f ≡ false
  pub clip : not_listed clips f ≡ false
  pub rising : not_rising p f ≡ false
  pub few : too_many p f ≡ false
  pub count : wrong_count p f ≡ false
  pub after : bytes_after more f ≡ false

pub fine_passed : (clips : List ℕ) (p : Progress) (more : Bool) (f : List ℕ) → judged_of clips p more f ≡ (Ok tt) → Passed clips p more f
unfolding judged_of
fine_passed clips p more f e =
    let s1 = passed _ _ _ e in
    let s2 = passed _ _ _ s1.1 in
    let s3 = passed _ _ _ s2.1 in
    let s4 = passed _ _ _ s3.1 in
    let s5 = passed _ _ _ s4.1 in
    let s6 = passed _ _ _ s5.1 in
    let s7 = passed _ _ _ s6.1 in
    let s8 = passed _ _ _ s7.1 in
    let s9 = passed _ _ _ s8.1 in
    let s10 = passed _ _ _ s9.1 in
    let s11 = passed _ _ _ s10.1 in
    record {
      whole = s1.0;
      opens = s2.0;
      tag = s3.0;
      size = s4.0;
      version = s5.0;
      kind = s6.0;
      clip = s7.0;
      rising = s8.0;
      few = s9.0;
      count = s10.0;
      after = s11.0;
    }
