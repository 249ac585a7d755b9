-- A frame over lent voices is the table's frame: lent the voices of a table that sound, it says what the table's says and leaves what that leaves in their places. Where the table is ready its voices can be lent, and those that stay can be lent again.
-- Assumes nothing.
use mathlib.Core.Path.{◌≡◌, refl, sym, ap, ◌∙◌}
use mathlib.Core.List.{List, ◌++◌}
use Prim.Native.Nat.{ℕ, ◌+◌, ◌-◌, ◌≤◌, ◌<◌, min}
use native.Mathlib.Omega.{arith}
use lib.ListN.{length, take, drop, length-take, take-append-drop}
use lib.Seq.{take_all, take-take, take-append-add}
use Rattle.std.specs.Prelude.{Result, Ok, Err}
use Rattle.std.proofs.lemmas.Slice.{drop-append-drop}
use borrow.Author.Tests.{le-leb, lt-leb}
use lib.Ieee.{Float}
use Rattle.bank.specs.declared.Bank.{Bank}
use Rattle.bank.specs.Recording.{View, view_of}
use Rattle.bank.proofs.Pool.{part_of_front}
use Rattle.oneshot.specs.declared.Voice.{Voice}
use Rattle.oneshot.specs.declared.Voices.{Voices}
use Rattle.oneshot.specs.declared.Mixed.{Mixed}
use Rattle.oneshot.specs.declared.Pair.{Pair}
use Rattle.oneshot.specs.declared.TooMany.{TooMany}
use Rattle.oneshot.specs.Pair.{silence}
use Rattle.oneshot.specs.Mix.{Mix, mix_of, mix_in, sounding, back_in}
use Rattle.oneshot.specs.Lent.{table_of, LentReady, lent_mixed, lent_of, too_many}
use Rattle.oneshot.specs.Sounding.{Sounds, Ready}
use Rattle.oneshot.proofs.Next.{every, at_most, no_more, ready_next}

-- what lies in the first n places where some voices were put before the rest of a list
front_kept : (xs l : List Voice) (n : ℕ) → length xs ≤ n → length xs ≤ length l → take n (xs ++ drop (length xs) l) ≡ xs ++ drop (length xs) (take n l)
front_kept xs l n h k =
    let e : n ≡ length xs + (n - length xs) = omega arith in
    rw e (take-append-add xs (drop (length xs) l) (n - length xs) ∙ ap (λ (r : List Voice). xs ++ r) (part_of_front l (length xs) (n - length xs) k))

-- with the rest of the list behind them it is the list in which they were put
back_kept : (xs l : List Voice) (n : ℕ) → length xs ≤ n → length xs ≤ length l → (xs ++ drop (length xs) (take n l)) ++ drop n l ≡ xs ++ drop (length xs) l
back_kept xs l n h k =
    rw (← front_kept xs l n h k, ← drop-append-drop (length xs) l xs n h refl) (take-append-drop n (xs ++ drop (length xs) l))

module _ (view : View) where
  -- at most 16 voices: a frame of the table
  pub lent_few : (vs : List Voice) → length vs ≤ 16 → lent_of view vs ≡ lent_mixed (mix_in view (table_of vs))
  unfolding lent_of
  lent_few vs h = simp (le-leb (length vs) 16 h)

  -- more than 16 are answered, and nothing changes
  pub lent_many : (vs : List Voice) → 16 < length vs → lent_of view vs ≡ (Err too_many, vs)
  unfolding lent_of
  lent_many vs h = simp (lt-leb (length vs) 16 h)

  module _ (t : Voices) (h : t.count ≤ 16) where
    short : length (sounding t) ≤ 16
    short = omega (arith, length-take t.count t.table)

    -- the table of lent voices sounds them all
    all_sound : sounding (table_of (sounding t)) ≡ sounding t
    all_sound = take_all (length (sounding t)) (sounding t) (omega arith)

    -- the table's frame is theirs, with the places after them as they were
    pub lent_back : (x : Mixed) → x ≡ mix_in view (table_of (sounding t))
        → record { voices = record { table = x.voices.table ++ drop t.count t.table; count = x.voices.count }; sum = x.sum } ≡ mix_in view t
    unfolding mix_in
    lent_back x e =
        let m : Mix = mix_of view (sounding t) silence in
        let stay : length m.voices ≤ min t.count (length t.table) = rw (length-take t.count t.table) at (at_most view (sounding t) silence) in
        let f : x ≡ back_in (table_of (sounding t)) m = e ∙ ap (λ (vs : List Voice). back_in (table_of (sounding t)) (mix_of view vs silence)) all_sound in
        ap (λ (y : Mixed). record { voices = record { table = y.voices.table ++ drop t.count t.table; count = y.voices.count }; sum = y.sum }) f
        ∙ ap (λ (l : List Voice). record { voices = record { table = l; count = length m.voices }; sum = m.sum }) (back_kept m.voices t.table t.count (omega (arith, stay)) (omega (arith, stay)))

    -- as many stay, and the sum is the same
    pub lent_says : (lent_of view (sounding t)).0 ≡ Ok ((mix_in view t).voices.count, (mix_in view t).sum)
    unfolding mix_in
    lent_says = ap (λ (p : Result (ℕ × Pair) TooMany × List Voice). p.0) (lent_few (sounding t) short) ∙ ap (λ (vs : List Voice). Ok (length (mix_of view vs silence).voices, (mix_of view vs silence).sum)) all_sound

    -- it leaves in the lent places what the table's frame leaves there
    pub lent_leaves : (lent_of view (sounding t)).1 ≡ take t.count (mix_in view t).voices.table
    unfolding mix_in
    lent_leaves =
        let m : Mix = mix_of view (sounding t) silence in
        let stay : length m.voices ≤ min t.count (length t.table) = rw (length-take t.count t.table) at (at_most view (sounding t) silence) in
        ap (λ (p : Result (ℕ × Pair) TooMany × List Voice). p.1) (lent_few (sounding t) short)
        ∙ ap (λ (vs : List Voice). (mix_of view vs silence).voices ++ drop (length (mix_of view vs silence).voices) (sounding t)) all_sound
        ∙ sym (front_kept m.voices t.table t.count (omega (arith, stay)) (omega (arith, stay)))

    -- so the voices that stay are the same
    pub lent_stay : take (mix_in view t).voices.count (lent_of view (sounding t)).1 ≡ sounding (mix_in view t).voices
    lent_stay = rw lent_leaves (take-take (mix_in view t).voices.count t.count (mix_in view t).voices.table (no_more view t))

module _ (n : ℕ) (b : Bank) where
  -- the voices of a table that is ready can be lent
  pub ready_lent : (t : Voices) → Ready n b t → LentReady n b (sounding t)
  ready_lent t r _ = every (Sounds n b) t r.each

  -- those that stay can be lent for the next frame, over any pool as long
  pub lent_next : (pool : List Float) (vs : List Voice) → length vs ≤ 16 → LentReady n b vs → LentReady n b (sounding (mix_in (view_of pool b) (table_of vs)).voices)
  lent_next pool vs h r = ready_lent (mix_in (view_of pool b) (table_of vs)).voices (ready_next pool n b (table_of vs) (record { few = h; each = r h }))
