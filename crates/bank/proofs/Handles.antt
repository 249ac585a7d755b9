-- Live handles keep their clips through loads and retirements, and a spent one is never live again: no serial comes twice. Assumes nothing.
use mathlib.Core.Path.{◌≡◌, refl, sym, ap, ap₂, ◌∙◌}
use mathlib.Core.Bool.{true, false, not}
use mathlib.Core.Logic.{◌⊎◌, inl, inr}
use Prim.Native.Nat.{ℕ, ◌≤◌}
use native.Mathlib.Omega.{arith}
use native.Mathlib.Decide.{ℕ_discrete}
use borrow.Author.Tests.{eq-eqb, ne_eqb, eqb-true}
use lib.Dec.{eqb}
use Rattle.std.specs.Prelude.{Some}
use Rattle.counts.specs.Below.{within}
use Rattle.counts.specs.Handles.{same_handle}
use Rattle.counts.specs.declared.Handle.{Handle}
use Rattle.counts.proofs.Truth.{two_ways, never, and_true, and_l, and_r, and_false_r, not_true, not_false}
use Rattle.counts.proofs.Below.{within_is, within_low, within_high}
use Rattle.bank.specs.declared.Clip.{Clip}
use Rattle.bank.specs.declared.Bank.{Bank}
use Rattle.bank.specs.Slots.{used_at, clip_in, clip_of, live, found_of, spent, handle_of, loaded_in, retired_from}
use Rattle.bank.specs.WellFormed.{bank_ok}
use Rattle.bank.proofs.Clauses.{Clauses, bank_clip, bank_pair, pair_serials, Alive, live_has, live_is}
use Rattle.bank.proofs.Kept.{Placed, used_here, used_there, clip_here, clip_there, retired_here, retired_there}

-- handles that are not the same differ in slot or serial
differ : (h k : Handle) → same_handle h k ≡ false → h.slot ≡ k.slot → h.serial ≡ k.serial → ⊥
differ h k e p q = never (sym (and_true (eq-eqb h.slot k.slot p) (eq-eqb h.serial k.serial q)) ∙ e)

handle_is : (h k : Handle) → h.slot ≡ k.slot → h.serial ≡ k.serial → h ≡ k
handle_is h k p q = ap₂ (λ (x y : ℕ). let z : Handle = record { slot = x; serial = y } in z) p q

-- handles with the same slot and serial are one
pub same_is : (h k : Handle) → same_handle h k ≡ true → h ≡ k
same_is h k e =
    handle_is h k (eqb-true h.slot k.slot (and_l (eqb h.slot k.slot) (eqb h.serial k.serial) e))
    (eqb-true h.serial k.serial (and_r (eqb h.slot k.slot) (eqb h.serial k.serial) e))

not_live : (b : Bank) (h : Handle) → (Alive b h → ⊥) → live b h ≡ false
not_live b h n = go (two_ways (live b h))
  where
    go : (live b h ≡ true) ⊎ (live b h ≡ false) → live b h ≡ false
    go (inl e) = absurd (n (live_has b h e))
    go (inr e) = e

-- ---- in a well formed bank

module _ (b : Bank) (room : ℕ) (ok : bank_ok b room ≡ true) (h : Handle) (e : live b h ≡ true) where
  -- a live handle's clip is well formed
  pub live_clip : Clauses room b.last (clip_of b h)
  live_clip = let a = live_has b h e in bank_clip b room ok h.slot a.among a.used

  -- a live handle's serial is one that was given
  pub live_given : (1 ≤ h.serial) × (h.serial ≤ b.last)
  live_given = let a = live_has b h e in let f = live_clip in (omega arith, omega arith)

  -- two live handles with one serial are the same
  pub live_one : (k : Handle) → live b k ≡ true → h.serial ≡ k.serial → h ≡ k
  live_one k f q = go (ℕ_discrete h.slot k.slot)
    where
      go : Dec (h.slot ≡ k.slot) → h ≡ k
      go (yes p) = handle_is h k p q
      go (no n) =
          let a = live_has b h e in
          let g = live_has b k f in
          absurd (pair_serials (clip_of b h) (clip_of b k) (bank_pair b room ok h.slot k.slot a.among g.among n a.used g.used) (a.serial ∙ q ∙ sym g.serial))

-- ---- spent

module _ (b : Bank) (h : Handle) where
  -- a spent handle is stale
  pub spent_stale : spent b h ≡ true → live b h ≡ false
  unfolding spent
  spent_stale e = not_true (live b h) (and_r (within 1 b.last h.serial) (not (live b h)) e)

  -- its serial was given,
  pub spent_first : spent b h ≡ true → 1 ≤ h.serial
  unfolding spent
  spent_first e = within_low 1 b.last h.serial (and_l (within 1 b.last h.serial) (not (live b h)) e)

  pub spent_given : spent b h ≡ true → h.serial ≤ b.last
  unfolding spent
  spent_given e = within_high 1 b.last h.serial (and_l (within 1 b.last h.serial) (not (live b h)) e)

  -- and such a one is spent
  pub spent_is : 1 ≤ h.serial → h.serial ≤ b.last → live b h ≡ false → spent b h ≡ true
  unfolding spent
  spent_is l m e = and_true (within_is 1 b.last h.serial l m) (not_false e)

-- ---- load

module _ {b : Bank} {room slot : ℕ} {c : Clip} (p : Placed b room slot c) where
  -- the new handle is live
  pub new_live : live (loaded_in b slot c) (handle_of slot c) ≡ true
  new_live = live_is (loaded_in b slot c) (handle_of slot c) (record { among = p.among; used = used_here p; serial = ap (λ (d : Clip). d.serial) (clip_here p) })

  -- the new handle stands for the clip
  pub new_found : found_of (loaded_in b slot c) (handle_of slot c) ≡ Some c
  new_found = rw (new_live, clip_here p)

  -- every other handle is live or stale as it was
  pub load_live : (h : Handle) → same_handle h (handle_of slot c) ≡ false → live (loaded_in b slot c) h ≡ live b h
  unfolding live
  load_live h n = go (ℕ_discrete h.slot slot)
    where
      go : Dec (h.slot ≡ slot) → live (loaded_in b slot c) h ≡ live b h
      go (yes q) =
          not_live (loaded_in b slot c) h (λ a. differ h (handle_of slot c) n q (sym a.serial ∙ ap (λ (d : Clip). d.serial) (ap (clip_in (loaded_in b slot c)) q ∙ clip_here p)))
          ∙ sym (not_live b h (λ a. never (sym a.used ∙ ap (used_at b.used) q ∙ p.free)))
      go (no m) = rw (used_there p h.slot m, clip_there p h.slot m)

  -- a handle whose serial was given is not the new one
  old : (h : Handle) → h.serial ≤ b.last → same_handle h (handle_of slot c) ≡ false
  old h l = and_false_r (eqb h.slot slot) (ne_eqb h.serial c.serial (λ x. omega arith))

  module _ (h : Handle) (e : live b h ≡ true) where
    -- a live handle stays live
    pub load_keeps_live : live (loaded_in b slot c) h ≡ true
    load_keeps_live = load_live h (old h (live_given b room p.ok h e).1) ∙ e

    -- a live handle keeps its clip
    pub load_keeps_clip : clip_of (loaded_in b slot c) h ≡ clip_of b h
    load_keeps_clip = clip_there p h.slot (λ q. never (sym (live_has b h e).used ∙ ap (used_at b.used) q ∙ p.free))

  -- a spent handle stays spent
  pub load_keeps_spent : (h : Handle) → spent b h ≡ true → spent (loaded_in b slot c) h ≡ true
  unfolding loaded_in
  load_keeps_spent h e = let l = spent_given b h e in spent_is (loaded_in b slot c) h (spent_first b h e) (omega arith) (load_live h (old h l) ∙ spent_stale b h e)

-- ---- retire

-- when a clip is retired every handle's slot has the clip that it had
pub retire_clip : (b : Bank) (h k : Handle) → clip_of (retired_from b h) k ≡ clip_of b k
unfolding retired_from
retire_clip b h k = refl

module _ (b : Bank) (h : Handle) (e : live b h ≡ true) where
  -- the retired handle is stale
  pub retire_stale : live (retired_from b h) h ≡ false
  retire_stale = not_live (retired_from b h) h (λ a. never (sym a.used ∙ retired_here b h e))

  -- every other handle is live or stale as it was
  pub retire_live : (k : Handle) → same_handle h k ≡ false → live (retired_from b h) k ≡ live b k
  unfolding live retired_from
  retire_live k n = go (ℕ_discrete k.slot h.slot)
    where
      go : Dec (k.slot ≡ h.slot) → live (retired_from b h) k ≡ live b k
      go (yes q) =
          not_live (retired_from b h) k (λ a. never (sym a.used ∙ ap (used_at (retired_from b h).used) q ∙ retired_here b h e))
          ∙ sym (not_live b k (λ a. differ h k n (sym q) (sym (sym a.serial ∙ ap (λ (i : ℕ). (clip_in b i).serial) q ∙ (live_has b h e).serial))))
      go (no m) = rw (retired_there b h e k.slot m)

  -- the retired handle is spent
  pub retire_spends : (room : ℕ) → bank_ok b room ≡ true → spent (retired_from b h) h ≡ true
  unfolding retired_from
  retire_spends room ok = let g = live_given b room ok h e in spent_is (retired_from b h) h g.0 g.1 retire_stale

  -- a spent handle stays spent
  pub retire_keeps_spent : (k : Handle) → spent b k ≡ true → spent (retired_from b h) k ≡ true
  unfolding retired_from
  retire_keeps_spent k f = spent_is (retired_from b h) k (spent_first b k f) (spent_given b k f) (go (two_ways (same_handle h k)))
    where
      go : (same_handle h k ≡ true) ⊎ (same_handle h k ≡ false) → live (retired_from b h) k ≡ false
      go (inl q) = ap (live (retired_from b h)) (sym (same_is h k q)) ∙ retire_stale
      go (inr q) = retire_live k q ∙ spent_stale b k f
