-- When a retire is refused with 11 and 19, and what an accepted one leaves: a handle that is spent, and every sample. Assumes nothing.
use mathlib.Core.Path.{◌≡◌, refl, sym, ap}
use mathlib.Core.Bool.{true, false, not, cond}
use mathlib.Core.Logic.{◌⊎◌, inl, inr}
use mathlib.Core.List.{List}
use Prim.Native.Nat.{ℕ, ◌^◌, ◌<◌}
use native.Mathlib.Omega.{arith}
use lib.Ieee.{Float}
use borrow.Author.Tests.{not-false}
use Rattle.counts.specs.declared.Handle.{Handle}
use Rattle.counts.specs.Handles.{same_handle}
use Rattle.counts.proofs.Truth.{two_ways}
use Rattle.bank.specs.Slots.{live, spent, retired_from}
use Rattle.bank.specs.Recording.{view_of}
use Rattle.bank.proofs.Handles.{retire_stale, retire_live, retire_spends}
use Rattle.bank.proofs.Pool.{retire_view}
use Rattle.session.specs.declared.Session.{Session}
use Rattle.session.specs.declared.Refusal.{Refusal}
use Rattle.session.specs.declared.Answered.{Answered}
use Rattle.session.specs.Session.{with_bank}
use Rattle.session.specs.WellFormed.{well_formed}
use Rattle.session.specs.Answer.{refused, gives, says, answered}
use Rattle.session.proofs.Parts.{parts}
use Rattle.session.proofs.Refuse.{stop, skip, passed, unless_fine, unless_refused, gives_fine}
use Rattle.session.proofs.Typed.{Typed}
use Rattle.clips.specs.Retire.{held_now, weigh_retire, retire_of}
use Rattle.clips.proofs.Held.{Holder, live_small, held_is, held_has}
use Rattle.std.specs.Prelude.{Ok, Err}

-- none of 1, 11 and 19
pub record Accepted (s : Session) (q c : List ℕ) (h : Handle) : Type 0 where
  pub formed : well_formed s q c ≡ true
  pub alive : live s.bank h ≡ true
  pub loose : held_now s q c h ≡ false

-- a retire that says that it is done is not refused
pub retire_fine : (s : Session) (q c : List ℕ) (h : Handle) → says (retire_of s q c h).answer ≡ gives tt → weigh_retire s q c h ≡ Ok tt
unfolding retire_of
retire_fine s q c h e = gives_fine {A = Answered (Unit {0})} _ _ _ (λ a. says a.answer) (λ k. refl) tt e

-- a retire that is not refused frees slot and room, and changes nothing else
pub retire_done : (s : Session) (q c : List ℕ) (h : Handle) → weigh_retire s q c h ≡ Ok tt
    → retire_of s q c h ≡ answered (Ok tt) (with_bank s (retired_from s.bank h))
unfolding retire_of
retire_done s q c h e = unless_fine (weigh_retire s q c h) _ _ e

module _ (s : Session) (q c : List ℕ) (h : Handle) where
  refuses : (k : Refusal) → Err k ≡ weigh_retire s q c h → says (retire_of s q c h).answer ≡ says (Err k)
  unfolding retire_of
  refuses k e = rw (unless_refused (weigh_retire s q c h) (λ j. answered (Err j) s) (answered (Ok (tt {0})) (with_bank s (retired_from s.bank h))) k (sym e))

  module _ (formed : well_formed s q c ≡ true) where
    -- a stale handle is refused with 11
    pub stale_refused : live s.bank h ≡ false → says (retire_of s q c h).answer ≡ refused 11
    unfolding weigh_retire
    stale_refused e = refuses Refusal.Stale (skip _ _ _ _ (ap not formed) (stop _ _ _ (ap not e)))

    module _ (alive : live s.bank h ≡ true) where
      -- a live one is refused with 19 exactly where it is held,
      pub held_refused : says (retire_of s q c h).answer ≡ cond (held_now s q c h) (refused 19) (gives tt)
      unfolding weigh_retire
      held_refused = go (two_ways (held_now s q c h))
        where
          go : (held_now s q c h ≡ true) ⊎ (held_now s q c h ≡ false) → says (retire_of s q c h).answer ≡ cond (held_now s q c h) (refused 19) (gives tt)
          go (inl e) = rw e (refuses Refusal.Held (skip _ _ _ _ (ap not formed) (skip _ _ _ _ (ap not alive) (stop _ _ _ e))))
          go (inr e) = rw (e, retire_done s q c h (sym (skip _ _ _ _ (ap not formed) (skip _ _ _ _ (ap not alive) (skip _ _ _ _ e refl)))))

      module _ (t : Typed s) where
        small : h.serial < 2 ^ 32
        small = live_small s q c formed t h alive

        -- that is where song, tail, voice, queue or running capture holds it,
        pub holder_refused : Holder h s q c → says (retire_of s q c h).answer ≡ refused 19
        holder_refused x = rw (held_is h s q c small x) at held_refused

        -- and nowhere else
        pub refused_holder : says (retire_of s q c h).answer ≡ refused 19 → Holder h s q c
        refused_holder e = go (two_ways (held_now s q c h))
          where
            go : (held_now s q c h ≡ true) ⊎ (held_now s q c h ≡ false) → Holder h s q c
            go (inl p) = held_has h s q c small p
            go (inr p) = let f : says (retire_of s q c h).answer ≡ gives tt = rw p at held_refused in let x : ◌≡◌ {A = ℕ} 0 1 = cc in absurd (omega arith)

  module _ (fine : weigh_retire s q c h ≡ Ok tt) where
    -- a retire that is not refused is none of 1, 11 and 19
    pub accepted : Accepted s q c h
    unfolding weigh_retire
    accepted =
        let p1 = passed _ _ _ fine in
        let p11 = passed _ _ _ p1.1 in
        let p19 = passed _ _ _ p11.1 in
        record { formed = not-false _ p1.0; alive = not-false _ p11.0; loose = p19.0 }

    -- it leaves the handle stale
    pub retired_stale : live (retire_of s q c h).session.bank h ≡ false
    retired_stale = rw (retire_done s q c h fine) (retire_stale s.bank h accepted.alive)

    -- for ever: its serial is spent
    pub retired_spent : spent (retire_of s q c h).session.bank h ≡ true
    retired_spent = rw (retire_done s q c h fine) (retire_spends s.bank h accepted.alive s.settings.pool (parts s q c accepted.formed).bank)

    -- every other handle is live or stale as it was
    pub retired_others : (k : Handle) → same_handle h k ≡ false → live (retire_of s q c h).session.bank k ≡ live s.bank k
    retired_others k n = rw (retire_done s q c h fine) (retire_live s.bank h accepted.alive k n)

    -- and no sample is written: over any pool every clip sounds as it did
    pub retired_sounds : (pool : List Float) → view_of pool (retire_of s q c h).session.bank ≡ view_of pool s.bank
    retired_sounds pool = rw (retire_done s q c h fine) (retire_view pool s.bank h)
