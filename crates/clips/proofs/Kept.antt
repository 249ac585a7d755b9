-- Load and retire keep a session well formed, whether they are accepted or refused, and refused they leave everything as it came. Assumes nothing.
use mathlib.Core.Path.{◌≡◌, refl, ◌∙◌}
use mathlib.Core.Bool.{true}
use mathlib.Core.List.{List}
use Prim.Native.Nat.{ℕ, ◌*◌}
use native.Mathlib.Omega.{arith}
use lib.Ieee.{Float}
use Rattle.counts.specs.declared.Handle.{Handle}
use Rattle.bank.specs.declared.Kind.{Kind}
use Rattle.bank.specs.Sample.{is_pool}
use Rattle.bank.specs.Slots.{loaded_in, retired_from}
use Rattle.bank.specs.Room.{pasted}
use Rattle.bank.proofs.Kept.{load_keeps, load_length, load_bits, retire_keeps, retire_length, retire_bits}
use Rattle.bank.proofs.Handles.{load_keeps_clip, retire_clip}
use Rattle.bank.proofs.Pool.{load_pool}
use Rattle.bank.proofs.Claims.{load_claim, retire_claim}
use Rattle.session.specs.declared.Session.{Session}
use Rattle.session.specs.declared.Answered.{Answered}
use Rattle.session.specs.Session.{with_bank}
use Rattle.session.specs.WellFormed.{well_formed}
use Rattle.session.specs.Answer.{refused, says}
use Rattle.session.proofs.Parts.{parts}
use Rattle.session.proofs.Refuse.{unless_both, refused_leaves}
use Rattle.session.proofs.Typed.{Typed}
use Rattle.clips.specs.Load.{start_for, weigh_load, handle_for, clip_for, load_of}
use Rattle.clips.specs.Retire.{weigh_retire, retire_of}
use Rattle.clips.proofs.Held.{every_both, all_held, live_small, over_bank, held_by_none}
use Rattle.clips.proofs.Loaded as load
use Rattle.clips.proofs.Retired as retire
use Rattle.std.specs.Prelude.{Ok}

-- what opening and loading give: answer and session; pool
abbrev Out : Type 0
Out = Answered Handle × List Float

module _ (s : Session) (q c : List ℕ) (pool samples : List Float) (kind : Kind) (rate : ℕ) where
  -- a refused load leaves the session and the pool
  pub load_refused_law : (n : ℕ) → says (load_of s q c pool samples kind rate).0.answer ≡ refused n
      → ◌≡◌ {A = Session × List Float} ((load_of s q c pool samples kind rate).0.session, (load_of s q c pool samples kind rate).1) (s, pool)
  unfolding load_of
  load_refused_law =
      refused_leaves {A = Out} _ _ _ {B = Session × List Float} (λ a. says a.0.answer) (λ a. (a.0.session, a.1)) (handle_for s) (s, pool) refl (λ k. refl)

  module _ (t : Typed s) where
    -- well formed in, well formed out
    pub load_kept : well_formed s q c ≡ true → well_formed (load_of s q c pool samples kind rate).0.session q c ≡ true
    unfolding load_of
    load_kept formed = unless_both {A = Out} _ _ _ (λ a. well_formed a.0.session q c ≡ true) (λ k. formed) loaded
      where
        loaded : weigh_load s q c pool samples kind rate ≡ Ok tt → well_formed (with_bank s (loaded_in s.bank (handle_for s).slot (clip_for s samples kind rate))) q c ≡ true
        loaded fine =
            let p = load.load_placed s q c pool samples kind rate fine t in
            let held = all_held s q c formed in
            over_bank s q c formed _ (load_keeps p) (every_both s q c (λ y a b. load_claim p s.settings.rate y a) held held) (λ h e. load_keeps_clip p h e)

    -- the numbers stay in their types
    pub load_typed : Typed (load_of s q c pool samples kind rate).0.session
    unfolding load_of loaded_in
    load_typed = unless_both {A = Out} _ _ _ (λ a. Typed a.0.session) (λ k. t) loaded
      where
        loaded : weigh_load s q c pool samples kind rate ≡ Ok tt → Typed (with_bank s (loaded_in s.bank (handle_for s).slot (clip_for s samples kind rate)))
        loaded fine =
            let p = load.load_placed s q c pool samples kind rate fine t in
            let n = (load.accepted s q c pool samples kind rate fine).serials in
            record { bank = record { bits = load_bits p t.bank.bits; serials = omega arith; places = load_length p }; voices = t.voices }

    -- the pool has its length still
    pub load_pooled : is_pool pool s.settings.pool ≡ true
        → is_pool (load_of s q c pool samples kind rate).1 (load_of s q c pool samples kind rate).0.session.settings.pool ≡ true
    unfolding load_of
    load_pooled lent = unless_both {A = Out} _ _ _ (λ a. is_pool a.1 a.0.session.settings.pool ≡ true) (λ k. lent) loaded
      where
        loaded : weigh_load s q c pool samples kind rate ≡ Ok tt → is_pool (pasted pool (start_for s samples * 2) samples) s.settings.pool ≡ true
        loaded fine = load_pool (load.load_placed s q c pool samples kind rate fine t) pool samples lent (load.accepted s q c pool samples kind rate fine).even

module _ (s : Session) (q c : List ℕ) (h : Handle) where
  -- a refused retire leaves the session
  pub retire_refused : (n : ℕ) → says (retire_of s q c h).answer ≡ refused n → (retire_of s q c h).session ≡ s
  unfolding retire_of
  retire_refused = refused_leaves {A = Answered (Unit {0})} _ _ _ (λ a. says a.answer) (λ a. a.session) tt s refl (λ k. refl)

  module _ (t : Typed s) where
    -- well formed in, well formed out
    pub retire_kept : well_formed s q c ≡ true → well_formed (retire_of s q c h).session q c ≡ true
    unfolding retire_of
    retire_kept formed = unless_both {A = Answered (Unit {0})} _ _ _ (λ a. well_formed a.session q c ≡ true) (λ k. formed) retired
      where
        retired : weigh_retire s q c h ≡ Ok tt → well_formed (with_bank s (retired_from s.bank h)) q c ≡ true
        retired fine =
            let a = retire.accepted s q c h fine in
            let none = held_by_none h s q c (live_small s q c formed t h a.alive) a.loose in
            over_bank s q c formed _ (retire_keeps s.bank h a.alive s.settings.pool (parts s q c formed).bank)
            (every_both s q c (λ y n e. retire_claim s.bank h a.alive s.settings.rate y n ∙ e) none (all_held s q c formed)) (λ k e. retire_clip s.bank h k)

    -- the numbers stay in their types
    pub retire_typed : Typed (retire_of s q c h).session
    unfolding retire_of retired_from
    retire_typed = unless_both {A = Answered (Unit {0})} _ _ _ (λ a. Typed a.session) (λ k. t) retired
      where
        retired : weigh_retire s q c h ≡ Ok tt → Typed (with_bank s (retired_from s.bank h))
        retired fine =
            record { bank = record { bits = retire_bits s.bank h t.bank.bits; serials = t.bank.serials; places = retire_length s.bank h ∙ t.bank.places }; voices = t.voices }
