-- A fresh session can go on after its replay. Assumes nothing.
use mathlib.Core.Path.{◌≡◌, refl, ap}
use mathlib.Core.Bool.{Bool, true, false, cond}
use Rattle.std.specs.Prelude.{Some, None, unwrap_or}
use mathlib.Core.List.{List, []}
use Prim.Native.Nat.{ℕ, ◌^◌, ◌≤◌}
use native.Mathlib.Omega.{arith}
use lib.ListN.{length}
use Rattle.session.specs.declared.Session.{Session}
use Rattle.session.proofs.Parts.{parts}
use Rattle.submission.specs.Replay.{Replaying, replayed}
use Rattle.submission.proofs.Kept.{replayed_well}
use Rattle.submission.proofs.Leaves.{replayed_leaves}
use Rattle.cliplist.specs.Words.{clips_ok, session_in, start_of}
use Rattle.cliplist.proofs.Accepted.{made_formed, made_short}
use Rattle.leaps.specs.Run.{run_of, Runnable}
use Rattle.leaps.proofs.Ready.{run_ready}
use Rattle.dryrun.specs.Ready.{Fresh}

-- after any records it can go on for 2^62 frames
pub replayed_ready : (s : Session) (q list : List ℕ) → Fresh s q → (k n : ℕ) → n ≤ 2 ^ 62
    → let z : Replaying = replayed s q list k in Runnable z.session.bank z.queue (run_of z.session) n 2560
replayed_ready s q list f k n few =
    let z : Replaying = replayed s q list k in
    let p = replayed_well [] s q list (parts s q [] f.formed) k in
    let v = replayed_leaves s q list k in
    let settings : z.session.settings ≡ s.settings = ap (λ y. y.0) v in
    let bank : z.session.bank ≡ s.bank = ap (λ y. y.1) v in
    let stage : z.session.stage ≡ s.stage = ap (λ y. y.2) v in
    run_ready z.session z.queue [] p (λ h. rw bank (f.short h)) n 2560 (rw stage (omega (arith, f.clock)))
    (let x = p.queued in let w = ap (λ y. y.queue) settings in omega (arith, f.holds))

-- the session that is made of an accepted list is fresh
pub made_fresh : (mode : ℕ) (ws q : List ℕ) → clips_ok mode ws ≡ true → length q ≡ 1280 → Fresh (session_in mode ws) q
made_fresh mode ws q ok size =
    record { formed = made_formed mode ws ok q size; holds = refl; clock = refl; short = made_short mode ws ok }

-- and it is the one that is given, if any is
module _ (mode : ℕ) (ws : List ℕ) where
  pub start_some : (s : Session) → Some s ≡ start_of mode ws → (clips_ok mode ws ≡ true) × (s ≡ session_in mode ws)
  unfolding start_of
  start_some s = go (clips_ok mode ws) refl
    where
      go : (b : Bool) → clips_ok mode ws ≡ b → Some s ≡ cond b (Some (session_in mode ws)) None → (clips_ok mode ws ≡ true) × (s ≡ session_in mode ws)
      go true e t = (e, ap (λ o. unwrap_or o s) t)
      go false e t = let z : ◌≡◌ {A = ℕ} 0 1 = cc in absurd (omega arith)

  pub start_none : None ≡ start_of mode ws → clips_ok mode ws ≡ false
  unfolding start_of
  start_none = go (clips_ok mode ws) refl
    where
      go : (b : Bool) → clips_ok mode ws ≡ b → None ≡ cond b (Some (session_in mode ws)) None → clips_ok mode ws ≡ false
      go true e t = let z : ◌≡◌ {A = ℕ} 0 1 = cc in absurd (omega arith)
      go false e t = e
