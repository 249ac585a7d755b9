-- What a command that is not refused has: every test of its row of the rules has failed. Assumes nothing.
use mathlib.Core.Path.{◌≡◌}
use mathlib.Core.Logic.{◌≢◌}
use mathlib.Core.Bool.{Bool, true, false}
use mathlib.Core.List.{List}
use Prim.Native.Nat.{ℕ, ◌+◌, ◌-◌, ◌^◌, ◌≤◌, ◌<◌}
use native.Mathlib.Omega.{arith}
use borrow.Author.Tests.{leb-false, eqb-false, not-false as not-off}
use Rattle.counts.proofs.Truth.{not_true, not_false, or_false}
use Rattle.timeline.specs.declared.Command.{Command}
use Rattle.timeline.specs.Command.{claim_of, takes_voice, gain_ok, is_senseless}
use Rattle.timeline.specs.Queue.{stingers}
use Rattle.bank.specs.declared.Stands.{Stands}
use Rattle.bank.specs.Slots.{claim_ok}
use Rattle.session.specs.declared.Session.{Session}
use Rattle.session.specs.declared.Refusal.{Refusal}
use Rattle.session.specs.Refusal.{first}
use Rattle.session.specs.WellFormed.{held}
use Rattle.session.proofs.Refuse.{passed}
use Rattle.submission.specs.declared.Scales.{Scales}
use Rattle.submission.specs.Weigh.{weigh_command, capture_room, scales_of, stands_now}
use Rattle.std.specs.Prelude.{Ok, Err}

-- what a command has that a session takes; its capture has room if `spare`
pub record Fits (s : Session) (q : List ℕ) (spare : Bool) (x : Command) : Type 0 where
  pub gain : gain_ok x ≡ true
  pub sense : is_senseless x ≡ false
  pub claim : held s (claim_of x) ≡ true
  pub depth : s.queued < s.settings.queue
  pub room : spare ≡ true
  pub voice : takes_voice (claim_of x) ≡ true → stingers q s.queued + s.stage.sound.voices.count ≢ 16
  pub number : s.desk.number ≢ 2 ^ 64 - 1

-- a gain that 14 refuses is refused before all else
pub bad_gain : (w : Scales) (h : Stands) (x : Command) → gain_ok x ≡ false → weigh_command w h x ≡ Err Refusal.BadGain
unfolding weigh_command first
bad_gain w h x e = rw e

module _ (s : Session) (q : List ℕ) (spare : Bool) (x : Command) where
  -- a command that weighs Fine fits
  pub fine_fits : weigh_command (scales_of s q spare) (stands_now s x) x ≡ Ok tt → Fits s q spare x
  unfolding weigh_command claim_ok
  fine_fits e =
      let a14 = passed _ _ _ e in
      let a22 = passed _ _ _ a14.1 in
      let a11 = passed _ _ _ a22.1 in
      let a12 = passed _ _ _ a11.1 in
      let a13 = passed _ _ _ a12.1 in
      let a15 = passed _ _ _ a13.1 in
      let a16 = passed _ _ _ a15.1 in
      let a17 = passed _ _ _ a16.1 in
      let a18 = passed _ _ _ a17.1 in
      record {
        gain = not-off (gain_ok x) a14.0;
        sense = a22.0;
        claim = not_false (or_false (or_false a11.0 a12.0) a13.0);
        depth = leb-false _ _ a15.0;
        room = not-off spare a16.0;
        voice = λ v. eqb-false _ _ (rw v at a17.0);
        number = eqb-false _ _ a18.0;
      }

  module _ (f : Fits s q spare x) where
    -- in a well formed session a Stinger that fits finds a voice: fewer than 16 are taken,
    pub voice_free : stingers q s.queued + s.stage.sound.voices.count ≤ 16 → takes_voice (claim_of x) ≡ true
        → stingers q s.queued + s.stage.sound.voices.count < 16
    voice_free le v = let ne = f.voice v in omega arith

    -- and a number is left
    pub number_left : s.desk.number < 2 ^ 64 → s.desk.number < 2 ^ 64 - 1
    number_left small = let ne = f.number in omega arith

-- a running capture has room for a command that fits
pub capture_left : (s : Session) (q : List ℕ) (x : Command) → Fits s q (capture_room s) x → s.desk.capturing ≡ true → s.desk.captured < s.settings.capture
capture_left s q x f on = leb-false _ _ (not_true _ (rw on at f.room))
