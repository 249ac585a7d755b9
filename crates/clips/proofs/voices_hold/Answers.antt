-- `voices_hold` meets its contract: no voice passed holds the clip.
use mathlib.Core.Path.{◌≡◌, sym, ap, ◌∙◌}
use Prim.Native.Nat.{ℕ, ◌<◌}
use native.Mathlib.Omega.{arith}
use lib.ListN.{length, get_or}
use Rattle.counts.specs.declared.Handle.{Handle}
use Rattle.counts.specs.Handles.{same_handle}
use Rattle.counts.proofs.Below.{any_true}
use Rattle.bank.proofs.Places.{get_d_any}
use Rattle.oneshot.specs.declared.Voice.{Voice}
use Rattle.oneshot.specs.declared.Voices.{Voices}
use Rattle.oneshot.specs.Mix.{blank_voice, voice_at}
use Rattle.clips.proofs.voices_hold.Goals as goal

at : (h : Handle) (vs : Voices) (i : ℕ) (d : Voice) → i < length vs.table → same_handle h (voice_at vs i).handle ≡ same_handle h (get_or vs.table i d).handle
at h vs i d l = ap (λ (v : Voice). same_handle h v.handle) (get_d_any vs.table i blank_voice d l)

pub returns-then-eq : goal.returns-then-eq
returns-then-eq c = sym (any_true _ _ c.loop-i.i c.loop-i-test.true (at c.args.h c.args.voices c.loop-i.i _ (omega arith) ∙ sym c.eq.ensures ∙ c.if-eq.true))
