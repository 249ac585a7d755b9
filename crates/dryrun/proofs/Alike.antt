-- Two sessions that start with one clip list are alike. Assumes nothing.
use mathlib.Core.Path.{◌≡◌, sym, ap, ◌∙◌}
use mathlib.Core.List.{List}
use Prim.Native.Nat.{ℕ, ◌≤◌}
use native.Mathlib.Omega.{arith}
use Rattle.std.specs.Prelude.{None}
use Rattle.counts.specs.declared.Handle.{Handle}
use Rattle.counts.specs.Below.{count_below}
use Rattle.transport.specs.declared.Transport.{Transport}
use Rattle.transport.specs.declared.TransportState.{TransportState}
use Rattle.transport.specs.Transport.{transport}
use Rattle.stage.specs.Playhead.{playhead}
use Rattle.session.specs.declared.Session.{Session}
use Rattle.cliplist.specs.declared.Entry.{Entry}
use Rattle.cliplist.specs.Start.{Starts}
use Rattle.cliplist.proofs.Same.{has_same}
use Rattle.leaps.specs.Dry.{blind, dry_at, dry_of}
use Rattle.leaps.specs.Same.{Alike}

-- where one starts
starts_dry : (m : ℕ) (e : Entry) (l : List Entry) (s : Session) → Starts m e l s
    → dry_of s.stage ≡ dry_at 0 (playhead (transport TransportState.Stopped 0 0 None 0) e.handle)
starts_dry m e l s x =
    ap (λ (t : ℕ). dry_at t (blind s.stage.playhead)) x.clock
    ∙ ap (λ (t : Transport). dry_at 0 (playhead t s.stage.playhead.song)) x.stands
    ∙ ap (λ (h : Handle). dry_at 0 (playhead (transport TransportState.Stopped 0 0 None 0) h)) x.list.song

-- alike, with room for 256 commands
pub starts_alike : (m : ℕ) (e : Entry) (l : List Entry) (s : Session) (q : List ℕ) (t : Session) (p : List ℕ) → Starts m e l s → Starts m e l t → (n : ℕ) → n ≤ 256
    → Alike n s q t p
unfolding count_below
starts_alike m e l s q t p x y n few =
    let a = has_same l s.bank t.bank x.list.clips y.list.clips in
    record {
      rate = x.list.rate ∙ sym y.list.rate;
      clips = record { lives = a.lives; kinds = a.kinds; rates = a.rates };
      stands = starts_dry m e l s x ∙ sym (starts_dry m e l t y);
      queued = x.queued ∙ sym y.queued;
      waiting = rw (x.queued, y.queued);
      stinging = rw (x.queued, y.queued, x.voices, y.voices);
      number = x.number ∙ sym y.number;
      room = omega (arith, x.queued, x.room);
      other = omega (arith, y.queued, y.room);
    }
