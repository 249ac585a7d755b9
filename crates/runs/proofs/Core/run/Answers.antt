-- `Core::run` meets its contract: the song's part, song and tail over the sums, the transport. Assumes nothing.
use mathlib.Core.Path.{◌≡◌, refl, sym, ap}
use Rattle.counts.specs.declared.Handle.{Handle}
use Rattle.ramp.specs.declared.Ramp.{Ramp}
use Rattle.transport.specs.declared.Transport.{Transport}
use Rattle.stage.specs.declared.Fade.{Fade}
use Rattle.runs.specs.declared.Core.{Core}
use Rattle.sweeps.specs.Over.{over}
use Rattle.runs.proofs.Calm.{core_none}
use Rattle.runs.proofs.Core.run.Goals as goal

parts : (h : Handle) {t u : Transport} {g m : Ramp} {f e : Fade} → t ≡ u → g ≡ m → f.tail ≡ e.tail
    → ◌≡◌ {A = Core} (record { playhead = record { transport = t; song = h }; master = g; fade = f }) (record { playhead = record { transport = u; song = h }; master = m; fade = e })
parts h {t} {u} {g} {m} {f} {e} a b c = rw (a, b) (ap (λ x. record { playhead = record { transport = u; song = h }; master = m; fade = record { tail = x } }) c)

pub returns-then-n-eq0 : goal.returns-then-n-eq0
unfolding over
returns-then-n-eq0 c =
    rw c.if-n-eq0.true (sym (core_none c.args.given.song.frames c.args.given.clip.frames c.args.self), refl)
