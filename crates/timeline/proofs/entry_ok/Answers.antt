-- `entry_ok` meets its contract: the number is asked first.
use mathlib.Core.Path.{sym, ◌∙◌}
use mathlib.Core.Bool.{◌&&◌, and-true}
use Rattle.counts.proofs.Truth.{and_false_r}
use Rattle.timeline.specs.Command.{gain_ok}
use Rattle.timeline.specs.Record.{readable, read_of}
use Rattle.timeline.specs.Queue.{entry_ok}
use Rattle.timeline.proofs.entry_ok.Goals as goal

pub returns-then-not-number_ok : goal.returns-then-not-number_ok
unfolding entry_ok
returns-then-not-number_ok c =
    let x = c.args.x in
    sym (and_false_r (readable x && gain_ok (read_of x)) (sym c.number_ok.ensures ∙ c.if-not-number_ok.true))

pub returns : goal.returns
unfolding entry_ok
returns c = rw (sym c.number_ok.ensures ∙ c.if-not-number_ok.false) (c.reads.ensures ∙ sym (and-true _))
