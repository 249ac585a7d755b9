-- `dry_run` meets its contract: a list that no session has is refused, else its session runs the tour.
use mathlib.Core.Path.{◌≡◌, ◌∙◌}
use lib.ListN.{length}
use borrow.Author.Rules.{rules}
use Rattle.dryrun.specs.Call.{lent}
use Rattle.dryrun.proofs.Ready.{made_fresh, start_some, start_none}
use Rattle.dryrun.proofs.Ran.{dry_started, dry_refused}
use Rattle.dryrun.proofs.dry_run.Goals as goal

pub returns-in_default : goal.returns-in_default
returns-in_default c =
    let a = c.args in
    rw c.nowhere.ensures
    (dry_refused a.mode a.clips.now a.file.now a.blocks.now (lent a.records.now a.reasons.now a.queue.now a.sheet.now) (start_none a.mode a.clips.now c.in_default.ensures))

pub run_tour-requires : goal.run_tour-requires
run_tour-requires c =
    let a = c.args in
    let size : length a.queue.now ≡ 1280 = search rules in
    let given = start_some a.mode a.clips.now _ c.in-Some.ensures in
    rw given.1 (made_fresh a.mode a.clips.now a.queue.now given.0 size)

pub returns : goal.returns
returns c =
    let a = c.args in
    let given = start_some a.mode a.clips.now _ c.in-Some.ensures in
    c.run_tour.ensures
    ∙ rw given.1 (dry_started a.mode a.clips.now a.file.now a.blocks.now (lent a.records.now a.reasons.now a.queue.now a.sheet.now) given.0)
