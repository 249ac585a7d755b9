-- `run_tour` meets its contract: the reader's refusals, then 4, else the run.
use mathlib.Core.Path.{◌≡◌, sym, ◌∙◌}
use native.Mathlib.Omega.{arith}
use lib.ListN.{length}
use borrow.Author.Rules.{rules}
use Rattle.tourfile.proofs.Answers.{done_read, done_room}
use Rattle.dryrun.specs.Blocks.{frames_in}
use Rattle.dryrun.specs.Call.{lent}
use Rattle.dryrun.proofs.Blocks.{sum_taken, sum_refused}
use Rattle.dryrun.proofs.Ran.{tour_late, tour_done}
use Rattle.dryrun.proofs.run_tour.Goals as goal

pub returns-in_default : goal.returns-in_default
returns-in_default c =
    let a = c.args in
    let read = rw c.own_list-words.ensures at (sym c.in_ok-n.ensures) in
    rw c.nowhere.ensures
    (tour_late a.s a.file.now a.blocks.now (lent a.records.now a.reasons.now a.queue.now a.sheet.now) _ _ read (sum_refused (frames_in a.blocks.now) c.in_default.ensures))

pub fill-requires : goal.fill-requires
fill-requires c =
    let a = c.args in
    let size : length a.records.now ≡ 1280 = search rules in
    rw size (done_room _ _ 1280 _ (sym c.in_ok-n.ensures))

pub run_records-requires : goal.run_records-requires
run_records-requires c =
    let fine = sum_taken (frames_in c.args.blocks.now) _ c.in-Some.ensures in
    let n = (done_read _ _ 1280 _ (sym c.in_ok-n.ensures)).fits in
    (omega arith, rw fine.1 fine.0, c.requires)

pub returns : goal.returns
returns c =
    let a = c.args in
    let fine = sum_taken (frames_in a.blocks.now) _ c.in-Some.ensures in
    let own = c.own_list-words.ensures in
    let read = rw own at (sym c.in_ok-n.ensures) in
    tour_done a.s a.file.now a.blocks.now (lent a.records.now a.reasons.now a.queue.now a.sheet.now) _ _ read fine.0 _ _
    (c.run_records.ensures ∙ rw (c.fill.ensures, own, fine.1))
