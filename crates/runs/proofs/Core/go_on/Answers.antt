-- `Core::go_on` meets its contract: a run of frames, and after it one by the rules. Assumes nothing.
use mathlib.Core.Path.{sym, ◌∙◌}
use native.Mathlib.Omega.{arith}
use Rattle.bank.specs.Recording.{recording_of}
use Rattle.runs.proofs.Cores.{after_next, passes_next}
use Rattle.runs.proofs.Calm.{adds_next, lead_after, lead_over, lead_passes}
use Rattle.runs.proofs.Core.go_on.Goals as goal

pub returns-then-ahead-most : goal.returns-then-ahead-most
returns-then-ahead-most c =
    let r = c.run-core.ensures in
    let a = c.ahead-ahead.ensures in
    rw (← c.if-ahead-most.true) (
      rw c.if-ahead-most.true c.requires.1,
      omega arith,
      r.0 ∙ lead_after c.args.pool.now c.args.given.settings c.args.given.song c.args.given.clip c.args.self _ a.1,
      r.1 ∙ lead_over c.args.pool.now c.args.given.settings c.args.given.song c.args.given.clip c.args.self _ a.1 _,
      sym (lead_passes c.args.pool.now c.args.given.settings c.args.given.song c.args.given.clip c.args.self _ a.1),
    )

pub returns : goal.returns
returns c =
    let f = c.frame-made.ensures in
    let r = c.run-core.ensures in
    let a = c.ahead-ahead.ensures in
    let n = c.ahead-ahead.result in
    let x = c.args.given.settings in
    let t = recording_of c.args.pool.now c.args.given.song in
    let u = recording_of c.args.pool.now c.args.given.clip in
    let core = r.0 ∙ lead_after c.args.pool.now x c.args.given.song c.args.given.clip c.args.self n a.1 in
    let out = r.1 ∙ lead_over c.args.pool.now x c.args.given.song c.args.given.clip c.args.self n a.1 _ in (
      omega arith,
      omega (arith, a.0, c.if-ahead-most.false),
      rw (f, core) (after_next x t u n c.args.self),
      adds_next x t u c.args.self n c.args.out.now _ _ _ out core f,
      rw (f, core) (passes_next x t u n c.args.self (lead_passes c.args.pool.now x c.args.given.song c.args.given.clip c.args.self n a.1)),
    )
