-- Settings in their ranges, one by one. Assumes nothing.
use mathlib.Core.Path.{◌≡◌}
use mathlib.Core.Bool.{Bool, true, ◌&&◌}
use lib.Dec.{leb}
use Rattle.counts.specs.Below.{within}
use Rattle.counts.proofs.Truth.{and_l, and_r}
use Rattle.bank.specs.WellFormed.{rate_ok}
use Rattle.stage.specs.declared.Settings.{Settings}
use Rattle.stage.specs.Mode.{mode_ok}
use Rattle.session.specs.WellFormed.{settings_ok}

pub record Ranged (x : Settings) : Type 0 where
  pub rate : rate_ok x.rate ≡ true
  pub queue : within 1 4096 x.queue ≡ true
  pub capture : leb x.capture 4096 ≡ true
  pub pool : within 1 33554432 x.pool ≡ true
  pub mode : mode_ok x.mode ≡ true

pub ranged : (x : Settings) → settings_ok x ≡ true → Ranged x
unfolding settings_ok
ranged x e =
    let queued : Bool = rate_ok x.rate && within 1 4096 x.queue in
    let captured : Bool = queued && leb x.capture 4096 in
    let pooled : Bool = captured && within 1 33554432 x.pool in
    let p : pooled ≡ true = and_l pooled (mode_ok x.mode) e in
    let c : captured ≡ true = and_l captured (within 1 33554432 x.pool) p in
    let q : queued ≡ true = and_l queued (leb x.capture 4096) c in
    record {
      rate = and_l (rate_ok x.rate) (within 1 4096 x.queue) q;
      queue = and_r (rate_ok x.rate) (within 1 4096 x.queue) q;
      capture = and_r queued (leb x.capture 4096) c;
      pool = and_r captured (within 1 33554432 x.pool) p;
      mode = and_r pooled (mode_ok x.mode) e;
    }
