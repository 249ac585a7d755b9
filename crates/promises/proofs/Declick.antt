-- A reached session is well formed, so its rate is one for which the declick is tono's. Assumes nothing.
use Rattle.counts.proofs.Below.{within_low, within_high}
use Rattle.ramp.proofs.Declick.{as_tono}
use Rattle.stage.specs.declared.Settings.{Settings}
use Rattle.session.proofs.Parts.{parts}
use Rattle.session.proofs.Ranged.{ranged}
use Rattle.promises.specs.Declick.{DeclickAsTono}
use Rattle.promises.proofs.Kept.{reached_good}

pub declick_as_tono : DeclickAsTono
declick_as_tono x r =
    let s : Settings = x.session.settings in
    let ok = (ranged s (parts _ _ _ (reached_good x r).formed).settings).rate in
    as_tono s.rate (within_low 8000 192000 s.rate ok) (within_high 8000 192000 s.rate ok)
