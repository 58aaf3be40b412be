use Rattle.std.proofs.Common.{◌≡◌, drop}
use Rattle.std.specs.List.{list_all}
use Rattle.metering.specs.Energy.{has_ratio}
use Rattle.metering.proofs.ratios_fit.Given as goal

abbrev pub invariant-loop-meter : goal.invariant-loop-meter
invariant-loop-meter l = list_all has_ratio (drop l.meter-index l.meters) ≡ list_all has_ratio l.meters
