use mathlib.Core.Path.{◌≡◌}
use mathlib.Core.Bool.{true}
use Prim.Native.Nat.{◌*◌, ◌≤◌}
use lib.ListN.{take}
use Rattle.std.specs.List.{list_all, list_any}
use Rattle.metering.specs.Reading.{limit}
use Rattle.metering.specs.Energy.{runs_back, rounded_adding, rounded_taking}
use Rattle.metering.specs.Steps.{is_read}
use Rattle.metering.proofs.read_meters.Given as goal

abbrev pub invariant-loop-meter : goal.invariant-loop-meter
invariant-loop-meter l = record {
  read : list_all is_read (take l.meter-index l.meters) ≡ true;
  adds_so_far : l.adds ≡ rounded_adding l.direction (take l.meter-index l.meters);
  takes_so_far : l.takes ≡ rounded_taking l.direction (take l.meter-index l.meters);
  back_so_far : l.back ≡ list_any runs_back (take l.meter-index l.meters);
  few_adds : l.adds ≤ l.meter-index * limit;
  few_takes : l.takes ≤ l.meter-index * limit;
}
