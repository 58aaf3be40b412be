-- `metering::read_meters` meets its contract. The invariant: what is summed up is what the meters so far give. Assumes
-- nothing.
use Prim.Native.Nat.{◌≤◌}
use native.Mathlib.Omega.{arith}
use Rattle.std.proofs.Common.{rules}
use Rattle.rounding.specs.Divided.{sum}
use Rattle.metering.specs.Reading.{limit}
use Rattle.metering.specs.Energy.{rounded_adding, rounded_taking}
use Rattle.metering.proofs.Energy.{next-within, next-read, next-adds, next-takes, next-back, meters-refused}
use Rattle.metering.proofs.read_meters.Goals as goal
use Rattle.metering.proofs.read_meters.Goals.{In_ok-moved}

within : (c : In_ok-moved) → (c.in_ok-moved.moved.readings.adds ≤ limit) × (c.in_ok-moved.moved.readings.takes ≤ limit)
within c =
    next-within c.args.direction c.args.meters.now c.loop-meter.meter-index _ c.in_ok-moved.moved
    c.loop-meter-test.true c.in_ok-moved.ensures

pub loop-meter-init : goal.loop-meter-init
unfolding rounded_adding rounded_taking sum
loop-meter-init c = search rules

pub returns-in_err-moved : goal.returns-in_err-moved
returns-in_err-moved c =
    let ms = c.args.meters.now in
    let i = c.loop-meter.meter-index in
    let e = meters-refused c.args.direction ms i _ _ c.loop-meter-test.true c.in_err-moved.ensures in
    search rules

pub overflow_add-adds : goal.overflow_add-adds
overflow_add-adds c = omega (arith, within (goal.at.overflow_add-adds c).In_ok-moved)

pub overflow_add-takes : goal.overflow_add-takes
overflow_add-takes c = omega (arith, within (goal.at.overflow_add-takes c).In_ok-moved)

pub loop-meter-preserved : goal.loop-meter-preserved
loop-meter-preserved c =
    let w = within (goal.at.loop-meter-preserved c).In_ok-moved in
    let ms = c.args.meters.now in
    let i = c.loop-meter.meter-index in
    let x = c.in_ok-moved.moved in
    record {
      read = next-read c.args.direction ms i _ x c.loop-meter-test.true c.in_ok-moved.ensures
          c.loop-meter.invariant.read;
      adds_so_far = omega (arith, next-adds c.args.direction ms i _ x c.loop-meter-test.true c.in_ok-moved.ensures);
      takes_so_far = omega (arith, next-takes c.args.direction ms i _ x c.loop-meter-test.true c.in_ok-moved.ensures);
      back_so_far = cc (next-back c.args.direction ms i _ x c.loop-meter-test.true c.in_ok-moved.ensures);
      few_adds = omega arith;
      few_takes = omega arith;
    }
