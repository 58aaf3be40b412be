-- `metering::watt_hours` meets its contract: of a register by its pattern, which reads back as the register. Assumes
-- nothing.
use mathlib.Core.Path.{sym, ap, ◌∙◌}
use lib.Ieee.{Float, binary32}
use lib.Ieee.Bits.{of_bits-to_bits}
use Rattle.std.proofs.Common.{rules}
use Rattle.metering.specs.Reading.{watt_hours}
use Rattle.metering.specs.declared.Reading.TheVariants.{Single}
use Rattle.metering.proofs.Patterns.{nan-refused}
use Rattle.metering.proofs.Readings.{declined, whole-within, whole-beyond, count-beyond}
use Rattle.metering.proofs.watt_hours.Goals as goal
use Rattle.metering.proofs.watt_hours.Goals.{then-count-gt-LIMIT-via-then-count-gt-LIMIT}
use Rattle.metering.proofs.watt_hours.Goals.{then-count-gt-LIMIT-via-else-count-gt-LIMIT+then-count-ratio-gt-LIMIT}

pub returns-then-count-gt-LIMIT : goal.returns-then-count-gt-LIMIT
returns-then-count-gt-LIMIT c =
    let a = c.args in
    elim c.then-count-gt-LIMIT.branch [
      | then-count-gt-LIMIT-via-then-count-gt-LIMIT w ↦
          rw c.in-Whole.is (count-beyond a.direction a.ratio c.in-Whole.count (search rules) w.if-count-gt-LIMIT.true)
      | then-count-gt-LIMIT-via-else-count-gt-LIMIT+then-count-ratio-gt-LIMIT w ↦
          rw c.in-Whole.is
          (whole-beyond a.direction a.ratio c.in-Whole.count (search rules) w.if-count-ratio-gt-LIMIT.true)
    ]

pub returns-else-count-ratio-gt-LIMIT : goal.returns-else-count-ratio-gt-LIMIT
returns-else-count-ratio-gt-LIMIT c =
    let a = c.args in
    rw c.in-Whole.is (whole-within a.direction a.ratio c.in-Whole.count (search rules) c.if-count-ratio-gt-LIMIT.false)

pub returns-in-Single : goal.returns-in-Single
returns-in-Single c =
    let a = c.args in
    rw c.in-Single.is
    (declined a.direction a.ratio (Single c.in-Single.x) (search rules)
    (nan-refused a.ratio c.in-Single.x (sym c.is_nan.ensures.value ∙ c.if-is_nan.true)))

pub returns-in-Single-2 : goal.returns-in-Single-2
returns-in-Single-2 c =
    let a = c.args in
    c.register_watt_hours.ensures
    ∙ ap (λ (v : Float). watt_hours a.direction a.ratio (Single v))
    (of_bits-to_bits binary32 c.in-Single-2.x (search rules))
    ∙ ap (watt_hours a.direction a.ratio) (sym c.in-Single-2.is)
