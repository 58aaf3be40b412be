-- A meter reading, its exact value, and its whole watt-hours (document 01, "From register to watt-hours", first
-- paragraph; document 02, wish 4).
use Rattle.std.specs.Prelude.{ℕ, ◌*◌, ◌/◌, ◌^◌, Bool, true, false, not, ◌&&◌, ◌||◌, leb, eqb, Float}
use Rattle.std.specs.Float.{nan, inf, fin}
use Rattle.std.specs.Float.Ieee.{up, down}
use Rattle.rounding.specs.Outcome.{Outcome, given, refuse_unless}
use Rattle.rounding.specs.Divided.{divided}
use Rattle.rounding.specs.declared.Direction.{Direction}
use Rattle.metering.specs.declared.Reading.{Reading}
use Rattle.metering.specs.declared.Reading.TheVariants.{Whole, Single}

-- Exact values are counted in units of 2 ^ -149 Wh: every finite binary32 number is a whole multiple of 2 ^ -149.
abbrev pub unit : ℕ
unit = 2 ^ 149

-- "watt-hours, 0 to 100,000,000,000"; "in kWh, 0 to 100,000,000", which is the same.
abbrev pub limit : ℕ
limit = 100000000000

-- "A single's exact value in Wh is 1,000 times the register." A finite register is m × up e ÷ down e kWh, with its sign
-- apart. What is no number has no value; it is refused. A register is a binary32 value, and the definitions give a
-- meaning to no float of another width: only of binary32 does the division leave nothing over (`exact-register`).
unfoldable pub exact_register : Float → ℕ
exact_register nan = 0
exact_register (inf s) = 0
exact_register (fin s m e) = 1000 * (m * up e) * unit / down e

-- The exact value of a reading without its meter's ratio, in units.
abbrev pub exact : Reading → ℕ
exact (Whole w) = w * unit
exact (Single x) = exact_register x

-- "A reading's exact value is multiplied by it before rounding" (document 02, wish 4): by the ratio of the meter.
abbrev pub exact_by : ℕ → Reading → ℕ
exact_by ratio r = exact r * ratio

-- "3 .. a register below zero, infinite or not a number": s is the sign. "Negative zero is zero."
unfoldable pub is_readable_register : Float → Bool
is_readable_register nan = false
is_readable_register (inf s) = false
is_readable_register (fin s m e) = not s || eqb m 0

abbrev pub is_readable : Reading → Bool
is_readable (Whole w) = true
is_readable (Single x) = is_readable_register x

-- What number 3 does not refuse: "3 a reading above its limit, a register below zero, infinite or not a number"; "the
-- limit of 100,000,000,000 Wh is on the product" (document 02, wish 4).
abbrev pub accepted : ℕ → Reading → Bool
accepted ratio r = is_readable r && leb (exact_by ratio r) (limit * unit)

-- "A meter gains a ratio from 1 to 10,000" (document 02, wish 4).
abbrev pub ratio_limit : ℕ
ratio_limit = 10000

abbrev pub ratio_fits : ℕ → Bool
ratio_fits ratio = leb 1 ratio && leb ratio ratio_limit

-- A reading's whole watt-hours, "up .. the least whole number not below the exact value, down the greatest not above
-- it", or the number of its refusal; "A ratio outside its range is refused 2" (document 02, wish 4).
abbrev pub watt_hours : Direction → ℕ → Reading → Outcome ℕ
watt_hours dir ratio r =
    refuse_unless 2 (ratio_fits ratio)
    (refuse_unless 3 (accepted ratio r)
    (given (divided dir (exact_by ratio r) unit)))
