-- What the steps inside this layer answer. Only contracts of private functions cite these; the rules are in `Reading`
-- and `Energy`.
use Rattle.std.specs.Prelude.{ℕ, zero, suc, ◌+◌, ◌*◌, ◌^◌, Bool, ◌&&◌, List}
use Rattle.std.specs.List.{list_all, list_any}
use Rattle.rounding.specs.Outcome.{Outcome, given, refuse_unless}
use Rattle.rounding.specs.Divided.{divided, opposite}
use Rattle.rounding.specs.declared.Direction.{Direction}
use Rattle.rounding.specs.declared.Direction.TheVariants.{Up, Down}
use Rattle.metering.specs.Reading.{unit, exact_by}
use Rattle.metering.specs.Energy.{adding, taking, has_ratio, is_accepted, runs_back, rounded_adding, rounded_taking}
use Rattle.metering.specs.declared.Bounds.{Bounds}
use Rattle.metering.specs.declared.Meter.{Meter}
use Rattle.metering.specs.declared.Moved.{Moved}

-- The magnitude of a finite register, in units, by its exponent field and its digits: a leading one before the digits,
-- 8388608 of their last place, save where the field is 0.
unfoldable pub magnitude : ℕ → ℕ → ℕ
magnitude zero digits = 1000 * digits
magnitude (suc x) digits = 1000 * ((8388608 + digits) * 2 ^ x)

-- An exact value in whole watt-hours, rounded down and up.
abbrev pub rounded_both_ways : ℕ → Bounds
rounded_both_ways x = record { down = divided Down x unit; up = divided Up x unit }

-- A meter is read where neither 2 nor 3 refuses it.
abbrev pub is_read : Meter → Bool
is_read m = has_ratio m && is_accepted m

-- One meter: what adds and what is taken, rounded, and whether it runs back.
abbrev pub meter_moved : Direction → Meter → Moved
meter_moved dir m =
    record {
      readings = record {
        adds = divided dir (exact_by m.ratio (adding m)) unit;
        takes = divided (opposite dir) (exact_by m.ratio (taking m)) unit;
      };
      back = runs_back m;
    }

-- A meter that is not read is refused by number 3: its ratio is in its range wherever this is asked.
abbrev pub meter_read : Direction → Meter → Outcome Moved
meter_read dir m = refuse_unless 3 (is_read m) (given (meter_moved dir m))

-- The same of a list of meters.
abbrev pub meters_moved : Direction → List Meter → Moved
meters_moved dir ms =
    record {
      readings = record { adds = rounded_adding dir ms; takes = rounded_taking dir ms };
      back = list_any runs_back ms;
    }

abbrev pub meters_read : Direction → List Meter → Outcome Moved
meters_read dir ms = refuse_unless 3 (list_all is_read ms) (given (meters_moved dir ms))
