-- A source's energy from its meters (document 01, "From register to watt-hours", second paragraph, and "Source entry",
-- numbers 2, 3, 4, 6; document 02, wish 4).
use Rattle.std.specs.Prelude.{ℕ, ◌+◌, ◌-◌, Bool, not, ◌&&◌, List, map, leb, ltb, take}
use Rattle.std.specs.List.{list_all, list_any}
use Rattle.rounding.specs.Outcome.{Outcome, given, refuse_unless}
use Rattle.rounding.specs.Divided.{divided, opposite, sum}
use Rattle.rounding.specs.Ratio.{Ratio}
use Rattle.rounding.specs.declared.Direction.{Direction}
use Rattle.metering.specs.Reading.{unit, limit, exact_by, ratio_fits, accepted}
use Rattle.metering.specs.declared.Reading.{Reading}
use Rattle.metering.specs.declared.Reading.TheVariants.{Whole, Single}
use Rattle.metering.specs.declared.Sign.{Sign}
use Rattle.metering.specs.declared.Sign.TheVariants.{Plus, Minus}
use Rattle.metering.specs.declared.Interval.{Interval}
use Rattle.metering.specs.declared.Interval.TheVariants.{Counts, Singles}
use Rattle.metering.specs.declared.Meter.{Meter}
use Rattle.metering.specs.declared.RoundedReadings.{RoundedReadings}

-- "a first and a last reading, both of one kind".
abbrev pub first_of : Interval → Reading
first_of (Counts f l) = Whole f
first_of (Singles r) = Single r.first

abbrev pub last_of : Interval → Reading
last_of (Counts f l) = Whole l
last_of (Singles r) = Single r.last

-- "A meter's energy is last minus first", and the exact energy "is the sum of the + meters less the - meters": the last
-- reading of a + meter and the first of a - meter add to the energy, and the other two are taken from it.
abbrev pub adding_of : Sign → Interval → Reading
adding_of Plus i = last_of i
adding_of Minus i = first_of i

abbrev pub taking_of : Sign → Interval → Reading
taking_of Plus i = first_of i
taking_of Minus i = last_of i

abbrev pub adding : Meter → Reading
adding m = adding_of m.sign m.interval

abbrev pub taking : Meter → Reading
taking m = taking_of m.sign m.interval

-- The exact energy e, in Wh.
unfoldable pub exact_energy : List Meter → Ratio
exact_energy ms =
    record {
      plus = sum (map (λ (m : Meter). exact_by m.ratio (adding m)) ms);
      minus = sum (map (λ (m : Meter). exact_by m.ratio (taking m)) ms);
      over = unit;
    }

-- "For a project or leakage source a + meter takes last up and first down, and a - meter takes last down and first up;
-- for a baseline source each is the opposite": what adds is rounded in the source's direction, what is taken in the
-- opposite one.
unfoldable pub rounded_adding : Direction → List Meter → ℕ
rounded_adding dir ms = sum (map (λ (m : Meter). divided dir (exact_by m.ratio (adding m)) unit) ms)

unfoldable pub rounded_taking : Direction → List Meter → ℕ
rounded_taking dir ms = sum (map (λ (m : Meter). divided (opposite dir) (exact_by m.ratio (taking m)) unit) ms)

-- "A ratio outside its range is refused 2" (document 02, wish 4).
abbrev pub has_ratio : Meter → Bool
has_ratio m = ratio_fits m.ratio

-- "3 a reading above its limit, a register below zero, infinite or not a number."
abbrev pub is_accepted : Meter → Bool
is_accepted m = accepted m.ratio (first_of m.interval) && accepted m.ratio (last_of m.interval)

-- "4 a last reading below its first, by exact value."
abbrev pub runs_back : Meter → Bool
runs_back m = ltb (exact_by m.ratio (last_of m.interval)) (exact_by m.ratio (first_of m.interval))

-- "Each number is tested over all meters before the next."
unfoldable pub judged_readings : Direction → List Meter → Outcome RoundedReadings
judged_readings dir ms =
    refuse_unless 3 (list_all is_accepted ms)
    (refuse_unless 4 (not (list_any runs_back ms))
    (given record { adds = rounded_adding dir ms; takes = rounded_taking dir ms }))

-- "A source has 1 to 4 meters."
abbrev pub meters_limit : ℕ
meters_limit = 4

-- "2 meters not 1 to 4", or a ratio outside its range; the source's meters are the first `count` ones.
unfoldable pub judged_meters : Direction → ℕ → List Meter → Outcome RoundedReadings
judged_meters dir count ms =
    refuse_unless 2 (leb 1 count && leb count meters_limit && list_all has_ratio (take count ms))
    (judged_readings dir (take count ms))

-- "The signed sum of these is E, in Wh, accepted from 0 to 100,000,000,000"; "6 E below 0 or above its limit".
unfoldable pub settled_energy : ℕ → ℕ → Outcome ℕ
settled_energy adds takes = refuse_unless 6 (leb takes adds && leb adds (takes + limit)) (given (adds - takes))

-- The empty meter: what a place for a meter holds where there is none.
abbrev pub no_meter : Meter
no_meter = record { ratio = 1; sign = Plus; interval = Counts 0 0 }
