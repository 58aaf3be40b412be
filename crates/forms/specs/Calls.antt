-- The call that a form makes (document 01, "The text the program tally reads": "N is the entry's number", and "The
-- ledger": "with any arguments"). Its numbers are those written, however large; `fitted-replies` shows that an entry or
-- a drop judges the largest number of a field as it judges any larger one.
use Rattle.std.specs.Prelude.{ℕ, cond, List, ◌++◌, map, leb, length, take, replicate, Option, None, Some, option_map}
use Rattle.std.specs.Float.{binary32}
use Rattle.std.specs.Float.Ieee.{of_bits}
use Rattle.metering.specs.Energy.{no_meter}
use Rattle.metering.specs.declared.Interval.TheVariants.{Counts, Singles}
use Rattle.metering.specs.declared.Meter.{Meter}
use Rattle.fuel.specs.Fuel.{no_line}
use Rattle.fuel.specs.declared.FuelKind.{FuelKind}
use Rattle.fuel.specs.declared.FuelKind.TheVariants.{Energy, Mass, Volume}
use Rattle.fuel.specs.declared.FuelLine.{FuelLine}
use Rattle.emissions.specs.declared.Margins.{Margins}
use Rattle.emissions.specs.declared.CombinedMargin.{CombinedMargin}
use Rattle.emissions.specs.declared.CombinedMargin.TheVariants.{Stated, Mean}
use Rattle.emissions.specs.declared.GridEntry.{GridEntry}
use Rattle.emissions.specs.declared.Supply.{Supply}
use Rattle.emissions.specs.declared.Supply.TheVariants.{Combined, GridDefault, Captive, CaptiveDefault, Either}
use Rattle.emissions.specs.declared.Loss.{Loss}
use Rattle.emissions.specs.declared.Loss.TheVariants.{Nothing, Measured, Default20, Default3}
use Rattle.ledger.specs.Standing.{Call, enter_grid, enter_plant, enter_source}
use Rattle.ledger.specs.Standing as call
use Rattle.records.specs.declared.Plant.{Plant}
use Rattle.records.specs.declared.SourceEntry.{SourceEntry}
use Rattle.forms.specs.Form.{MeterForm, whole, single, WrittenPlant, Form, grid, margins, plant, source, drop_source, drop_plant, report}
use Rattle.forms.specs.Reading.{line_form}
use Rattle.forms.specs.declared.Call as declared
use Rattle.forms.specs.declared.Call.TheVariants as line

-- "A meter gains a ratio from 1 to 10,000, written before its sign; left out, it is 1" (document 02, wish 4).
abbrev pub ratio_of : Option ℕ → ℕ
ratio_of None = 1
ratio_of (Some ratio) = ratio

-- A register is the binary32 value of its 32 bits ("an IEEE 754 binary32 register in kWh"); every pattern that is not a
-- number is one value.
abbrev pub meter_of : MeterForm → Meter
meter_of (whole ratio sign first last) = record { ratio = ratio_of ratio; sign = sign; interval = Counts first last }
meter_of (single ratio sign first last) =
    record {
      ratio = ratio_of ratio;
      sign = sign;
      interval = Singles (record { first = of_bits binary32 first; last = of_bits binary32 last });
    }

-- An entry has four places: the first of the parts, and empty ones. It counts all parts.
unfoldable pub four_of : {A : Type 0} → A → List A → List A
four_of empty parts = take 4 (parts ++ replicate 4 empty)

-- "H zero or unstated means as before" (document 02, wish 5).
abbrev pub heat_of : Option ℕ → ℕ
heat_of None = 0
heat_of (Some H) = H

abbrev pub plant_of : WrittenPlant → Plant
plant_of p =
    record {
      site = p.site;
      generation = p.generation;
      heat = heat_of p.heat;
      lines = four_of no_line p.lines;
      count = length p.lines;
    }

unfoldable pub call_of : Form → Call
call_of (grid F kind) = enter_grid (record { margin = Stated F; kind = kind })
call_of (margins O B X Y kind) =
    enter_grid
    (record {
      margin = Mean (record { operating = O; build = B; weights = record { operating = X; build = Y } });
      kind = kind;
    })
call_of (plant N p) = enter_plant N (plant_of p)
call_of (source N side supply loss meters) =
    enter_source N
    (record {
      side = side;
      supply = supply;
      loss = loss;
      meters = four_of no_meter (map meter_of meters);
      count = length meters;
    })
call_of (drop_source N) = call.drop_source N
call_of (drop_plant N) = call.drop_plant N
call_of report = call.report

-- The call of a line, where it is a form.
unfoldable pub line_call : List ℕ → Option Call
line_call line = option_map call_of (line_form line)

-- ---- a call in the box's fields: a number larger than its field is the field's largest

abbrev pub at_most : ℕ → ℕ → ℕ
at_most limit n = cond (leb n limit) n limit

abbrev pub byte_field : ℕ → ℕ
byte_field n = at_most 255 n

abbrev pub half_field : ℕ → ℕ
half_field n = at_most 65535 n

abbrev pub word_field : ℕ → ℕ
word_field n = at_most 4294967295 n

abbrev pub fitted_margins : Margins → Margins
fitted_margins m =
    record {
      operating = word_field m.operating;
      build = word_field m.build;
      weights = record { operating = byte_field m.weights.operating; build = byte_field m.weights.build };
    }

abbrev pub fitted_margin : CombinedMargin → CombinedMargin
fitted_margin (Stated F) = Stated (word_field F)
fitted_margin (Mean m) = Mean (fitted_margins m)

abbrev pub fitted_grid : GridEntry → GridEntry
fitted_grid g = record { margin = fitted_margin g.margin; kind = g.kind }

abbrev pub fitted_supply : Supply → Supply
fitted_supply Combined = Combined
fitted_supply GridDefault = GridDefault
fitted_supply (Captive S) = Captive (byte_field S)
fitted_supply CaptiveDefault = CaptiveDefault
fitted_supply (Either S) = Either (byte_field S)

abbrev pub fitted_loss : Loss → Loss
fitted_loss (Measured T) = Measured (half_field T)
fitted_loss Default20 = Default20
fitted_loss Default3 = Default3
fitted_loss Nothing = Nothing

abbrev pub fitted_fuel_kind : FuelKind → FuelKind
fitted_fuel_kind (Energy Q NCV C) = Energy (word_field Q) (word_field NCV) (word_field C)
fitted_fuel_kind (Mass Q W) = Mass (word_field Q) (word_field W)
fitted_fuel_kind (Volume Q density W) = Volume (word_field Q) (word_field density) (word_field W)

abbrev pub fitted_line : FuelLine → FuelLine
fitted_line l = record { kind = fitted_fuel_kind l.kind }

-- Heat has a field that holds every decimal.
abbrev pub fitted_plant : Plant → Plant
fitted_plant p =
    record {
      site = byte_field p.site;
      generation = word_field p.generation;
      heat = p.heat;
      lines = map fitted_line p.lines;
      count = byte_field p.count;
    }

abbrev pub fitted_meter : Meter → Meter
fitted_meter m = record { ratio = half_field m.ratio; sign = m.sign; interval = m.interval }

-- The meter of a form, in the box's fields.
abbrev pub fitted_meter_of : MeterForm → Meter
fitted_meter_of m = fitted_meter (meter_of m)

abbrev pub fitted_source : SourceEntry → SourceEntry
fitted_source e =
    record {
      side = e.side;
      supply = fitted_supply e.supply;
      loss = fitted_loss e.loss;
      meters = map fitted_meter e.meters;
      count = byte_field e.count;
    }

unfoldable pub fitted : Call → Call
fitted (enter_grid g) = enter_grid (fitted_grid g)
fitted (enter_plant n p) = enter_plant (byte_field n) (fitted_plant p)
fitted (enter_source n e) = enter_source (byte_field n) (fitted_source e)
fitted (call.drop_plant n) = call.drop_plant (byte_field n)
fitted (call.drop_source n) = call.drop_source (byte_field n)
fitted call.report = call.report

-- The call of a form, in the box's fields.
abbrev pub fitted_call : Form → Call
fitted_call f = fitted (call_of f)

-- ---- a call as the code has it

abbrev pub call_meaning : declared.Call → Call
call_meaning (line.EnterGrid g) = enter_grid g
call_meaning (line.EnterPlant n p) = enter_plant n p
call_meaning (line.EnterSource n e) = enter_source n e
call_meaning (line.DropPlant n) = call.drop_plant n
call_meaning (line.DropSource n) = call.drop_source n
call_meaning line.Report = call.report
