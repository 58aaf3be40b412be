-- A fuel line (document 01, "Losses and factors", captive, and "Plant entry", number 2; document 02, wishes 2 and 5).
use Rattle.std.specs.Prelude.{ℕ, ◌*◌, Bool, true, false, cond, ◌&&◌, List, [], ◌∷◌, leb, Option, None, Some}
use Rattle.rounding.specs.Outcome.{Outcome, given, refuse_unless}
use Rattle.rounding.specs.Divided.{divided}
use Rattle.rounding.specs.Ratio.{Ratio, ◌÷◌}
use Rattle.rounding.specs.declared.Direction.{Direction}
use Rattle.fuel.specs.declared.FuelKind.{FuelKind}
use Rattle.fuel.specs.declared.FuelKind.TheVariants.{Energy, Mass, Volume}
use Rattle.fuel.specs.declared.FuelLine.{FuelLine}

-- The empty line: what a place for a fuel line holds where there is none.
abbrev pub no_line : FuelLine
no_line = record { kind = Energy 0 0 0 }

-- What number 2 does not refuse: "Q above 100,000,000, V outside 1 to 150,000, or C above 200,000"; "Q keeps its limit,
-- and W above 10,000 or a density above 2,000 is refused 2".
abbrev pub kind_fits : FuelKind → Bool
kind_fits (Energy Q NCV C) = leb Q 100000000 && leb 1 NCV && leb NCV 150000 && leb C 200000
kind_fits (Mass Q W) = leb Q 100000000 && leb W 10000
kind_fits (Volume Q density W) = leb density 2000 && (leb Q 100000000 && leb W 10000)

unfoldable pub within_limits : FuelLine → Bool
within_limits l = kind_fits l.kind

-- "Each fuel line .. gives Q × V × C ÷ 1,000 mg: Q quantity in mass or volume units, V net calorific value in kJ a
-- unit, C in mg CO2 a MJ." "By mass the line is Q × W × 1,100 ÷ 3 mg, by volume Q × density × W × 11 ÷ 30, from 44/12":
-- Q in kg or litres, the density in g a litre, W the carbon fraction in ten-thousandths.
abbrev pub kind_milligrams : FuelKind → Ratio
kind_milligrams (Energy Q NCV C) = (Q * NCV * C) ÷ 1000
kind_milligrams (Mass Q W) = (Q * W * 1100) ÷ 3
kind_milligrams (Volume Q density W) = (Q * density * W * 11) ÷ 30

unfoldable pub exact_milligrams : FuelLine → Ratio
exact_milligrams l = kind_milligrams l.kind

-- The line's milligrams, rounded.
unfoldable pub rounded_milligrams : Direction → FuelLine → ℕ
rounded_milligrams dir l = divided dir (exact_milligrams l).plus (exact_milligrams l).over

-- What the line gives, or refusal 2.
unfoldable pub line_milligrams : Direction → FuelLine → Outcome ℕ
line_milligrams dir l = refuse_unless 2 (within_limits l) (given (rounded_milligrams dir l))

-- ---- the energy of a line

-- "A fuel line becomes one of three kinds: energy, as now; carbon by mass ..; carbon by volume".
abbrev pub kind_is_energy : FuelKind → Bool
kind_is_energy (Energy Q NCV C) = true
kind_is_energy (Mass Q W) = false
kind_is_energy (Volume Q density W) = false

unfoldable pub is_energy : FuelLine → Bool
is_energy l = kind_is_energy l.kind

-- Q × V, in kJ. A carbon line states no V.
abbrev pub kind_energy : FuelKind → ℕ
kind_energy (Energy Q NCV C) = Q * NCV
kind_energy (Mass Q W) = 0
kind_energy (Volume Q density W) = 0

unfoldable pub line_energy : FuelLine → ℕ
line_energy l = kind_energy l.kind

-- The energy that a line within its limits states; none of a carbon line, and of a line that number 2 refuses.
abbrev pub states_energy : FuelLine → Bool
states_energy l = is_energy l && within_limits l

unfoldable pub stated_energy : FuelLine → Option ℕ
stated_energy l = cond (states_energy l) (Some (line_energy l)) None

-- ---- several lines

-- Whether each of them passes a test.
unfoldable pub all_lines : (FuelLine → Bool) → List FuelLine → Bool
all_lines test [] = true
all_lines test (l ∷ ls) = test l && all_lines test ls
