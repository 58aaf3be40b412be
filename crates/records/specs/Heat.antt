-- The heat that a plant also makes, and the energy of its fuel that it is a part of (document 02, wish 5).
use Rattle.std.specs.Prelude.{ℕ, Bool, cond, ◌&&◌, List, map, leb, ltb, Option, None, Some}
use Rattle.rounding.specs.Divided.{sum}
use Rattle.rounding.specs.Outcome.{Outcome, refused, given}
use Rattle.fuel.specs.Fuel.{is_energy, line_energy, states_energy, all_lines}
use Rattle.fuel.specs.declared.FuelLine.{FuelLine}

-- Heat above 0: "H zero or unstated means as before."
abbrev pub has_heat : ℕ → Bool
has_heat H = ltb 0 H

-- "J is the plant's summed Q × V": of its fuel lines, in kJ.
unfoldable pub fuel_energy : List FuelLine → ℕ
fuel_energy ls = sum (map line_energy ls)

-- No carbon line is among them.
abbrev pub all_energy : List FuelLine → Bool
all_energy ls = all_lines is_energy ls

-- What is judged of a plant's heat: none where there is none; 16 where a line states no energy; 17 where it is above J;
-- and else J. Lines that number 2 refuses state none, so that no sum wraps: an entry that has passed 2 has at most four
-- lines, each within its limits.
abbrev pub heat_within : ℕ → ℕ → Outcome (Option ℕ)
heat_within H J = cond (leb H J) (given (Some J)) (refused 17)

abbrev pub heat_judged : ℕ → ℕ → List FuelLine → Outcome (Option ℕ)
heat_judged H count ls =
    cond (has_heat H)
    (cond (leb count 4 && all_lines states_energy ls) (heat_within H (fuel_energy ls)) (refused 16))
    (given None)
