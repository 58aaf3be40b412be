-- The milligrams of a plant's fuel lines that count for its electricity, where the plant also makes heat (document 02,
-- wish 5; source document 001, equations 4 and 5, boiler at 100 percent): of any list of fuel lines.
use Rattle.std.specs.Prelude.{ℕ, ◌*◌, ◌-◌, Bool, false, cond, List, map}
use Rattle.rounding.specs.Divided.{divided, sum}
use Rattle.rounding.specs.Ratio.{Ratio, ◌÷◌, ◌*ᵣ◌, sumᵣ}
use Rattle.rounding.specs.declared.Direction.{Direction}
use Rattle.rounding.specs.declared.Direction.TheVariants.{Up, Down}
use Rattle.fuel.specs.Fuel.{exact_milligrams, rounded_milligrams}
use Rattle.fuel.specs.declared.FuelLine.{FuelLine}
use Rattle.records.specs.Heat.{has_heat, fuel_energy}

-- The lines' milligrams, each line rounded, and exactly.
unfoldable pub lines_milligrams : Direction → List FuelLine → ℕ
lines_milligrams dir ls = sum (map (rounded_milligrams dir) ls)

unfoldable pub exact_lines : List FuelLine → Ratio
exact_lines ls = sumᵣ (map exact_milligrams ls)

-- "(J - H) × A ÷ 1,000, where J is the plant's summed Q × V and A its fuel lines' rounded milligrams × 1,000 ÷ J, each
-- rounded down": R are the rounded milligrams. Number 17 keeps H at or below J, so that J - H is the whole difference.
unfoldable pub allocated : ℕ → ℕ → ℕ → ℕ
allocated J H R = divided Down ((J - H) * divided Down (R * 1000) J) 1000

-- "The exact value uses the unrounded quotient": (J - H) × x ÷ J, where x are the lines' exact milligrams. Again 17
-- keeps H at or below J.
unfoldable pub exact_allocated : ℕ → ℕ → Ratio → Ratio
exact_allocated J H x = x *ᵣ ((J - H) ÷ J)

-- "For project and leakage nothing changes. For baseline the plant's milligrams become .."; "H zero or unstated means
-- as before."
abbrev pub is_allocated : Direction → ℕ → Bool
is_allocated Up H = false
is_allocated Down H = has_heat H

unfoldable pub electricity_milligrams : Direction → ℕ → List FuelLine → ℕ
electricity_milligrams dir H ls =
    cond (is_allocated dir H) (allocated (fuel_energy ls) H (lines_milligrams dir ls)) (lines_milligrams dir ls)

unfoldable pub exact_electricity : Direction → ℕ → List FuelLine → Ratio
exact_electricity dir H ls =
    cond (is_allocated dir H) (exact_allocated (fuel_energy ls) H (exact_lines ls)) (exact_lines ls)

-- J of a plant with heat; nothing of one without.
unfoldable pub heated_energy : ℕ → List FuelLine → ℕ
heated_energy H ls = cond (has_heat H) (fuel_energy ls) 0
