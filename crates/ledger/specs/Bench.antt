-- The bench table (document 01, "Bench table"), rows (a) to (i).
use Rattle.std.specs.Prelude.{ℕ, ◌≡◌, List, [], ◌∷◌}
use Rattle.std.specs.Float.{binary32}
use Rattle.std.specs.Float.Ieee.{of_bits}
use Rattle.rounding.specs.declared.Direction.TheVariants.{Up, Down}
use Rattle.metering.specs.Reading.{watt_hours}
use Rattle.metering.specs.declared.Reading.TheVariants.{Single}
use Rattle.fuel.specs.Fuel.{rounded_milligrams}
use Rattle.fuel.specs.declared.FuelKind.TheVariants.{Energy}
use Rattle.fuel.specs.declared.FuelLine.{FuelLine}
use Rattle.rounding.specs.Outcome.{Outcome, refused, given}
use Rattle.emissions.specs.Factor.{captive_judged}
use Rattle.emissions.specs.Figure.{energy_with_losses}

-- What a row says: a register's watt-hours without a transformer, by ratio 1, down and up, or their refusal; a fuel
-- line's milligrams; a captive factor of so many milligrams over so many kWh, down and up; a loss T on an energy E,
-- down and up.
pub data Row : Type 0 where
  register : ℕ → Outcome ℕ → Outcome ℕ → Row
  fuel_line : FuelLine → ℕ → Row
  captive : ℕ → ℕ → Outcome ℕ → Outcome ℕ → Row
  losses : ℕ → ℕ → ℕ → ℕ → Row

abbrev pub Right : Row → Type 0
Right (register bits down up) =
    (watt_hours Down 1 (Single (of_bits binary32 bits)) ≡ down)
    × (watt_hours Up 1 (Single (of_bits binary32 bits)) ≡ up)
Right (fuel_line l mg) = (rounded_milligrams Down l ≡ mg) × (rounded_milligrams Up l ≡ mg)
Right (captive mg G down up) = (captive_judged Down mg G ≡ down) × (captive_judged Up mg G ≡ up)
Right (losses E T down up) = (energy_with_losses Down E T ≡ down) × (energy_with_losses Up E T ≡ up)

abbrev pub table : List Row
table =
    register 0x3f800000 (given 1000) (given 1000)  -- (a)
    ∷ register 0x42f6e979 (given 123456) (given 123457)  -- (b)
    ∷ register 0x00000001 (given 0) (given 1)  -- (c)
    ∷ register 0x80000000 (given 0) (given 0)  -- (d)
    ∷ register 0x4cbebc20 (given 100000000000) (given 100000000000)  -- (e)
    ∷ register 0x4cbebc21 (refused 3) (refused 3)
    ∷ fuel_line (record { kind = Energy 1000 43000 74100 }) 3186300000  -- (f)
    ∷ captive 3186300000 7000 (given 455185) (given 455186)  -- (g)
    ∷ losses 1000001 2000 1200001 1200002  -- (h)
    ∷ captive 3186300000 999 (refused 9) (refused 9)  -- (i)
    ∷ captive 3186300000 1000 (given 3186300) (given 3186300)
    ∷ []

-- Every row is what the definitions give.
abbrev pub AllRight : List Row → Type 0
AllRight [] = Unit {0}
AllRight (r ∷ rs) = Right r × AllRight rs
