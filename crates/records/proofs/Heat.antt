-- What is known of a plant's heat that was judged. Assumes nothing.
use Rattle.std.specs.Prelude.{Option, None, Some}
use Prim.Native.Nat.{ℕ, ◌≤◌, ◌<◌}
use mathlib.Core.Path.{◌≡◌, refl, sym}
use mathlib.Core.Bool.{Bool, true, false, cond, ◌&&◌}
use mathlib.Core.List.{List}
use lib.Dec.{leb}
use borrow.Author.Tests.{leb-true, ltb-true}
use Rattle.std.proofs.lemmas.Option.{none-some, same_Some}
use Rattle.rounding.specs.Outcome.{Outcome, refused, given}
use Rattle.rounding.proofs.Outcomes.{never-given, given_is}
use Rattle.fuel.specs.Fuel.{states_energy, all_lines}
use Rattle.fuel.specs.declared.FuelLine.{FuelLine}
use Rattle.records.specs.Heat.{has_heat, fuel_energy, heat_judged}

-- The three tests, one after the other.
abbrev tests : ℕ → Bool → Bool → Bool → Outcome (Option ℕ)
tests J h stated fits = cond h (cond stated (cond fits (given (Some J)) (refused 17)) (refused 16)) (given None)

-- Where no heat was found there is none.
pub heat-none : (H count : ℕ) (ls : List FuelLine) → heat_judged H count ls ≡ given None → has_heat H ≡ false
heat-none H count ls q = go (has_heat H) (leb count 4 && all_lines states_energy ls) (leb H (fuel_energy ls)) q
  where
    go : (h s t : Bool) → tests (fuel_energy ls) h s t ≡ given None → h ≡ false
    go true true true q = absurd (none-some (fuel_energy ls) (sym (given_is q)))
    go true true false q = absurd (never-given q)
    go true false t q = absurd (never-given q)
    go false s t q = refl

-- Heat that is within the energy is above 0 and at most that of the lines.
pub heat-within : (H count : ℕ) (ls : List FuelLine) (J : ℕ) → heat_judged H count ls ≡ given (Some J)
    → (0 < H) × (H ≤ J) × (J ≡ fuel_energy ls)
heat-within H count ls J q =
    go (has_heat H) (leb count 4 && all_lines states_energy ls) (leb H (fuel_energy ls)) refl refl q
  where
    go : (h s t : Bool) → has_heat H ≡ h → leb H (fuel_energy ls) ≡ t → tests (fuel_energy ls) h s t ≡ given (Some J)
        → (0 < H) × (H ≤ J) × (J ≡ fuel_energy ls)
    go true true true h t q =
        let e = same_Some (fuel_energy ls) J (given_is q) in
        (ltb-true 0 H h, rw (← e) (leb-true H (fuel_energy ls) t), sym e)
    go true true false h t q = absurd (never-given q)
    go true false t h e q = absurd (never-given q)
    go false s t h e q = absurd (none-some J (given_is q))
