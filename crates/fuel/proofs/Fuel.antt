-- What callers know of a fuel line, whatever its kind: it rounds the exact quotient, and within the limits it is given
-- and bounded. Assumes nothing.
use Rattle.std.specs.Prelude.{None, Some}
use Prim.Native.Nat.{ℕ, ◌*◌, ◌<◌, ◌≤◌}
use mathlib.Core.Path.{◌≡◌, refl, sym, ap, subst}
use mathlib.Core.Bool.{Bool, true, false, cond, ◌&&◌}
use Rattle.std.proofs.lemmas.Option.{none-some, same_Some}
use native.Mathlib.Omega.{arith}
use native.Mathlib.Nat.{mul-le-mul}
use lib.Dec.{leb}
use borrow.Author.Tests.{leb-true}
use Rattle.rounding.specs.Outcome.{refused, given, refuse_unless}
use Rattle.rounding.specs.Divided.{Rounds}
use Rattle.rounding.specs.Ratio.{Ratio, ◌÷◌, whole, Conservative}
use Rattle.rounding.specs.declared.Direction.{Direction}
use Rattle.rounding.proofs.Outcomes.{never-given, given_is, test-held}
use Rattle.rounding.proofs.Divided.{rounds, divided-at-most}
use Rattle.rounding.proofs.Ratio.{rounds-conservative}
use Rattle.rounding.proofs.Tests.{and_both}
use Rattle.fuel.specs.Fuel.{kind_fits, within_limits, kind_milligrams, exact_milligrams, rounded_milligrams}
use Rattle.fuel.specs.Fuel.{line_milligrams, kind_is_energy, is_energy, kind_energy, line_energy, states_energy}
use Rattle.fuel.specs.Fuel.{stated_energy}
use Rattle.fuel.specs.declared.FuelKind.{FuelKind}
use Rattle.fuel.specs.declared.FuelKind.TheVariants.{Energy, Mass, Volume}
use Rattle.fuel.specs.declared.FuelLine.{FuelLine}

-- ---- the exact milligrams: a product over a divisor above 0

kind-over : (k : FuelKind) → 0 < (kind_milligrams k).over
kind-over (Energy Q NCV C) = omega arith
kind-over (Mass Q W) = omega arith
kind-over (Volume Q density W) = omega arith

kind-quotient : (k : FuelKind) → kind_milligrams k ≡ ((kind_milligrams k).plus ÷ (kind_milligrams k).over)
kind-quotient (Energy Q NCV C) = refl
kind-quotient (Mass Q W) = refl
kind-quotient (Volume Q density W) = refl

-- The denominator of the exact milligrams is above 0.
pub line-over : (l : FuelLine) → 0 < (exact_milligrams l).over
unfolding exact_milligrams
line-over l = kind-over l.kind

line-quotient : (l : FuelLine) → exact_milligrams l ≡ ((exact_milligrams l).plus ÷ (exact_milligrams l).over)
unfolding exact_milligrams
line-quotient l = kind-quotient l.kind

-- Nothing is subtracted in them.
pub line-unsigned : (l : FuelLine) → (exact_milligrams l).minus ≡ 0
line-unsigned l = ap (λ (x : Ratio). x.minus) (line-quotient l)

-- "from 44/12": the fuel's mass in mg, × W ÷ 10,000 of carbon, × 44 ÷ 12 of CO2. A kg has 1,000,000 mg, a litre density
-- × 1,000 mg.
pub mass-from-carbon : (Q W : ℕ) → (kind_milligrams (Mass Q W)).plus * (10000 * 12)
    ≡ Q * 1000000 * W * 44 * (kind_milligrams (Mass Q W)).over
mass-from-carbon Q W = omega arith

pub volume-from-carbon : (Q density W : ℕ)
    → (kind_milligrams (Volume Q density W)).plus * (10000 * 12)
    ≡ Q * (density * 1000) * W * 44 * (kind_milligrams (Volume Q density W)).over
volume-from-carbon Q density W = omega arith

-- ---- the rounded line

-- It rounds the exact quotient.
pub line-rounds : (dir : Direction) (l : FuelLine)
    → Rounds dir (exact_milligrams l).plus (exact_milligrams l).over (rounded_milligrams dir l)
unfolding rounded_milligrams
line-rounds dir l = rounds dir (exact_milligrams l).plus (exact_milligrams l).over (line-over l)

-- So it stands on the safe side of the exact milligrams, less than 1 mg off.
pub line-conservative : (dir : Direction) (l : FuelLine)
    → Conservative dir (rounded_milligrams dir l) (exact_milligrams l) (whole 1)
line-conservative dir l =
    subst (λ (x : Ratio). Conservative dir (rounded_milligrams dir l) x (whole 1)) (sym (line-quotient l))
    (rounds-conservative dir (exact_milligrams l).plus (exact_milligrams l).over (rounded_milligrams dir l)
    (line-rounds dir l))

-- ---- what a line gives

-- What is given is the rounded line, and the line is within its limits. A line that is refused is not.
pub line-gave : (dir : Direction) (l : FuelLine) (w : ℕ) → line_milligrams dir l ≡ given w
    → (within_limits l ≡ true) × (w ≡ rounded_milligrams dir l)
unfolding line_milligrams
line-gave dir l w e =
    let p = test-held 2 (within_limits l) _ e in
    (p.0, sym (given_is p.1))

pub line-beyond : (dir : Direction) (l : FuelLine) (n : ℕ) → line_milligrams dir l ≡ refused n → within_limits l ≡ false
unfolding line_milligrams
line-beyond dir l n e = go (within_limits l) e
  where
    go : (t : Bool) → refuse_unless 2 t (given (rounded_milligrams dir l)) ≡ refused n → t ≡ false
    go true e = absurd (never-given (sym e))
    go false e = refl

-- ---- the limits, and the products within them, kind by kind

pub energy-limits : (Q NCV C : ℕ) → kind_fits (Energy Q NCV C) ≡ true → (Q ≤ 100000000) × (NCV ≤ 150000) × (C ≤ 200000)
energy-limits Q NCV C e =
    let a = and_both (leb Q 100000000 && leb 1 NCV && leb NCV 150000) _ e in
    let b = and_both (leb Q 100000000 && leb 1 NCV) _ a.0 in
    let c = and_both (leb Q 100000000) (leb 1 NCV) b.0 in
    (leb-true _ _ c.0, leb-true _ _ b.1, leb-true _ _ a.1)

pub mass-limits : (Q W : ℕ) → kind_fits (Mass Q W) ≡ true → (Q ≤ 100000000) × (W ≤ 10000)
mass-limits Q W e = let a = and_both (leb Q 100000000) _ e in (leb-true _ _ a.0, leb-true _ _ a.1)

pub volume-limits : (Q density W : ℕ) → kind_fits (Volume Q density W) ≡ true
    → (Q ≤ 100000000) × (density ≤ 2000) × (W ≤ 10000)
volume-limits Q density W e =
    let a = and_both (leb density 2000) _ e in
    let b = mass-limits Q W a.1 in
    (b.0, leb-true _ _ a.0, b.1)

pub energy-product : (Q NCV C : ℕ) → kind_fits (Energy Q NCV C) ≡ true
    → (Q * NCV ≤ 15000000000000) × (Q * NCV * C ≤ 3000000000000000000)
energy-product Q NCV C e =
    let l = energy-limits Q NCV C e in
    (mul-le-mul l.0 l.1, mul-le-mul (mul-le-mul l.0 l.1) l.2)

pub mass-product : (Q W : ℕ) → kind_fits (Mass Q W) ≡ true → Q * W ≤ 1000000000000
mass-product Q W e = let l = mass-limits Q W e in mul-le-mul l.0 l.1

pub volume-product : (Q density W : ℕ) → kind_fits (Volume Q density W) ≡ true
    → (Q * density ≤ 200000000000) × (Q * density * W ≤ 2000000000000000)
volume-product Q density W e =
    let l = volume-limits Q density W e in
    (mul-le-mul l.0 l.1, mul-le-mul (mul-le-mul l.0 l.1) l.2)

-- ---- the bound within the limits

kind-bound : (k : FuelKind) → kind_fits k ≡ true
    → (kind_milligrams k).plus ≤ 3000000000000000 * (kind_milligrams k).over
kind-bound (Energy Q NCV C) e = omega (arith, (energy-product Q NCV C e).1)
kind-bound (Mass Q W) e = omega (arith, mass-product Q W e)
kind-bound (Volume Q density W) e = omega (arith, (volume-product Q density W e).1)

-- A line within its limits is at most 3,000,000,000,000,000 mg.
pub line-bound : (dir : Direction) (l : FuelLine) → within_limits l ≡ true → rounded_milligrams dir l ≤ 3000000000000000
unfolding rounded_milligrams exact_milligrams within_limits
line-bound dir l e =
    divided-at-most dir (exact_milligrams l).plus (exact_milligrams l).over 3000000000000000 (line-over l)
    (kind-bound l.kind e)

-- ---- the energy of a line

kind-energy-bound : (k : FuelKind) → kind_fits k ≡ true → kind_energy k ≤ 15000000000000
kind-energy-bound (Energy Q NCV C) e = (energy-product Q NCV C e).0
kind-energy-bound (Mass Q W) e = omega arith
kind-energy-bound (Volume Q density W) e = omega arith

-- A line within its limits has at most 15,000,000,000,000 kJ.
pub line-energy-bound : (l : FuelLine) → within_limits l ≡ true → line_energy l ≤ 15000000000000
unfolding line_energy within_limits
line-energy-bound l e = kind-energy-bound l.kind e

-- What is stated, by the kind of the line.
pub energy_by_kind : (l : FuelLine)
    → stated_energy l ≡ cond (kind_is_energy l.kind && within_limits l) (Some (kind_energy l.kind)) None
unfolding stated_energy is_energy line_energy
energy_by_kind l = refl

-- What is stated is the line's Q × V, of an energy line within its limits. Where nothing is stated, the line is no such
-- line.
pub energy-stated : (l : FuelLine) (J : ℕ) → stated_energy l ≡ Some J → (states_energy l ≡ true) × (J ≡ line_energy l)
unfolding stated_energy
energy-stated l J e = go (states_energy l) e
  where
    go : (t : Bool) → cond t (Some (line_energy l)) None ≡ Some J → (t ≡ true) × (J ≡ line_energy l)
    go true e = (refl, sym (same_Some (line_energy l) J e))
    go false e = absurd (none-some J e)

pub energy-not-stated : (l : FuelLine) → stated_energy l ≡ None → states_energy l ≡ false
unfolding stated_energy
energy-not-stated l e = go (states_energy l) e
  where
    go : (t : Bool) → cond t (Some (line_energy l)) None ≡ None → t ≡ false
    go true e = absurd (none-some (line_energy l) (sym e))
    go false e = refl
