-- A plant's milligrams stand on the safe side of the exact ones: off by at most 5 mg, and for baseline by J ÷ 1,000 mg
-- more where the plant has heat. Over any list of at most four fuel lines. Assumes nothing.
use Prim.Native.Nat.{ℕ, ◌+◌, ◌*◌, ◌-◌, ◌<◌, ◌≤◌}
use mathlib.Core.Path.{◌≡◌, refl}
use mathlib.Core.Bool.{Bool, true, false, cond}
use mathlib.Core.List.{List}
use native.Mathlib.Omega.{arith}
use native.Mathlib.Nat.{mul-le-mul_right, mul-pos}
use lib.ListN.{length}
use borrow.Author.Tests.{ltb-true}
use Rattle.rounding.specs.Divided.{divided}
use Rattle.rounding.specs.Ratio.{Ratio, ◌÷◌, whole}
use Rattle.rounding.specs.declared.Direction.{Direction}
use Rattle.rounding.specs.declared.Direction.TheVariants.{Up, Down}
use Rattle.rounding.proofs.Divided.{rounds, divided-at-most}
use Rattle.rounding.proofs.Ratio.{Within, all_of, within-widen, sum-within-equal, sum_over, sum-unsigned}
use Rattle.rounding.proofs.Ratio.{conservative-within}
use Rattle.fuel.specs.Fuel.{exact_milligrams, rounded_milligrams}
use Rattle.fuel.specs.declared.FuelLine.{FuelLine}
use Rattle.fuel.proofs.Fuel.{line-over, line-unsigned, line-conservative}
use Rattle.records.specs.Heat.{has_heat, fuel_energy}
use Rattle.report.specs.Heat.{lines_milligrams, exact_lines, allocated, exact_allocated, electricity_milligrams}
use Rattle.report.specs.Heat.{exact_electricity, heated_energy}

-- ---- the lines

-- Each of at most four lines is off by at most 1 mg.
lines-within : (dir : Direction) (ls : List FuelLine) → length ls ≤ 4
    → Within dir (lines_milligrams dir ls) (exact_lines ls) (whole 4)
unfolding lines_milligrams exact_lines
lines-within dir ls h = sum-within-equal dir (rounded_milligrams dir) exact_milligrams 1 4 ls h (all_of line-within ls)
  where
    line-within : (l : FuelLine) → Within dir (rounded_milligrams dir l) (exact_milligrams l) (whole 1)
    line-within l =
        conservative-within dir (rounded_milligrams dir l) (exact_milligrams l) (whole 1) (line-conservative dir l)

-- Their exact milligrams have a denominator above 0 and nothing subtracted.
lines-over : (ls : List FuelLine) → 0 < (exact_lines ls).over
unfolding exact_lines
lines-over ls = sum_over exact_milligrams ls (all_of line-over ls)

lines-unsigned : (ls : List FuelLine) → (exact_lines ls).minus ≡ 0
unfolding exact_lines
lines-unsigned ls = sum-unsigned exact_milligrams ls (all_of line-unsigned ls)

-- ---- the allocation, by numbers alone: D = J − H, and the exact milligrams p ÷ o of the lines stand at most n above R

module _ (J D R A Z p o n : ℕ) (D≤ : D ≤ J) where
  share-safe : R * o ≤ p → A * J ≤ R * 1000 → Z * 1000 ≤ D * A → Z * (o * J) * 1000 ≤ p * D * 1000
  share-safe h1 h2 h3 =
      omega (arith, mul-le-mul_right (1000 * D) h1, mul-le-mul_right (D * o) h2, mul-le-mul_right (o * J) h3)

  share-near : p ≤ R * o + n * o → R * 1000 ≤ A * J + J → D * A ≤ Z * 1000 + 1000
      → p * D * 1000 ≤ (Z * 1000 + 1000 * (n + 1) + J) * (o * J)
  share-near h1 h2 h3 =
      omega (
        arith,
        mul-le-mul_right (1000 * D) h1,
        mul-le-mul_right (D * o) h2,
        mul-le-mul_right (o * J) h3,
        mul-le-mul_right (J * o) D≤,
        mul-le-mul_right (1000 * n * o) D≤,
      )

-- A plant with heat: at most its lines' distance, 1 mg and J ÷ 1,000 mg below the exact milligrams.
allocated-within : (J H R n : ℕ) (x : Ratio) → 0 < H → H ≤ J → x.minus ≡ 0 → Within Down R x (whole n)
    → Within Down (allocated J H R) (exact_allocated J H x) ((1000 * (n + 1) + J) ÷ 1000)
unfolding allocated exact_allocated
allocated-within J H R n x pos le z w =
    let A = divided Down (R * 1000) J in
    let Z = divided Down ((J - H) * A) 1000 in
    let a = rounds Down (R * 1000) J (omega arith) in
    let b = rounds Down ((J - H) * A) 1000 (omega arith) in
    let D≤ : J - H ≤ J = omega arith in (
      rw z (omega (arith, share-safe J (J - H) R A Z x.plus x.over n D≤ (omega arith) a.0 b.0)),
      rw z (omega (arith, share-near J (J - H) R A Z x.plus x.over n D≤ (omega arith) (omega arith) (omega arith))),
    )

-- (J − H) × A is at most R × 1,000.
allocated-fits : (J H R : ℕ) → 0 < J → (J - H) * divided Down (R * 1000) J ≤ R * 1000
allocated-fits J H R pos =
    let A = divided Down (R * 1000) J in
    let less : J - H ≤ J = omega arith in
    omega (arith, (rounds Down (R * 1000) J pos).0, mul-le-mul_right A less)

-- Four lines have at most 12,000,000,000,000,000 mg, so that 64 bits hold both products.
pub products-fit : (J H R : ℕ) → 0 < J → R ≤ 12000000000000000
    → (R * 1000 ≤ 12000000000000000000) × ((J - H) * divided Down (R * 1000) J ≤ 12000000000000000000)
products-fit J H R pos h = (omega arith, omega (arith, allocated-fits J H R pos))

-- No more counts than R.
pub allocated-most : (J H R : ℕ) → 0 < J → allocated J H R ≤ R
unfolding allocated
allocated-most J H R pos =
    divided-at-most Down ((J - H) * divided Down (R * 1000) J) 1000 R (omega arith) (allocated-fits J H R pos)

-- ---- a plant's milligrams

-- The energy that adds to their distance: J of a plant with heat, for baseline.
abbrev pub heated_by : Direction → ℕ → List FuelLine → ℕ
heated_by Up H ls = 0
heated_by Down H ls = heated_energy H ls

lines-near : (dir : Direction) (ls : List FuelLine) → length ls ≤ 4
    → Within dir (lines_milligrams dir ls) (exact_lines ls) (5000 ÷ 1000)
lines-near dir ls h =
    within-widen dir (lines_milligrams dir ls) (exact_lines ls) (whole 4) (5000 ÷ 1000) (omega arith) (omega arith)
    (lines-within dir ls h)

module _ (H : ℕ) (ls : List FuelLine) (short : length ls ≤ 4) (le : H ≤ fuel_energy ls) where
  pub electricity-within : (dir : Direction)
      → Within dir (electricity_milligrams dir H ls) (exact_electricity dir H ls) ((5000 + heated_by dir H ls) ÷ 1000)
  unfolding electricity_milligrams exact_electricity heated_energy
  electricity-within Up = lines-near Up ls short
  electricity-within Down = go (has_heat H) refl
    where
      go : (t : Bool) → has_heat H ≡ t
          → Within Down (cond t (allocated (fuel_energy ls) H (lines_milligrams Down ls)) (lines_milligrams Down ls))
          (cond t (exact_allocated (fuel_energy ls) H (exact_lines ls)) (exact_lines ls))
          ((5000 + cond t (fuel_energy ls) 0) ÷ 1000)
      go true e =
          allocated-within (fuel_energy ls) H (lines_milligrams Down ls) 4 (exact_lines ls) (ltb-true 0 H e) le
          (lines-unsigned ls) (lines-within Down ls short)
      go false e = lines-near Down ls short

  pub electricity-over : (dir : Direction) → 0 < (exact_electricity dir H ls).over
  unfolding exact_electricity exact_allocated
  electricity-over Up = lines-over ls
  electricity-over Down = go (has_heat H) refl
    where
      go : (t : Bool) → has_heat H ≡ t
          → 0 < (cond t (exact_allocated (fuel_energy ls) H (exact_lines ls)) (exact_lines ls)).over
      go true e = mul-pos (lines-over ls) (omega (arith, ltb-true 0 H e))
      go false e = lines-over ls

  pub electricity-unsigned : (dir : Direction) → (exact_electricity dir H ls).minus ≡ 0
  unfolding exact_electricity exact_allocated
  electricity-unsigned Up = lines-unsigned ls
  electricity-unsigned Down = go (has_heat H)
    where
      go : (t : Bool) → (cond t (exact_allocated (fuel_energy ls) H (exact_lines ls)) (exact_lines ls)).minus ≡ 0
      go true = rw (lines-unsigned ls) (omega arith)
      go false = lines-unsigned ls
