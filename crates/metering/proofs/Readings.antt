-- A reading's whole watt-hours: when they are given, and how near they are to the exact value. Assumes nothing.
use mathlib.Core.Path.{◌≡◌, refl, sym, ap, ◌∙◌}
use mathlib.Core.Bool.{Bool, true, false}
use Prim.Native.Nat.{ℕ, ◌*◌, ◌≤◌, ◌<◌}
use native.Mathlib.Nat.{mul-le-mul_left, mul-le-mul_right, mul-lt-mul_of_pos_right}
use native.Mathlib.Omega.{arith}
use lib.Dec.{leb}
use lib.Pow.{pow_pos}
use borrow.Author.Tests.{le-leb, lt-leb, leb-true, leb-false}
use Rattle.rounding.specs.declared.Direction.{Direction}
use Rattle.rounding.specs.declared.Direction.TheVariants.{Up}
use Rattle.rounding.specs.Outcome.{refused, given}
use Rattle.rounding.specs.Divided.{divided}
use Rattle.rounding.specs.Ratio.{◌÷◌, whole, Conservative}
use Rattle.rounding.proofs.Divided.{rounds, divided-at-most, divided-up-bounds, divided-whole}
use Rattle.rounding.proofs.Ratio.{rounds-conservative}
use Rattle.rounding.proofs.Tests.{and_both}
use Rattle.metering.specs.Reading.{unit, limit, exact_by, is_readable, ratio_fits, accepted, watt_hours}
use Rattle.metering.specs.declared.Reading.{Reading}
use Rattle.metering.specs.declared.Reading.TheVariants.{Whole}

pub unit-above-zero : 0 < unit
unit-above-zero = pow_pos 149

-- A ratio in its range is not 0.
pub ratio-above-zero : (ratio : ℕ) → ratio_fits ratio ≡ true → 1 ≤ ratio
ratio-above-zero ratio h = leb-true 1 ratio (and_both (leb 1 ratio) _ h).0

module _ (dir : Direction) (ratio : ℕ) (r : Reading) where
  pub rounded : (q : ℕ) → ratio_fits ratio ≡ true → accepted ratio r ≡ true → divided dir (exact_by ratio r) unit ≡ q
      → given q ≡ watt_hours dir ratio r
  rounded q f a e = sym (rw (f, a, e))

  pub declined : ratio_fits ratio ≡ true → accepted ratio r ≡ false → refused 3 ≡ watt_hours dir ratio r
  declined f a = sym (rw (f, a))

  pub rounded-within : accepted ratio r ≡ true → divided dir (exact_by ratio r) unit ≤ limit
  rounded-within h =
      divided-at-most dir (exact_by ratio r) unit limit unit-above-zero
      (leb-true (exact_by ratio r) (limit * unit) (and_both (is_readable r) _ h).1)

  -- A reading's watt-hours stand on the safe side of its exact value in Wh, less than 1 Wh off.
  pub reading-conservative : Conservative dir (divided dir (exact_by ratio r) unit) (exact_by ratio r ÷ unit) (whole 1)
  reading-conservative =
      rounds-conservative dir (exact_by ratio r) unit (divided dir (exact_by ratio r) unit)
      (rounds dir (exact_by ratio r) unit unit-above-zero)

-- An exact value is within the limit exactly where it is, rounded up.
pub limit-rounded : (x : ℕ) → leb x (limit * unit) ≡ leb (divided Up x unit) limit
limit-rounded x = go (leb (divided Up x unit) limit) refl
  where
    beyond : (u k : ℕ) → 0 < u → k < divided Up x u → k * u < x
    beyond u k above h = omega (arith, rounds Up x u above, mul-le-mul_right u h)

    go : (t : Bool) → leb (divided Up x unit) limit ≡ t → leb x (limit * unit) ≡ t
    go true e =
        le-leb x (limit * unit)
        (divided-up-bounds x unit limit unit-above-zero (leb-true (divided Up x unit) limit e))
    go false e = lt-leb x (limit * unit) (beyond unit limit unit-above-zero (leb-false (divided Up x unit) limit e))

-- ---- a whole reading

module _ (dir : Direction) (ratio w : ℕ) (f : ratio_fits ratio ≡ true) where
  product : exact_by ratio (Whole w) ≡ w * ratio * unit
  product = go unit
    where
      go : (u : ℕ) → w * u * ratio ≡ w * ratio * u
      go u = omega arith

  judged : (t : Bool) → leb (w * ratio * unit) (limit * unit) ≡ t → accepted ratio (Whole w) ≡ t
  judged t e = ap (λ (n : ℕ). leb n (limit * unit)) product ∙ e

  pub whole-within : w * ratio ≤ limit → given (w * ratio) ≡ watt_hours dir ratio (Whole w)
  whole-within k =
      rounded dir ratio (Whole w) (w * ratio) f (judged true (le-leb _ _ (mul-le-mul_right unit k)))
      (ap (λ (n : ℕ). divided dir n unit) product ∙ divided-whole dir (w * ratio) unit unit-above-zero)

  pub whole-beyond : limit < w * ratio → refused 3 ≡ watt_hours dir ratio (Whole w)
  whole-beyond k =
      declined dir ratio (Whole w) f (judged false (lt-leb _ _ (mul-lt-mul_of_pos_right k unit-above-zero)))

  -- A count above the limit is so by every ratio.
  pub count-beyond : limit < w → refused 3 ≡ watt_hours dir ratio (Whole w)
  count-beyond k = whole-beyond (omega (arith, mul-le-mul_left w (ratio-above-zero ratio f)))
