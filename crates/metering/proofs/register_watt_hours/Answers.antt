-- `metering::register_watt_hours` meets its contract: each refusal is a law of patterns, and the limit is tested on the
-- value rounded up. Assumes nothing.
use mathlib.Core.Path.{◌≡◌, sym, ap, ◌∙◌, subst}
use mathlib.Core.Bool.{Bool, true, false}
use mathlib.Core.Logic.{inl, inr}
use Prim.Native.Nat.{ℕ, ◌*◌, ◌≤◌, ◌<◌}
use native.Mathlib.Omega.{arith}
use lib.Dec.{leb}
use lib.Ieee.{binary32, of_bits}
use borrow.Author.Tests.{le-leb, lt-leb}
use Rattle.rounding.specs.declared.Direction.{Direction}
use Rattle.rounding.specs.declared.Direction.TheVariants.{Up, Down}
use Rattle.rounding.specs.Outcome.{refused, given}
use Rattle.rounding.specs.Divided.{divided}
use Rattle.metering.specs.Reading.{unit, limit, ratio_fits, accepted, watt_hours}
use Rattle.metering.specs.Steps.{magnitude}
use Rattle.metering.specs.declared.Bounds.{Bounds}
use Rattle.metering.specs.declared.Reading.TheVariants.{Single}
use Rattle.metering.proofs.Patterns.{field_of, digits_of, exact-at, below_at, no-number-refused, accepted-at, beyond-at}
use Rattle.metering.proofs.Readings.{ratio-above-zero, rounded, declined, limit-rounded}
use Rattle.metering.proofs.register_watt_hours.Goals as goal
use Rattle.metering.proofs.register_watt_hours.Goals.{After-round_both_ways-bounds}

-- The exact product at a pattern, in units.
abbrev at : ℕ → ℕ → ℕ
at ratio b = magnitude (field_of b) (digits_of b) * ratio

module _ (ratio b : ℕ) (in-range : ratio_fits ratio ≡ true) (low : b ≤ 2147483648) (field : field_of b ≤ 153) where
  finite : field_of b < 255
  finite = omega arith

  -- Accepted where the product rounded up is within the limit.
  tested : (t : Bool) → leb (divided Up (at ratio b) unit) limit ≡ t → accepted ratio (Single (of_bits binary32 b)) ≡ t
  tested t e = accepted-at ratio b low finite ∙ limit-rounded (at ratio b) ∙ e

  too_large : (dir : Direction) → limit < divided Up (at ratio b) unit
      → refused 3 ≡ watt_hours dir ratio (Single (of_bits binary32 b))
  too_large dir h = declined dir ratio (Single (of_bits binary32 b)) in-range (tested false (lt-leb _ _ h))

  not-too-large : (dir : Direction) → divided Up (at ratio b) unit ≤ limit
      → given (divided dir (at ratio b) unit) ≡ watt_hours dir ratio (Single (of_bits binary32 b))
  not-too-large dir h =
      rounded dir ratio (Single (of_bits binary32 b)) (divided dir (at ratio b) unit) in-range
      (tested true (le-leb _ _ h))
      (ap (λ (n : ℕ). divided dir (n * ratio) unit) (exact-at b finite))

pub returns-then-bits-gt-MINUS_ZERO : goal.returns-then-bits-gt-MINUS_ZERO
returns-then-bits-gt-MINUS_ZERO c =
    let a = c.args in
    declined a.direction a.ratio (Single (of_bits binary32 a.bits)) c.requires
    (elim c.then-bits-gt-MINUS_ZERO.either [
      | inl below ↦ no-number-refused a.ratio (of_bits binary32 a.bits) (below_at a.bits c.ranges.bits.fits below)
      | inr large ↦ beyond-at a.ratio a.bits (ratio-above-zero a.ratio c.requires) large.0 large.1
    ])

pub returns-then-bounds-gt-LIMIT : goal.returns-then-bounds-gt-LIMIT
returns-then-bounds-gt-LIMIT c =
    too_large c.args.ratio c.args.bits c.requires c.if-bits-gt-MINUS_ZERO.false c.if-field-gt153.false c.args.direction
    (subst (λ (x : Bounds). limit < x.up) c.round_both_ways-bounds.ensures c.if-bounds-gt-LIMIT.true)

-- What is given within the limit, in the direction that an arm knows.
within : (c : After-round_both_ways-bounds) (dir : Direction) → c.round_both_ways-bounds.result.up ≤ limit
    → c.args.direction ≡ dir
    → let a = c.args in
    given (divided dir (at a.ratio a.bits) unit) ≡ watt_hours a.direction a.ratio (Single (of_bits binary32 a.bits))
within c dir h e =
    let a = c.args in
    not-too-large a.ratio a.bits c.requires c.if-bits-gt-MINUS_ZERO.false c.if-field-gt153.false dir
    (subst (λ (x : Bounds). x.up ≤ limit) c.round_both_ways-bounds.ensures h)
    ∙ ap (λ (d : Direction). watt_hours d a.ratio (Single (of_bits binary32 a.bits))) (sym e)

pub returns-in-Up : goal.returns-in-Up
returns-in-Up c =
    ap (λ (x : Bounds). given x.up) c.round_both_ways-bounds.ensures
    ∙ (within (goal.at.returns-in-Up c).After-round_both_ways-bounds) Up c.if-bounds-gt-LIMIT.false c.in-Up.is

pub returns-in-Down : goal.returns-in-Down
returns-in-Down c =
    ap (λ (x : Bounds). given x.down) c.round_both_ways-bounds.ensures
    ∙ (within (goal.at.returns-in-Down c).After-round_both_ways-bounds) Down c.if-bounds-gt-LIMIT.false c.in-Down.is
