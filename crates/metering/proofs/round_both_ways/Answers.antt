-- `metering::round_both_ways` meets its contract: the shift loses what the division by the unit loses. Assumes nothing.
use mathlib.Core.Logic.{inl, inr}
use Prim.Native.Nat.{ℕ, ◌*◌, ◌^◌, ◌<◌}
use native.Mathlib.Omega.{arith}
use Rattle.metering.proofs.Shifts.{Significand, Shift, count-bound, shifted_by, exact-both, inexact-both}
use Rattle.metering.proofs.round_both_ways.Goals as goal
use Rattle.metering.proofs.round_both_ways.Goals.{then-field-eq0, else-field-eq0, then-field-lt90, else-field-lt90}
use Rattle.metering.proofs.round_both_ways.Goals.{Joined-field-eq0, Joined-field-lt90}

wider : {n : ℕ} → n < 2 ^ 53 → n < 2 ^ 64
wider h = omega arith

-- By the arms that meet.
significand-is : (c : Joined-field-eq0) → Significand c.args.field c.args.digits c.if-field-eq0.significand
significand-is c =
    elim c.if-field-eq0.branch [
      | then-field-eq0 w ↦ inl (w.if-field-eq0.true, w.significand-is)
      | else-field-eq0 w ↦ inr (w.if-field-eq0.false, w.significand-is)
    ]

bounded : (c : Joined-field-eq0) → c.if-field-eq0.significand * 8000 * c.args.ratio < 2 ^ 53
bounded c =
    count-bound c.args.field c.args.digits c.if-field-eq0.significand c.args.ratio c.requires.1
    c.ranges.ratio.fits (significand-is c)

shift_is : (c : Joined-field-lt90) → Shift c.args.field c.if-field-lt90.shift
shift_is c =
    elim c.if-field-lt90.branch [
      | then-field-lt90 w ↦ inl (w.if-field-lt90.true, w.shift-is)
      | else-field-lt90 w ↦ inr (w.if-field-lt90.false, w.shift-is)
    ]

pub returns-then-down-shift : goal.returns-then-down-shift
returns-then-down-shift c =
    let a = c.args in
    let at = goal.at.returns-then-down-shift c in
    exact-both _ _ _ (wider (bounded at.Joined-field-eq0))
    (λ dir. shifted_by dir a.field a.digits c.if-field-eq0.significand c.if-field-lt90.shift a.ratio c.requires.0
    c.requires.1 c.ranges.ratio.fits (significand-is at.Joined-field-eq0) (shift_is at.Joined-field-lt90))
    c.if-down-shift.true

pub returns-else-down-shift : goal.returns-else-down-shift
returns-else-down-shift c =
    let a = c.args in
    let at = goal.at.returns-else-down-shift c in
    inexact-both _ _ _ (wider (bounded at.Joined-field-eq0))
    (λ dir. shifted_by dir a.field a.digits c.if-field-eq0.significand c.if-field-lt90.shift a.ratio c.requires.0
    c.requires.1 c.ranges.ratio.fits (significand-is at.Joined-field-eq0) (shift_is at.Joined-field-lt90))
    c.if-down-shift.false
