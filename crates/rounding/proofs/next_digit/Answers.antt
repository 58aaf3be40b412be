-- `rounding::next_digit` meets its contract: the guess is never too large, and each turn of the loop takes the divisor
-- off what it leaves. Assumes nothing.
use Prim.Native.Nat.{◌+◌, ◌*◌, ◌/◌, ◌≤◌}
use native.Mathlib.Omega.{arith}
use Rattle.rounding.proofs.Digits.{guess-le}
use Rattle.rounding.proofs.next_digit.Goals as goal

not-above : (c : goal.Start)
    → (c.args.rest * c.args.inverse + c.args.next * (c.args.inverse / 65536)) / 65536 * c.args.d
    ≤ c.args.rest * 65536 + c.args.next
not-above c = guess-le c.args.rest c.args.next c.args.d c.args.inverse (omega arith) (omega arith) (omega arith)

pub overflow_sub-left : goal.overflow_sub-left
overflow_sub-left c = not-above c

pub loop-left-init : goal.loop-left-init
loop-left-init c = omega (arith, not-above c)
