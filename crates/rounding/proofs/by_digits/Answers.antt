-- `rounding::by_digits` meets its contract: the digits are those of the quotient. Assumes nothing.
use native.Mathlib.Omega.{arith}
use Rattle.rounding.proofs.Digits.{quotient_is}
use Rattle.rounding.proofs.by_digits.Goals as goal

pub returns-then-high-eq0 : goal.returns-then-high-eq0
returns-then-high-eq0 c =
    let a = c.args in
    quotient_is a.n a.d _ c.next_digit-below.result.rest (omega arith) (omega arith)

pub returns : goal.returns
returns c =
    let a = c.args in
    quotient_is a.n a.d _ c.next_digit-fourth.result.rest (omega arith) (omega arith)
