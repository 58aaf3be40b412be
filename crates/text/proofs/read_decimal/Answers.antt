-- `text::read_decimal` meets its contract: of at most 19 digits that are read, up to 18 are all that there are. Assumes
-- nothing.
use mathlib.Core.Path.{◌≡◌, sym, ap, ◌∙◌}
use mathlib.Core.Bool.{true, false≢true}
use mathlib.Core.List.{List}
use Prim.Native.Nat.{ℕ}
use native.Mathlib.Omega.{arith}
use lib.ListN.{length, get_or, take, drop, length-drop}
use lib.Seq.{take_all}
use borrow.Author.Tests.{eq-eqb, eqb-true, ltb-true}
use Rattle.text.specs.Digits.{leading_digits, value}
use Rattle.text.specs.Decimal.{is_decimal}
use Rattle.text.proofs.Digits.{leading-first}
use Rattle.text.proofs.Steps.{count-is, value-is}
use Rattle.text.proofs.Decimals.{none-no-decimal, long-no-decimal, zero-no-decimal, one-decimal, plain-decimal, decimal-is, decimal-is-not}
use Rattle.text.proofs.read_decimal.Goals as goal
use Rattle.text.proofs.read_decimal.Goals.{then-digits-eq0-via-then-digits-eq0, then-digits-eq0-via-else-digits-eq0+then-digits-gt-DECIMAL_DIGITS, then-digits-eq0-via-else-digits-eq0+else-digits-gt-DECIMAL_DIGITS+then-text-eq48, then-digits-gt1, else-digits-gt1}

pub returns-then-digits-eq0 : goal.returns-then-digits-eq0
returns-then-digits-eq0 c =
    let t = c.args.text.now in
    let n = count-is t 10 19 c.read_digits-digits.ensures.read in
    decimal-is-not t
    (elim c.then-digits-eq0.branch [
      | then-digits-eq0-via-then-digits-eq0 w ↦ none-no-decimal (leading_digits 10 t) (omega arith)
      | then-digits-eq0-via-else-digits-eq0+then-digits-gt-DECIMAL_DIGITS w ↦ long-no-decimal (leading_digits 10 t) (omega arith)
      | then-digits-eq0-via-else-digits-eq0+else-digits-gt-DECIMAL_DIGITS+then-text-eq48 w ↦
          elim w.if-digits-gt1.branch [
            | then-digits-gt1 v ↦
                zero-no-decimal (leading_digits 10 t) (omega arith) (omega arith)
                (leading-first 10 t (omega arith) ∙ eqb-true (get_or t 0 0) 48 (sym v.value-is ∙ w.if-text-eq48.true))
            | else-digits-gt1 v ↦ absurd (omega (arith, ltb-true 1 _ (sym v.value-is ∙ w.if-text-eq48.true)))
          ]
    ])

pub returns : goal.returns
returns c =
    let t = c.args.text.now in
    let all : List ℕ = leading_digits 10 t in
    let n = count-is t 10 19 c.read_digits-digits.ensures.read in
    let e : take 19 all ≡ all = take_all 19 all (omega arith) in
    let d : is_decimal all ≡ true =
    elim c.if-digits-gt1.branch [
      | then-digits-gt1 v ↦
          plain-decimal all (omega arith) (omega arith)
          (λ z.
          false≢true
          (sym c.if-text-eq48.false ∙ v.value-is ∙ eq-eqb (get_or t 0 0) 48 (sym (leading-first 10 t (omega arith)) ∙ z)))
      | else-digits-gt1 v ↦ one-decimal all (omega arith)
    ] in
    let k = c.read_digits-digits.result.count in
    let l : k ≡ length all = omega arith in
    decimal-is t _ _ d (value-is t 10 19 c.read_digits-digits.ensures.read ∙ ap (value 10) e)
    (take_all _ (drop k t) (omega (arith, length-drop k t)) ∙ ap (λ (j : ℕ). drop j t) l)
