-- `text::read_register` meets its contract. Assumes nothing.
use mathlib.Core.Path.{◌≡◌, ap, ◌∙◌}
use mathlib.Core.List.{List}
use Prim.Native.Nat.{ℕ, ◌≤◌}
use native.Mathlib.Omega.{arith}
use lib.ListN.{length, take, drop, length-drop}
use lib.Seq.{take_all}
use Rattle.text.specs.Digits.{leading_digits, value}
use Rattle.text.specs.Steps.{digits_in}
use Rattle.text.specs.declared.DigitsRead.{DigitsRead}
use Rattle.text.proofs.Steps.{count-is, value-is}
use Rattle.text.proofs.Registers.{first-8, first-8-below, register-is, register-is-not}
use Rattle.text.proofs.read_register.Goals as goal

-- Where 8 digits or more stand, the first 8 are what is read.
numbered : (t : List ℕ) {r : DigitsRead} → r ≡ digits_in t 16 8 → 8 ≤ length (leading_digits 16 t) → r.value ≡ value 16 (take 8 t)
numbered t e h = value-is t 16 8 e ∙ ap (value 16) (first-8 t h)

pub returns-then-digits-lt-REGISTER_DIGITS : goal.returns-then-digits-lt-REGISTER_DIGITS
returns-then-digits-lt-REGISTER_DIGITS c =
    let t = c.args.text.now in
    register-is-not t (omega (arith, count-is t 16 8 c.read_digits-digits.ensures.read))

pub overflow_cast-result : goal.overflow_cast-result
overflow_cast-result c =
    let t = c.args.text.now in
    let n = count-is t 16 8 c.read_digits-digits.ensures.read in
    let h : 8 ≤ length (leading_digits 16 t) = omega arith in
    record { fits = omega (arith, numbered t c.read_digits-digits.ensures.read h, first-8-below t h) }

pub returns : goal.returns
returns c =
    let t = c.args.text.now in
    let n = count-is t 16 8 c.read_digits-digits.ensures.read in
    let h : 8 ≤ length (leading_digits 16 t) = omega arith in
    register-is t _ _ h (numbered t c.read_digits-digits.ensures.read h) (take_all _ (drop 8 t) (omega (arith, length-drop 8 t)))
