-- `text::read_digits` meets its contract: what is left to read gives what the whole gives. Assumes nothing.
use mathlib.Core.Path.{◌≡◌, refl, sym, ap, ◌∙◌}
use mathlib.Core.List.{List, [], ◌∷◌}
use Prim.Native.Nat.{ℕ, suc, ◌+◌, ◌-◌, ◌*◌, ◌^◌, ◌<◌, ◌≤◌, min}
use native.Mathlib.Omega.{arith}
use native.Mathlib.Decide.{dec_lt}
use native.Mathlib.Numerals.{add-one}
use native.Mathlib.Nat.{pow-zero, pow-suc, pow-le-pow_right, lt_of_lt_of_le, le_trans}
use lib.ListN.{length, get_or, take, drop}
use lib.Seq.{take-nil}
use Rattle.text.specs.Digits.{digit_value, leading_digits, value_after, value}
use Rattle.text.specs.Steps.{digits_in}
use Rattle.text.specs.declared.DigitsRead.{DigitsRead}
use Rattle.text.proofs.Digits.{leading_at, leading-none, leading_end, value_none, value-more, below_more}
use Rattle.text.proofs.read_digits.Invariants.{left}
use Rattle.text.proofs.read_digits.Goals as goal

module _ (text : List ℕ) (base most : ℕ) where
  left-first : left text base most 0 ≡ take most (leading_digits base text)
  unfolding left
  left-first = let e : most - 0 ≡ most = omega arith in rw e

  module _ (count : ℕ) where
    left-more : count < most → count < length text → digit_value (get_or text count 0) < base
        → left text base most count ≡ get_or text count 0 ∷ left text base most (count + 1)
    unfolding left
    left-more h k d =
        let e : most - count ≡ suc (most - (count + 1)) = omega arith in
        rw (e, leading_at base text count k d)

    left-none : leading_digits base (drop count text) ≡ [] → left text base most count ≡ []
    unfolding left
    left-none e = rw (e, take-nil)

    -- After as many as were sought, none is left: there are no more, or no more are read.
    left-sought : min (length text) most ≤ count → left text base most count ≡ []
    unfolding left
    left-sought h = go (dec_lt count most)
      where
        go : Dec (count < most) → left text base most count ≡ []
        go (yes l) = left-none (leading_end base text count (omega arith))
        go (no l) = let e : most - count ≡ 0 = omega arith in rw e

    -- Where nothing is left, the whole is read.
    ended : (read : DigitsRead) → read.count ≡ count → left text base most count ≡ []
        → value_after base read.value (left text base most count) ≡ (digits_in text base most).value
        → count + length (left text base most count) ≡ (digits_in text base most).count → read ≡ digits_in text base most
    ended read k e v n =
        let p : read.value ≡ (digits_in text base most).value = sym (value_none base read.value) ∙ ap (value_after base read.value) (sym e) ∙ v in
        let l = ap length e in
        let q : read.count ≡ (digits_in text base most).count = omega arith in
        λ x. record { value = p x; count = q x }

-- The number of one digit more fits.
room : (base most count number digit : ℕ) → number < base ^ count → count < most → digit < base → base ^ most ≤ 2 ^ 64
    → number * base + digit < 2 ^ 64
room base most count number digit h k d r =
    lt_of_lt_of_le (below_more base number digit (base ^ count) h d)
    (le_trans (rw pow-suc at (pow-le-pow_right {n = base} (omega arith) {i = suc count} {j = most} (omega arith))) r)

pub loop-i-init : goal.loop-i-init
loop-i-init c =
    let a = c.args in
    let e = left-first a.text.now a.base a.most in
    record {
      counted = refl;
      written = ap (value a.base) e;
      many = omega (arith, ap length e);
      small = omega (arith, pow-zero a.base);
    }

pub with_digit-requires : goal.with_digit-requires
with_digit-requires c =
    let a = c.args in
    let l = c.loop-i in
    let f = c.if-digit-base.false in
    (c.requires.0, f, room a.base a.most l.i l.digits.value _ l.invariant.small (omega (arith, c.min-sought.ensures)) f c.requires.1)

pub loop-i-preserved : goal.loop-i-preserved
loop-i-preserved c =
    let a = c.args in
    let l = c.loop-i in
    let d = c.digit_value-digit.ensures in
    let r = c.with_digit.ensures in
    let m = left-more a.text.now a.base a.most l.i (omega (arith, c.min-sought.ensures)) (omega (arith, c.min-sought.ensures)) (omega arith) in
    let n = ap length m in
    let rest = left a.text.now a.base a.most (l.i + 1) in
    record {
      counted = omega arith;
      written =
          ap (λ (y : ℕ). value_after a.base y rest) r
          ∙ ap (λ (y : ℕ). value_after a.base (l.digits.value * a.base + y) rest) d
          ∙ sym (ap (value_after a.base l.digits.value) m ∙ value-more a.base l.digits.value _ _)
          ∙ l.invariant.written;
      many = omega arith;
      small =
          rw (r, add-one, pow-suc)
          (below_more a.base l.digits.value c.digit_value-digit.result (a.base ^ l.i) l.invariant.small c.if-digit-base.false);
    }

pub returns-after-loop-i : goal.returns-after-loop-i
returns-after-loop-i c =
    let a = c.args in
    let l = c.loop-i in
    let v = l.invariant in
    record {
      read = ended a.text.now a.base a.most l.i l.digits v.counted
          (left-sought a.text.now a.base a.most l.i (omega (arith, c.min-sought.ensures))) v.written v.many;
      within = omega (arith, c.min-sought.ensures);
    }

pub returns-then-digit-base : goal.returns-then-digit-base
returns-then-digit-base c =
    let a = c.args in
    let l = c.loop-i in
    let v = l.invariant in
    record {
      read = ended a.text.now a.base a.most l.i l.digits v.counted
          (left-none a.text.now a.base a.most l.i
          (leading-none a.base a.text.now l.i (omega (arith, c.min-sought.ensures)) (omega (arith, c.digit_value-digit.ensures))))
          v.written v.many;
      within = omega (arith, c.min-sought.ensures);
    }
