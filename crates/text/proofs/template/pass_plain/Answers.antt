-- `text::template::pass_plain` meets its contract: those passed and those left are as many as there are. Assumes
-- nothing.
use mathlib.Core.Path.{◌≡◌, refl, sym, ap, ◌∙◌}
use mathlib.Core.List.{List}
use Prim.Native.Nat.{ℕ, ◌+◌, ◌-◌, ◌^◌, ◌<◌, ◌≤◌, min}
use native.Mathlib.Omega.{arith}
use native.Mathlib.Decide.{dec_lt}
use lib.ListN.{length, take, drop, length-drop}
use lib.Seq.{take_all}
use Rattle.text.specs.Steps.{plain_bytes}
use Rattle.text.proofs.Plain.{plain-passed, plain-template-ends, plain-text-ends, plain_other, plain-place, plain_more}
use Rattle.text.proofs.template.pass_plain.Goals as goal
use Rattle.text.proofs.template.pass_plain.Goals.{Left-loop-i, else-loop-i-test, then-loop-i-test+then-text-i, then-text-i-via-then-text-i, then-text-i-via-else-text-i+then-is_place}

-- Where none is left, all are passed; and so where one of both ends.
module _ (w s : List ℕ) (i : ℕ) (h : i + plain_bytes (drop i w) (drop i s) ≡ plain_bytes w s) (l : i ≤ 2 ^ 32 - 1) where
  none_left : plain_bytes (drop i w) (drop i s) ≡ 0 → i ≡ min (2 ^ 32 - 1) (plain_bytes w s)
  none_left e = omega arith

  sought : min (min (length s) (length w)) (2 ^ 32 - 1) ≤ i → i ≡ min (2 ^ 32 - 1) (plain_bytes w s)
  sought m = go (dec_lt i (length w)) (dec_lt i (length s))
    where
      go : Dec (i < length w) → Dec (i < length s) → i ≡ min (2 ^ 32 - 1) (plain_bytes w s)
      go (yes a) (yes b) = omega arith
      go (yes a) (no b) = none_left (plain-text-ends w s i i (omega arith))
      go (no a) b = none_left (plain-template-ends w s i i (omega arith))

-- What a slice from there on has.
from-there : (t : List ℕ) (i n : ℕ) → i ≡ n → take (length t - i) (drop i t) ≡ drop n t
from-there t i n e = take_all _ (drop i t) (omega (arith, length-drop i t)) ∙ ap (λ (j : ℕ). drop j t) e

counted : (c : Left-loop-i) → c.loop-i.count ≡ min (2 ^ 32 - 1) (plain_bytes c.args.template.now c.args.text.now)
counted c =
    let w = c.args.template.now in
    let s = c.args.text.now in
    let i = c.loop-i.i in
    let v = c.loop-i.invariant in
    let l : i ≤ 2 ^ 32 - 1 = omega (arith, c.loop-i.auto.i-end, c.min-most.ensures) in
    v.counted
    ∙ elim c.loop-i-test.branch [
      | else-loop-i-test b ↦ sought w s i v.many l (omega (arith, b.loop-i-test.false, c.min.ensures, c.min-most.ensures))
      | then-loop-i-test+then-text-i b ↦
          let p : i < length w = omega (arith, b.loop-i-test.true, c.min.ensures, c.min-most.ensures) in
          let q : i < length s = omega (arith, b.loop-i-test.true, c.min.ensures, c.min-most.ensures) in
          none_left w s i v.many l
          (elim b.then-text-i.branch [
            | then-text-i-via-then-text-i d ↦ plain_other w s i i p q d.if-text-i.true
            | then-text-i-via-else-text-i+then-is_place d ↦
                plain-place w s i i p q d.if-text-i.false (sym d.is_place.ensures ∙ d.if-is_place.true)
          ])
    ]

pub loop-i-preserved : goal.loop-i-preserved
loop-i-preserved c =
    let w = c.args.template.now in
    let s = c.args.text.now in
    let i = c.loop-i.i in
    let p = sym c.is_place.ensures ∙ c.if-is_place.false in
    let more = plain_more w s i i (omega (arith, c.min.ensures)) (omega (arith, c.min.ensures)) c.if-text-i.false p in
    record {
      counted = refl;
      same = plain-passed w s i (omega (arith, c.min.ensures)) (omega (arith, c.min.ensures)) c.if-text-i.false p ∙ c.loop-i.invariant.same;
      many = omega (arith, more, c.loop-i.invariant.many);
    }

pub returns-clause-text_left : goal.returns-clause-text_left
returns-clause-text_left c = from-there c.args.text.now _ _ (counted (goal.at.returns-clause-text_left c).Left-loop-i)

pub returns-clause-template_left : goal.returns-clause-template_left
returns-clause-template_left c = from-there c.args.template.now _ _ (counted (goal.at.returns-clause-template_left c).Left-loop-i)
