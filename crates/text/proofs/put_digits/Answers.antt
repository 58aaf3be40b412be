-- `text::put_digits` meets its contract: each turn puts one digit in front of those that stand there. Assumes nothing.
use mathlib.Core.Path.{◌≡◌, sym, ap, ◌∙◌}
use mathlib.Core.List.{List, [], ◌∷◌, ◌++◌, append_assoc}
use Prim.Native.Nat.{ℕ, zero, suc, ◌*◌, ◌-◌, ◌/◌, ◌%◌, ◌<◌, ◌≤◌}
use native.Mathlib.Omega.{arith}
use native.Mathlib.Nat.{div-add-mod'}
use lib.ListN.{length, take, drop, set, take-append-drop}
use lib.Seq.{length-take-le, take-set-le, set_split, drop_at}
use Rattle.text.specs.Digits.{digit_byte, digits}
use Rattle.text.proofs.Digits.{length_digits}
use Rattle.text.proofs.Buffer.{put_whole, put-none}
use Rattle.text.proofs.put_digits.Goals as goal

drop-set : (l : List ℕ) (i x : ℕ) → i < length l → drop i (set l i x) ≡ x ∷ drop (suc i) l
drop-set l i x h =
    ap (drop i) (set_split l i x h) ∙ drop_at (take i l) (x ∷ drop (suc i) l) i (length-take-le i l (omega arith))

-- A digit that is put before the others stands in front of them.
one_more : (base : ℕ) (l : List ℕ) (at i rest : ℕ) → at < i → i ≤ length l
    → digits base (i - 1 - at) (rest / base) ++ drop (i - 1) (set l (i - 1) (digit_byte (rest % base))) ≡ digits base (i - at) rest ++ drop i l
unfolding digits
one_more base l at zero rest h k = absurd (omega arith)
one_more base l at (suc i) rest h k =
    let e : suc i - 1 ≡ i = omega arith in
    let f : suc i - at ≡ suc (i - at) = omega arith in
    rw (e, f, drop-set l i (digit_byte (rest % base)) (omega arith))
    (sym (append_assoc (digits base (i - at) (rest / base)) (digit_byte (rest % base) ∷ []) (drop (suc i) l)))

-- What the quotient by the base leaves is the last digit.
back-le : (rest base : ℕ) → rest / base * base ≤ rest
back-le rest base = omega (arith, div-add-mod' rest base)

last : (rest base : ℕ) → rest - rest / base * base ≡ rest % base
last rest base = omega (arith, div-add-mod' rest base)

pub returns-in_err-end : goal.returns-in_err-end
returns-in_err-end c =
    let a = c.args in
    let both = put-none a.buffer.now a.at _ (omega (arith, c.in_err-end.ensures, length_digits a.base a.count a.number)) in
    record { value = c.from_residual.ensures ∙ both.0; buffer_after = both.1 }

pub loop-i-preserved : goal.loop-i-preserved
loop-i-preserved c =
    let a = c.args in
    let l = c.loop-i in
    let i = l.i - 1 in
    let p = c.in_ok-end.ensures in
    let byte = c.digit_byte.ensures ∙ ap digit_byte (last l.rest a.base) in
    let x = ap (λ (y : ℕ). digits a.base (i - a.at) (l.rest / a.base) ++ drop i (set l.buffer i y)) byte in
    record {
      down = omega arith;
      digits = x ∙ one_more a.base l.buffer a.at l.i l.rest (omega arith) (omega (arith, p)) ∙ l.invariant.digits;
      before = take-set-le a.at l.buffer _ _ (omega arith) ∙ l.invariant.before;
    }

pub returns : goal.returns
unfolding digits
returns c =
    let a = c.args in
    let l = c.loop-i in
    let p = c.in_ok-end.ensures in
    let n = length_digits a.base a.count a.number in
    let e : l.i ≡ a.at = omega arith in
    let z : a.at - a.at ≡ 0 = omega arith in
    let both = put_whole a.buffer.now a.at (digits a.base a.count a.number) (omega (arith, p)) (omega (arith, p))
    (sym (take-append-drop a.at l.buffer)
    ∙ rw (l.invariant.before, n) (ap (λ (t : List ℕ). take a.at a.buffer.now ++ t) (rw (e, z) at l.invariant.digits))) in
    record { value = both.0; buffer_after = both.1 }
