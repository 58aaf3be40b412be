-- A side's tonnes and the reduction stand on the safe side of their exact values, within the allowances, for any
-- figures that each stand within an allowance of their own. Assumes nothing.
use Prim.Native.Nat.{ℕ, ◌+◌, ◌*◌, ◌<◌}
use mathlib.Core.Path.{◌≡◌, sym, ap, subst, ◌∙◌}
use mathlib.Core.List.{List, map}
use native.Mathlib.Omega.{arith}
use native.Mathlib.Nat.{mul-le-mul_right, mul-pos}
use lib.IntN.{ℤ, pos, ◌-ℤ◌}
use Rattle.rounding.specs.Divided.{divided, sum}
use Rattle.rounding.specs.Ratio.{Ratio, whole, integer, ◌≤ᵣ◌, ◌<ᵣ◌, ◌+ᵣ◌, ◌-ᵣ◌, ◌per◌, sumᵣ, Conservative}
use Rattle.rounding.specs.declared.Direction.{Direction}
use Rattle.rounding.specs.declared.Direction.TheVariants.{Up, Down}
use Rattle.rounding.proofs.Divided.{rounds}
use Rattle.rounding.proofs.Integers.{Differ, less-differ}
use Rattle.rounding.proofs.Order.{add-le, add-lt-le, same, interchange, add-swap, add_assoc, whole-add}
use Rattle.rounding.specs.Lists.{All}
use Rattle.rounding.proofs.Ratio.{Within, sum-within, within-divided}
use Rattle.report.specs.Report.{reduction}

-- A side: figures in grams that each stand within an allowance of an exact value. The tonnes are off by less than all
-- of them and 1 tonne.
pub side-conservative : {A : Type 0} (dir : Direction) (value : A → ℕ) (exact allowance : A → Ratio) (fs : List A)
    → All (λ (f : A). Within dir (value f) (exact f) (allowance f)) fs → 0 < (sumᵣ (map exact fs)).over → 0 < (sumᵣ (map allowance fs)).over
    → Conservative dir (divided dir (sum (map value fs)) 1000000) (sumᵣ (map exact fs) per 1000000) (sumᵣ (map allowance fs) per 1000000 +ᵣ whole 1)
side-conservative dir value exact allowance fs h above above' =
    within-divided dir (sum (map value fs)) 1000000 _ (sumᵣ (map exact fs)) (sumᵣ (map allowance fs)) (omega arith) above above'
    (sum-within dir value exact allowance fs h) (rounds dir (sum (map value fs)) 1000000 (omega arith))

-- ---- the reduction

pub reduction-differ : (b p l : ℕ) → Differ (reduction b p l) b (p + l)
unfolding reduction
reduction-differ b p l =
    let d : Differ (pos b -ℤ pos p) b (0 + p) = less-differ (pos b) b 0 p (omega arith) in
    less-differ (pos b -ℤ pos p) b p l (omega arith)

-- What is added on one side is taken from the other.
taken : (x y z : Ratio) → x <ᵣ z +ᵣ y → x -ᵣ y <ᵣ z
taken x y z h = omega arith

put_back : (x w : Ratio) (z : ℤ) (b k : ℕ) → Differ z b k → x +ᵣ whole k <ᵣ whole b +ᵣ w → x <ᵣ integer z +ᵣ w
put_back x w z b k e h = omega (arith, ap (λ (t : ℕ). t * (w.over * x.over)) e)

lt-le : (x y : Ratio) → x <ᵣ y → x ≤ᵣ y
lt-le x y h = omega arith

-- The allowances of the three sides together.
regroup : (b w P u L v : Ratio) → b +ᵣ w +ᵣ (P +ᵣ u +ᵣ (L +ᵣ v)) ≡ b +ᵣ (w +ᵣ (u +ᵣ v)) +ᵣ L +ᵣ P
regroup b w P u L v =
    ap (λ (t : Ratio). b +ᵣ w +ᵣ t) (interchange P u L v)
    ∙ interchange b w (P +ᵣ L) (u +ᵣ v)
    ∙ add-swap b (P +ᵣ L) (w +ᵣ (u +ᵣ v))
    ∙ sym (add_assoc b (w +ᵣ (u +ᵣ v)) (P +ᵣ L))
    ∙ sym (add-swap (b +ᵣ (w +ᵣ (u +ᵣ v))) L P)

moved : (B P L : Ratio) (k : ℕ) → B +ᵣ whole k -ᵣ P -ᵣ L ≡ B -ᵣ P -ᵣ L +ᵣ whole k
moved B P L k = same (omega arith) (omega arith) (omega arith)

module _ (b p l : ℕ) (B P L w u v : Ratio) (posP : 0 < P.over) (posL : 0 < L.over) (posu : 0 < u.over) (posv : 0 < v.over)
    (hb : Conservative Down b B w) (hp : Conservative Up p P u) (hl : Conservative Up l L v) where
  -- The reduction is at most the exact reduction.
  pub reduction-safe : integer (reduction b p l) ≤ᵣ B -ᵣ P -ᵣ L
  reduction-safe =
      omega (
        arith,
        ap (λ (t : ℕ). t * (B.over * P.over * L.over)) (reduction-differ b p l),
        mul-le-mul_right (P.over * L.over) hb.0,
        mul-le-mul_right (B.over * L.over) hp.0,
        mul-le-mul_right (B.over * P.over) hl.0,
      )

  -- And off by less than the three sides' allowances together.
  pub reduction-near : B -ᵣ P -ᵣ L <ᵣ integer (reduction b p l) +ᵣ (w +ᵣ (u +ᵣ v))
  reduction-near =
      let all = w +ᵣ (u +ᵣ v) in
      let two = add-le (whole p) (P +ᵣ u) (whole l) (L +ᵣ v) (lt-le (whole p) (P +ᵣ u) hp.1) (lt-le (whole l) (L +ᵣ v) hl.1) in
      let three : B +ᵣ (whole p +ᵣ whole l) <ᵣ whole b +ᵣ w +ᵣ (P +ᵣ u +ᵣ (L +ᵣ v)) =
      add-lt-le B (whole b +ᵣ w) (whole p +ᵣ whole l) (P +ᵣ u +ᵣ (L +ᵣ v)) (omega arith) (mul-pos (mul-pos posP posu) (mul-pos posL posv)) hb.1 two in
      let four : B +ᵣ whole (p + l) <ᵣ whole b +ᵣ (w +ᵣ (u +ᵣ v)) +ᵣ L +ᵣ P =
      subst (λ (t : Ratio). B +ᵣ whole (p + l) <ᵣ t) (regroup (whole b) w P u L v)
      (subst (λ (t : Ratio). B +ᵣ t <ᵣ whole b +ᵣ w +ᵣ (P +ᵣ u +ᵣ (L +ᵣ v))) (sym (whole-add p l)) three) in
      let five = taken (B +ᵣ whole (p + l) -ᵣ P) L (whole b +ᵣ all) (taken (B +ᵣ whole (p + l)) P (whole b +ᵣ all +ᵣ L) four) in
      put_back (B -ᵣ P -ᵣ L) all (reduction b p l) b (p + l) (reduction-differ b p l)
      (subst (λ (t : Ratio). t <ᵣ whole b +ᵣ all) (moved B P L (p + l)) five)

-- The exact reduction's denominator is above 0.
pub reduction-over : (B P L : Ratio) → 0 < B.over → 0 < P.over → 0 < L.over → 0 < (B -ᵣ P -ᵣ L).over
reduction-over B P L posB posP posL = mul-pos (mul-pos posB posP) posL
