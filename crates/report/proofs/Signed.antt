-- 64 bits hold the differences of numbers of tonnes, each at most 1,000,000,000. Assumes nothing.
use Prim.Native.Nat.{ℕ, zero, suc, ◌+◌, ◌-◌, ◌≤◌}
use mathlib.Core.Path.{◌≡◌, ap}
use mathlib.Core.Bool.{Bool, true, false, cond}
use native.Mathlib.Omega.{arith}
use lib.Dec.{ltb}
use lib.IntN.{ℤ, pos, negsuc, ◌-ℤ◌, +ℤ_idr}
use lib.Signed.{mag}
use mir.Syntax.{w64}
use mir.Val.{SFits, of_z, to_z}
use mir.ValLaws.{to_z_pos, to_z-of_z}
use Rattle.report.specs.Report.{reduction}

pub number_read : {n : ℕ} → n ≤ 1000000000 → to_z w64 n ≡ pos n
number_read {n} h = to_z_pos w64 n (omega arith)

-- The size of a difference, by the test which of the two is less.
by-test : (t : Bool) (a b : ℕ) → mag (cond t (negsuc (b - suc a)) (pos (a - b))) ≤ a + b
by-test true a b = omega arith
by-test false a b = omega arith

mag_less : (z : ℤ) (n : ℕ) → mag (z -ℤ pos n) ≤ mag z + n
mag_less (pos a) zero = omega arith
mag_less (pos a) (suc n) = by-test (ltb a (suc n)) a (suc n)
mag_less (negsuc a) zero = omega (arith, ap mag (+ℤ_idr (negsuc a)))
mag_less (negsuc a) (suc n) = omega arith

module _ {b p : ℕ} (hb : b ≤ 1000000000) (hp : p ≤ 1000000000) where
  pub difference-fits : SFits w64 (pos b -ℤ pos p)
  difference-fits = record { sfits = omega (arith, mag_less (pos b) p) }

  pub difference-read : to_z w64 (of_z w64 (pos b -ℤ pos p)) ≡ pos b -ℤ pos p
  difference-read = to_z-of_z w64 (pos b -ℤ pos p) difference-fits

  module _ {l : ℕ} (hl : l ≤ 1000000000) where
    pub reduction-fits : SFits w64 (reduction b p l)
    unfolding reduction
    reduction-fits = record { sfits = omega (arith, mag_less (pos b -ℤ pos p) l, mag_less (pos b) p) }

    pub reduction-read : to_z w64 (of_z w64 (reduction b p l)) ≡ reduction b p l
    reduction-read = to_z-of_z w64 (reduction b p l) reduction-fits
