-- A register's magnitude, rounded by one shift to the right. Assumes nothing.
use mathlib.Core.Path.{◌≡◌, refl, sym, ap, ◌∙◌}
use mathlib.Core.Logic.{◌⊎◌, inl, inr, ◌≢◌}
use Prim.Native.Nat.{ℕ, zero, suc, ◌+◌, ◌-◌, ◌*◌, ◌/◌, ◌%◌, ◌^◌, ◌≤◌, ◌<◌}
use native.Mathlib.Nat.{div-add-mod', div-eq_of_lt, div-mul-le_self, mod-eq_of_lt, mul-le-mul_right, lt_of_lt_of_le}
use native.Mathlib.Nat.{lt_of_le_of_lt}
use native.Mathlib.Omega.{arith}
use lib.Pow.{pow_pos, pow_mono, pow-add}
use Rattle.rounding.specs.declared.Direction.{Direction}
use Rattle.rounding.specs.declared.Direction.TheVariants.{Up, Down}
use Rattle.rounding.specs.Divided.{divided}
use Rattle.rounding.proofs.Divided.{divided-is, divided-scaled, down_is, up-even, up-odd}
use Rattle.metering.specs.Reading.{unit}
use Rattle.metering.specs.Steps.{magnitude, rounded_both_ways}
use Rattle.metering.specs.declared.Bounds.{Bounds}

-- ---- the shift loses what the division by the unit loses

-- A dividend below its divisor is rounded to 0 or 1, whatever the divisor.
divided-below : (dir : Direction) (n d e : ℕ) → n < d → n < e → divided dir n d ≡ divided dir n e
divided-below Down n d e h k = sym (down_is n d) ∙ div-eq_of_lt h ∙ sym (div-eq_of_lt k) ∙ down_is n e
divided-below Up zero d e h k = sym (divided-is Up 0 d 0 h (omega arith)) ∙ divided-is Up 0 e 0 k (omega arith)
divided-below Up (suc n) d e h k =
    sym (divided-is Up (suc n) d 1 (omega arith) (omega arith)) ∙ divided-is Up (suc n) e 1 (omega arith) (omega arith)

-- The digits with the leading one, which field 0 has not.
abbrev pub Significand : ℕ → ℕ → ℕ → Type 0
Significand field digits s = ((field ≡ 0) × (s ≡ digits)) ⊎ ((field ≢ 0) × (s ≡ digits + 8388608))

-- The places to shift by: 153 less the field, at most 63.
abbrev pub Shift : ℕ → ℕ → Type 0
Shift field k = ((field < 90) × (k ≡ 63)) ⊎ ((90 ≤ field) × (k ≡ 153 - field))

significand-bound : (field digits s : ℕ) → digits < 8388608 → Significand field digits s → s < 16777216
significand-bound field digits s h (inl w) = omega arith
significand-bound field digits s h (inr w) = omega arith

magnitude-by : (field digits s : ℕ) → Significand field digits s
    → s * 8000 * 2 ^ (field - 1) ≡ magnitude field digits * 8
unfolding magnitude
magnitude-by zero digits s (inl w) = rw w.1 (omega arith)
magnitude-by zero digits s (inr w) = absurd (w.0 refl)
magnitude-by (suc x) digits s (inl w) = absurd (none w.0)
  where
    none : suc x ≡ 0 → ⊥
    none e = omega arith
magnitude-by (suc x) digits s (inr w) = ap (λ (k : ℕ). s * 8000 * 2 ^ k) (less x) ∙ rw w.1 (go (2 ^ x))
  where
    less : (x : ℕ) → suc x - 1 ≡ x
    less x = omega arith

    go : (p : ℕ) → (digits + 8388608) * 8000 * p ≡ 1000 * ((8388608 + digits) * p) * 8
    go p = omega arith

-- The count of a register times a ratio, in eighths of 1,000 units.
magnitude-times : (field digits s r : ℕ) → Significand field digits s
    → s * 8000 * r * 2 ^ (field - 1) ≡ magnitude field digits * r * 8
magnitude-times field digits s r sig =
    swap s r (2 ^ (field - 1)) ∙ ap (λ (n : ℕ). n * r) (magnitude-by field digits s sig)
    ∙ last (magnitude field digits) r
  where
    swap : (s r p : ℕ) → s * 8000 * r * p ≡ s * 8000 * p * r
    swap s r p = omega arith

    last : (x r : ℕ) → x * 8 * r ≡ x * r * 8
    last x r = omega arith

-- A ratio of 16 bits leaves the count below 2 ^ 53.
pub count-bound : (field digits s r : ℕ) → digits < 8388608 → r < 65536 → Significand field digits s
    → s * 8000 * r < 2 ^ 53
count-bound field digits s r l b sig = go s r (significand-bound field digits s l sig) b
  where
    go : (s r : ℕ) → s < 16777216 → r < 65536 → s * 8000 * r < 2 ^ 53
    go s r a c = omega (arith, mul-le-mul_right (8000 * r) a, mul-le-mul_right (8000 * 16777216) c)

-- Eight units are 2 ^ 152.
pub shifted_by : (dir : Direction) (field digits s k r : ℕ) → field ≤ 153 → digits < 8388608 → r < 65536
    → Significand field digits s → Shift field k
    → divided dir (s * 8000 * r) (2 ^ k) ≡ divided dir (magnitude field digits * r) unit
shifted_by dir field digits s k r h l b sig sh =
    places sh
    ∙ sym (divided-scaled dir (s * 8000 * r) (2 ^ (152 - (field - 1))) (2 ^ (field - 1))
    (pow_pos (152 - (field - 1))) (pow_pos (field - 1)))
    ∙ ap (divided dir (s * 8000 * r * 2 ^ (field - 1)))
    (sym (pow-add 2 (152 - (field - 1)) (field - 1)) ∙ ap (λ (j : ℕ). 2 ^ j) (sum field h))
    ∙ ap (λ (n : ℕ). divided dir n (2 ^ 152)) (magnitude-times field digits s r sig)
    ∙ divided-scaled dir (magnitude field digits * r) unit 8 (pow_pos 149) (omega arith)
  where
    sum : (field : ℕ) → field ≤ 153 → (152 - (field - 1)) + (field - 1) ≡ 152
    sum field h = omega arith

    small : {n : ℕ} → n < 2 ^ 53 → n < 2 ^ 63
    small a = omega arith

    long : (field : ℕ) → field < 90 → 63 ≤ 152 - (field - 1)
    long field b = omega arith

    short : (field : ℕ) → 90 ≤ field → 153 - field ≡ 152 - (field - 1)
    short field b = omega arith

    places : Shift field k → divided dir (s * 8000 * r) (2 ^ k) ≡ divided dir (s * 8000 * r) (2 ^ (152 - (field - 1)))
    places (inl w) =
        let n = small (count-bound field digits s r l b sig) in
        ap (λ (j : ℕ). divided dir (s * 8000 * r) (2 ^ j)) w.1
        ∙ divided-below dir (s * 8000 * r) (2 ^ 63) (2 ^ (152 - (field - 1))) n
        (lt_of_lt_of_le n (pow_mono {i = 63} {j = 152 - (field - 1)} (long field w.0)))
    places (inr w) = ap (λ (j : ℕ). divided dir (s * 8000 * r) (2 ^ j)) (w.1 ∙ short field w.0)

-- ---- the test whether bits were lost

-- The shift back does not wrap.
back : (n k : ℕ) → n < 2 ^ 64 → n / 2 ^ k * 2 ^ k % 2 ^ 64 ≡ n / 2 ^ k * 2 ^ k
back n k h = mod-eq_of_lt (lt_of_le_of_lt (div-mul-le_self n (2 ^ k)) h)

none-lost : (n d : ℕ) → n / d * d ≡ n → n % d ≡ 0
none-lost n d e = omega (arith, div-add-mod' n d)

some-lost : (n d : ℕ) → n / d * d ≢ n → n % d ≢ 0
some-lost n d e z = e (omega (arith, div-add-mod' n d))

both_ways : (x p q : ℕ) → p ≡ divided Down x unit → q ≡ divided Up x unit
    → ◌≡◌ {A = Bounds} record { down = p; up = q } (rounded_both_ways x)
both_ways x p q d u = rw (d, u)

module _ (x n k : ℕ) (fits : n < 2 ^ 64) (is : (dir : Direction) → divided dir n (2 ^ k) ≡ divided dir x unit) where
  pub exact-both : n / 2 ^ k * 2 ^ k % 2 ^ 64 ≡ n
      → ◌≡◌ {A = Bounds} record { down = n / 2 ^ k; up = n / 2 ^ k } (rounded_both_ways x)
  exact-both e =
      both_ways x (n / 2 ^ k) (n / 2 ^ k) (down_is n (2 ^ k) ∙ is Down)
      (up-even n (2 ^ k) (pow_pos k) (none-lost n (2 ^ k) (sym (back n k fits) ∙ e)) ∙ is Up)

  pub inexact-both : n / 2 ^ k * 2 ^ k % 2 ^ 64 ≢ n
      → ◌≡◌ {A = Bounds} record { down = n / 2 ^ k; up = n / 2 ^ k + 1 } (rounded_both_ways x)
  inexact-both e =
      both_ways x (n / 2 ^ k) (n / 2 ^ k + 1) (down_is n (2 ^ k) ∙ is Down)
      (up-odd n (2 ^ k) (pow_pos k) (some-lost n (2 ^ k) (λ z. e (back n k fits ∙ z))) ∙ is Up)
