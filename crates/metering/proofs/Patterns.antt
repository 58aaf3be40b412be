-- The exact value of a register by the exponent field and the digits of its bit pattern, which patterns number 3
-- refuses, and the order of patterns. Assumes nothing.
use mathlib.Core.Path.{◌≡◌, refl, sym, ap, ◌∙◌, subst}
use mathlib.Core.Logic.{◌⊎◌, inl, inr}
use mathlib.Core.Bool.{Bool, true, false, not, ◌&&◌, cond, true≢false}
use Prim.Native.Nat.{ℕ, zero, suc, ◌+◌, ◌*◌, ◌/◌, ◌%◌, ◌^◌, ◌≤◌, ◌<◌}
use native.Mathlib.Nat.{mul_assoc, mul-one, mul-pos, mul-div_cancel, mul-le-mul_left, mul-lt-mul_of_pos_right, pow-suc}
use native.Mathlib.Nat.{not-suc-le-zero, lt_irrefl, lt_of_lt_of_le, eq-or-lt_of_le}
use native.Mathlib.Omega.{arith}
use lib.Dec.{T, leb, ltb, eqb}
use lib.Pow.{pow_pos, pow_mono}
use lib.IntN.{ℤ}
use lib.Ieee.{Float, nan, inf, fin, binary32, up, down, odd, of_fields, of_bits, to_bits, fits, is_nan}
use lib.Ieee.Bits.{of_bits-to_bits}
use lib.Ieee.Exact.{HasValue, odd_sign}
use lib.Ieee.Fits.{down_pos}
use lib.Ieee.Positive.{first_pos}
use borrow.Author.Tests.{le-leb, lt-leb, ne_eqb}
use Rattle.rounding.proofs.Tests.{and_both, ltb-kept}
use Rattle.metering.specs.Reading.{unit, limit, exact_register, is_readable_register, accepted}
use Rattle.metering.specs.Steps.{magnitude}
use Rattle.metering.specs.declared.Reading.TheVariants.{Single}

-- ---- a register by its value: a × 2 ^ -149 kWh is 1,000 × a units

exact-of : (v : Float) (s : Bool) (a : ℕ) → HasValue v s a (2 ^ 149) → exact_register v ≡ 1000 * a
unfolding exact_register
exact-of nan s a h = absurd h
exact-of (inf t) s a h = absurd h
exact-of (fin t m e) s a h =
    ap (λ (x : ℕ). x / down e)
    (mul_assoc 1000 (m * up e) (2 ^ 149) ∙ ap (λ (x : ℕ). 1000 * x) h.1 ∙ sym (mul_assoc 1000 a (down e)))
    ∙ mul-div_cancel (1000 * a) (down_pos e)

not-below : (v : Float) (a c : ℕ) → HasValue v false a c → is_readable_register v ≡ true
unfolding is_readable_register
not-below nan a c h = absurd h
not-below (inf t) a c h = absurd h
not-below (fin true m e) a c h = absurd (true≢false h.0)
not-below (fin false m e) a c h = refl

below-zero : (v : Float) (a c : ℕ) → 0 < a → HasValue v true a c → is_readable_register v ≡ false
unfolding is_readable_register
below-zero nan a c p h = absurd h
below-zero (inf t) a c p h = absurd h
below-zero (fin false m e) a c p h = absurd (true≢false (sym h.0))
below-zero (fin true m e) a c p h =
    ne_eqb m 0
    (λ z. lt_irrefl 0
    (subst (λ (x : ℕ). 0 < x) z
    (first_pos m (up e) (first_pos (m * up e) c (subst (λ (x : ℕ). 0 < x) (sym h.1) (mul-pos p (down_pos e)))))))

-- ---- a pattern's sign, exponent field and digits

abbrev pub field_of : ℕ → ℕ
field_of b = b % 2147483648 / 8388608

abbrev pub digits_of : ℕ → ℕ
digits_of b = b % 8388608

abbrev is_minus : ℕ → Bool
is_minus b = leb 2147483648 b

fields : (b : ℕ) → of_bits binary32 b ≡ of_fields binary32 (is_minus b) (field_of b) (digits_of b)
unfolding of_bits
fields b = refl

-- A finite pattern's value, in units of 2 ^ -149 kWh.
abbrev size : ℕ → ℕ → ℕ
size zero t = t
size (suc x) t = (8388608 + t) * 2 ^ x

abbrev pattern_size : ℕ → ℕ
pattern_size b = size (field_of b) (digits_of b)

magnitude-is : (x t : ℕ) → 1000 * size x t ≡ magnitude x t
unfolding magnitude
magnitude-is zero t = refl
magnitude-is (suc x) t = refl

low : (s : Bool) (t : ℕ) → HasValue (of_fields binary32 s 0 t) s (t * 1) (2 ^ 149)
unfolding of_fields
low s t = odd_sign 24 s t 0 149

mid-is : (s : Bool) (x t : ℕ) → suc x < 255 → of_fields binary32 s (suc x) t ≡ odd 24 s (8388608 + t) x 149
unfolding of_fields
mid-is s x t h = simp (ne_eqb (suc x) 255 (λ e. omega arith))

value : (s : Bool) (x t : ℕ) → x < 255 → HasValue (of_fields binary32 s x t) s (size x t) (2 ^ 149)
value s zero t h = subst (λ (a : ℕ). HasValue (of_fields binary32 s 0 t) s a (2 ^ 149)) (mul-one t) (low s t)
value s (suc x) t h =
    subst (λ (v : Float). HasValue v s ((8388608 + t) * 2 ^ x) (2 ^ 149)) (sym (mid-is s x t h))
    (odd_sign 24 s (8388608 + t) x 149)

at_top : (s : Bool) (t : ℕ) → of_fields binary32 s 255 t ≡ cond (eqb t 0) (inf s) nan
unfolding of_fields
at_top s t = refl

no_number : (a s : Bool) → is_readable_register (cond a (inf s) nan) ≡ false
unfolding is_readable_register
no_number true s = refl
no_number false s = refl

-- The field is below 255, or the pattern is that of an infinity or a NaN.
finite-or-not : (b : ℕ) → (field_of b < 255) ⊎ (of_bits binary32 b ≡ cond (eqb (digits_of b) 0) (inf (is_minus b)) nan)
finite-or-not b = elim (eq-or-lt_of_le (top b)) [
  | inl e ↦ inr (fields b
      ∙ ap (λ (x : ℕ). of_fields binary32 (is_minus b) x (digits_of b)) e
      ∙ at_top (is_minus b) (digits_of b))
  | inr l ↦ inl l
]
  where
    top : (b : ℕ) → field_of b ≤ 255
    top b = omega arith

-- The same of a number: the field is below 255, or it is none.
number-or-not : (b : ℕ) → (field_of b < 255) ⊎ (is_readable_register (of_bits binary32 b) ≡ false)
number-or-not b = elim (finite-or-not b) [
  | inl l ↦ inl l
  | inr e ↦ inr (ap is_readable_register e ∙ no_number (eqb (digits_of b) 0) (is_minus b))
]

pattern-value : (b : ℕ) → field_of b < 255 → HasValue (of_bits binary32 b) (is_minus b) (pattern_size b) (2 ^ 149)
pattern-value b l =
    subst (λ (v : Float). HasValue v (is_minus b) (pattern_size b) (2 ^ 149)) (sym (fields b))
    (value (is_minus b) (field_of b) (digits_of b) l)

pub exact-at : (b : ℕ) → field_of b < 255 → exact_register (of_bits binary32 b) ≡ magnitude (field_of b) (digits_of b)
exact-at b l =
    exact-of (of_bits binary32 b) (is_minus b) (pattern_size b) (pattern-value b l)
    ∙ magnitude-is (field_of b) (digits_of b)

-- ---- which patterns are those of numbers from 0

size-pos : (x t : ℕ) → 0 < x * 8388608 + t → 0 < size x t
size-pos zero t h = omega arith
size-pos (suc x) t h = mul-pos (positive t) (pow_pos x)
  where
    positive : (t : ℕ) → 0 < 8388608 + t
    positive t = omega arith

minus-zero : is_readable_register (of_bits binary32 2147483648) ≡ true
unfolding of_bits is_readable_register
minus-zero = refl

number_at : (b : ℕ) → b ≤ 2147483648 → field_of b < 255 → is_readable_register (of_bits binary32 b) ≡ true
number_at b h l = elim (eq-or-lt_of_le h) [
  | inl e ↦ ap (λ (x : ℕ). is_readable_register (of_bits binary32 x)) e ∙ minus-zero
  | inr k ↦ not-below (of_bits binary32 b) (pattern_size b) (2 ^ 149)
      (subst (λ (s : Bool). HasValue (of_bits binary32 b) s (pattern_size b) (2 ^ 149)) (lt-leb 2147483648 b k)
      (pattern-value b l))
]

pub below_at : (b : ℕ) → b < 4294967296 → 2147483648 < b → is_readable_register (of_bits binary32 b) ≡ false
below_at b w h = elim (number-or-not b) [
  | inl l ↦ below-zero (of_bits binary32 b) (pattern_size b) (2 ^ 149)
      (size-pos (field_of b) (digits_of b) (omega arith))
      (subst (λ (s : Bool). HasValue (of_bits binary32 b) s (pattern_size b) (2 ^ 149))
      (le-leb 2147483648 b (omega arith))
      (pattern-value b l))
  | inr e ↦ e
]

-- ---- what is accepted

pub no-number-refused : (ratio : ℕ) (v : Float) → is_readable_register v ≡ false → accepted ratio (Single v) ≡ false
no-number-refused ratio v h = ap (λ (t : Bool). t && leb (exact_register v * ratio) (limit * unit)) h

-- A pattern from 0 is accepted by its magnitude times the ratio.
pub accepted-at : (ratio b : ℕ) → b ≤ 2147483648 → field_of b < 255
    → accepted ratio (Single (of_bits binary32 b)) ≡ leb (magnitude (field_of b) (digits_of b) * ratio) (limit * unit)
accepted-at ratio b h l =
    ap (λ (t : Bool). t && leb (exact_register (of_bits binary32 b) * ratio) (limit * unit)) (number_at b h l)
    ∙ ap (λ (n : ℕ). leb (n * ratio) (limit * unit)) (exact-at b l)

-- From field 154 a magnitude is above the limit. The unit is a variable: `omega` takes no number of more than 38
-- digits.
magnitude-beyond : (x t : ℕ) → 153 < x → limit * unit < magnitude x t
unfolding magnitude
magnitude-beyond zero t h = absurd (not-suc-le-zero h)
magnitude-beyond (suc x) t h =
    lt_of_lt_of_le (over (8388608 + t) unit (pow_pos 149) (more t))
    (mul-le-mul_left 1000 (mul-le-mul_left (8388608 + t) (pow_mono {i = 153} {j = x} (from x h))))
  where
    from : (x : ℕ) → 153 < suc x → 153 ≤ x
    from x h = omega arith

    more : (t : ℕ) → limit < 1000 * ((8388608 + t) * 16)
    more t = omega arith

    over : (a u : ℕ) → 0 < u → limit < 1000 * (a * 16) → limit * u < 1000 * (a * (16 * u))
    over a u p h = omega (arith, mul-lt-mul_of_pos_right h p)

-- So is its product with every ratio.
pub beyond-at : (ratio b : ℕ) → 1 ≤ ratio → b ≤ 2147483648 → 153 < field_of b
    → accepted ratio (Single (of_bits binary32 b)) ≡ false
beyond-at ratio b p h k = elim (number-or-not b) [
  | inl l ↦ accepted-at ratio b h l ∙ lt-leb _ _ (more (limit * unit) _ (magnitude-beyond (field_of b) (digits_of b) k))
  | inr e ↦ no-number-refused ratio (of_bits binary32 b) e
]
  where
    more : (m n : ℕ) → m < n → m < n * ratio
    more m n l = omega (arith, mul-le-mul_left n p)

-- ---- what the test for a NaN says

pub nan-refused : (ratio : ℕ) (x : Float) → is_nan x ≡ true → accepted ratio (Single x) ≡ false
unfolding is_readable_register is_nan
nan-refused ratio nan h = refl
nan-refused ratio (inf s) h = refl
nan-refused ratio (fin s m e) h = absurd (true≢false (sym h))

pub accepted-number : (ratio : ℕ) (x : Float) → accepted ratio (Single x) ≡ true → is_readable_register x ≡ true
accepted-number ratio x h = (and_both (is_readable_register x) _ h).0

pub number-no-nan : (x : Float) → is_readable_register x ≡ true → T (not (is_nan x))
unfolding is_nan is_readable_register
number-no-nan nan h = absurd (true≢false (sym h))
number-no-nan (inf s) h = tt
number-no-nan (fin s m e) h = tt

-- ---- the order of patterns

-- Each field begins where the digits of the one before it end.
size-under : (x t : ℕ) → t < 8388608 → size x t < 8388608 * 2 ^ x
size-under zero t h = omega arith
size-under (suc x) t h = rw pow-suc (go (2 ^ x) (pow_pos x))
  where
    go : (p : ℕ) → 0 < p → (8388608 + t) * p < 8388608 * (p * 2)
    go p k = omega (arith, mul-lt-mul_of_pos_right h k)

size-over : (x y u : ℕ) → x < y → 8388608 * 2 ^ x ≤ size y u
size-over x zero u h = absurd (not-suc-le-zero h)
size-over x (suc y) u h = go (2 ^ x) (2 ^ y) (pow_mono {i = x} {j = y} (omega arith))
  where
    go : (p q : ℕ) → p ≤ q → 8388608 * p ≤ (8388608 + u) * q
    go p q k = omega arith

size-digits : (x t u : ℕ) → t < u → size x t < size x u
size-digits zero t u h = h
size-digits (suc x) t u h = go (2 ^ x) (pow_pos x)
  where
    go : (p : ℕ) → 0 < p → (8388608 + t) * p < (8388608 + u) * p
    go p k = omega (arith, mul-lt-mul_of_pos_right h k)

-- The pattern without its sign.
abbrev size_of : ℕ → ℕ
size_of k = size (k / 8388608) (k % 8388608)

size-order : (a b : ℕ) → a < b → size_of a < size_of b
size-order a b h = elim (eq-or-lt_of_le (fields-order a b h)) [
  | inl e ↦ subst (λ (x : ℕ). size_of a < size x (digits_of b)) e
      (size-digits (a / 8388608) (digits_of a) (digits_of b) (digits-order a b h e))
  | inr l ↦ lt_of_lt_of_le (size-under (a / 8388608) (digits_of a) (omega arith))
      (size-over (a / 8388608) (b / 8388608) (digits_of b) l)
]
  where
    fields-order : (a b : ℕ) → a < b → a / 8388608 ≤ b / 8388608
    fields-order a b h = omega arith

    digits-order : (a b : ℕ) → a < b → a / 8388608 ≡ b / 8388608 → a % 8388608 < b % 8388608
    digits-order a b h e = omega arith

number-field : (b : ℕ) → is_readable_register (of_bits binary32 b) ≡ true → field_of b < 255
number-field b h = elim (number-or-not b) [ inl l ↦ l | inr e ↦ absurd (true≢false (sym h ∙ e)) ]

exact_key : (x : Float) → T (fits binary32 x) → is_readable_register x ≡ true
    → exact_register x ≡ 1000 * size_of (to_bits binary32 x % 2147483648)
exact_key x f h =
    let b = to_bits binary32 x in
    let r = of_bits-to_bits binary32 x f in
    ap exact_register (sym r)
    ∙ exact-at b (number-field b (ap is_readable_register r ∙ h))
    ∙ sym (magnitude-is (field_of b) (digits_of b))
    ∙ ap (λ (t : ℕ). 1000 * size (field_of b) t) (digits b)
  where
    digits : (b : ℕ) → digits_of b ≡ b % 2147483648 % 8388608
    digits b = omega arith

-- The patterns of two numbers, read as integers without the sign, are in the order of their exact values.
pub pattern-order : (x y : Float) → T (fits binary32 x) → T (fits binary32 y) → is_readable_register x ≡ true
    → is_readable_register y ≡ true
    → ltb (to_bits binary32 x % 2147483648) (to_bits binary32 y % 2147483648)
    ≡ ltb (exact_register x) (exact_register y)
pattern-order x y f g h k =
    let a = to_bits binary32 x % 2147483648 in
    ltb-kept (λ (n : ℕ). 1000 * size_of n) keeps a (to_bits binary32 y % 2147483648)
    ∙ sym (ap (λ (n : ℕ). ltb n (exact_register y)) (exact_key x f h) ∙ ap (ltb (1000 * size_of a)) (exact_key y g k))
  where
    times : (a b : ℕ) → a < b → 1000 * a < 1000 * b
    times a b l = omega arith

    keeps : (a b : ℕ) → a < b → 1000 * size_of a < 1000 * size_of b
    keeps a b l = times (size_of a) (size_of b) (size-order a b l)

-- ---- the division in `exact_register` leaves nothing over

finite-field : (b : ℕ) (s : Bool) (m : ℕ) (e : ℤ) → of_bits binary32 b ≡ fin s m e → field_of b < 255
finite-field b s m e r = elim (finite-or-not b) [
  | inl l ↦ l
  | inr k ↦ absurd (apart (eqb (digits_of b) 0) (is_minus b) (sym r ∙ k))
]
  where
    apart : (t z : Bool) → fin s m e ≡ cond t (inf z) nan → ⊥
    apart true z h = let k : ◌≡◌ {A = ℕ} 0 1 = cc in omega arith
    apart false z h = let k : ◌≡◌ {A = ℕ} 0 1 = cc in omega arith

pub exact-register : (s : Bool) (m : ℕ) (e : ℤ) → T (fits binary32 (fin s m e))
    → exact_register (fin s m e) * down e ≡ 1000 * (m * up e) * unit
exact-register s m e f =
    let b = to_bits binary32 (fin s m e) in
    let r = of_bits-to_bits binary32 (fin s m e) f in
    cross (is_minus b) (pattern_size b)
    (subst (λ (v : Float). HasValue v (is_minus b) (pattern_size b) (2 ^ 149)) r
    (pattern-value b (finite-field b s m e r)))
  where
    cross : (z : Bool) (a : ℕ) → HasValue (fin s m e) z a unit
        → exact_register (fin s m e) * down e ≡ 1000 * (m * up e) * unit
    cross z a h =
        ap (λ (x : ℕ). x * down e) (exact-of (fin s m e) z a h)
        ∙ mul_assoc 1000 a (down e)
        ∙ ap (λ (x : ℕ). 1000 * x) (sym h.1)
        ∙ sym (mul_assoc 1000 (m * up e) unit)
