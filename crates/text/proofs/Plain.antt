-- Laws of the bytes of a template that stand for themselves and stand in a text: how many there are, and that a reader
-- may pass over them. Assumes nothing.
use Rattle.std.specs.Prelude.{Option, None, Some}
use mathlib.Core.Path.{◌≡◌, refl, sym}
use mathlib.Core.Bool.{Bool, true, false, ◌||◌, false≢true}
use mathlib.Core.List.{List, [], ◌∷◌, ◌++◌}
use Prim.Native.Nat.{ℕ, suc, ◌+◌, ◌<◌, ◌≤◌}
use native.Mathlib.Numerals.{add-one}
use lib.ListN.{length, get_or, drop, drop_of_length-le}
use lib.Seq.{drop-cons}
use borrow.Author.Tests.{eq-eqb, ne_eqb}
use Rattle.text.specs.Read.{Read, map_read}
use Rattle.text.specs.Template.{is_decimal_place, is_register_place, piece_in, numbers_in}
use Rattle.text.specs.Steps.{plain_bytes}

-- ---- how many there are, at a place of a template and one of a text

empty-text : (v : List ℕ) → plain_bytes v [] ≡ 0
unfolding plain_bytes
empty-text [] = refl
empty-text (b ∷ v) = refl

module _ (w s : List ℕ) (j i : ℕ) where
  pub plain-template-ends : length w ≤ j → plain_bytes (drop j w) (drop i s) ≡ 0
  unfolding plain_bytes
  plain-template-ends h = rw (drop_of_length-le w h)

  pub plain-text-ends : length s ≤ i → plain_bytes (drop j w) (drop i s) ≡ 0
  plain-text-ends h = rw (drop_of_length-le s h) (empty-text (drop j w))

  module _ (h : j < length w) (k : i < length s) where
    pub plain_other : (get_or s i 0 ≡ get_or w j 0 → ⊥) → plain_bytes (drop j w) (drop i s) ≡ 0
    unfolding plain_bytes
    plain_other e = rw (drop-cons w j 0 h, drop-cons s i 0 k, ne_eqb (get_or s i 0) (get_or w j 0) e)

    module _ (e : get_or s i 0 ≡ get_or w j 0) where
      pub plain-place : (is_decimal_place (get_or w j 0) || is_register_place (get_or w j 0)) ≡ true → plain_bytes (drop j w) (drop i s) ≡ 0
      unfolding plain_bytes
      plain-place p = rw (drop-cons w j 0 h, drop-cons s i 0 k, eq-eqb (get_or s i 0) (get_or w j 0) e, p)

      pub plain_more : (is_decimal_place (get_or w j 0) || is_register_place (get_or w j 0)) ≡ false
          → plain_bytes (drop j w) (drop i s) ≡ suc (plain_bytes (drop (j + 1) w) (drop (i + 1) s))
      unfolding plain_bytes
      plain_more p = rw (add-one j, add-one i, drop-cons w j 0 h, drop-cons s i 0 k, eq-eqb (get_or s i 0) (get_or w j 0) e, p)

-- ---- any of them may be passed over

map-nothing : (r : Option (Read (List ℕ))) → map_read (λ ms. [] ++ ms) r ≡ r
map-nothing None = refl
map-nothing (Some r) = refl

byte-passed : (b : ℕ) (w t : List ℕ) → (is_decimal_place b || is_register_place b) ≡ false → numbers_in w t ≡ numbers_in (b ∷ w) (b ∷ t)
unfolding numbers_in piece_in
byte-passed b w t h = go (is_decimal_place b) (is_register_place b) refl refl h
  where
    go : (d r : Bool) → is_decimal_place b ≡ d → is_register_place b ≡ r → (d || r) ≡ false → numbers_in w t ≡ numbers_in (b ∷ w) (b ∷ t)
    go true r e f h = absurd (false≢true (sym h))
    go false true e f h = absurd (false≢true (sym h))
    go false false e f h = rw (e, f, eq-eqb b b refl, map-nothing (numbers_in w t))

pub plain-passed : (w t : List ℕ) (i : ℕ) → i < length w → i < length t → get_or t i 0 ≡ get_or w i 0
    → (is_decimal_place (get_or w i 0) || is_register_place (get_or w i 0)) ≡ false
    → numbers_in (drop (i + 1) w) (drop (i + 1) t) ≡ numbers_in (drop i w) (drop i t)
plain-passed w t i h k e p = rw (add-one, drop-cons w i 0 h, drop-cons t i 0 k, e) (byte-passed (get_or w i 0) _ _ p)
