-- What stands under the numbers, as a list: how long it is, and that what holds of every standing item holds of the
-- list, and back. Assumes nothing.
use Rattle.std.specs.Prelude.{Option, None, Some}
use Prim.Native.Nat.{ℕ, zero, suc, ◌+◌, ◌≤◌, ◌<◌}
use mathlib.Core.Path.{◌≡◌, refl, sym, subst}
use mathlib.Core.Bool.{Bool, true, false, cond}
use mathlib.Core.List.{List, [], ◌∷◌}
use mathlib.Core.Logic.{inl, inr}
use Rattle.std.proofs.lemmas.Option.{none-some, same_Some}
use native.Mathlib.Omega.{arith}
use native.Mathlib.Nat.{eq-or-lt_of_le}
use lib.ListN.{length}
use Rattle.rounding.specs.Lists.{All}
use Rattle.report.specs.Report.{Numbered, prepend_standing, standing, selected}

abbrev pub numbered : {A : Type 0} → ℕ → A → Numbered A
numbered n a = record { number = n; item = a }

pub never-some : {A : Type 0} {a : A} → None ≡ Some a → ⊥
never-some {a} e = none-some a e

module _ {A : Type 0} (P : Numbered A → Type 0) where
  -- An item before a list, where one stands.
  prepend-all : (n : ℕ) (o : Option A) (l : List (Numbered A)) → ((a : A) → o ≡ Some a → P (numbered n a)) → All P l
      → All P (prepend_standing n o l)
  prepend-all n None l h k = k
  prepend-all n (Some a) l h k = (h a refl, k)

  prepend-here : (n : ℕ) (a : A) (o : Option A) (l : List (Numbered A)) → o ≡ Some a → All P (prepend_standing n o l)
      → P (numbered n a)
  prepend-here n a None l e k = absurd (never-some e)
  prepend-here n a (Some b) l e k = subst (λ (x : A). P (numbered n x)) (same_Some b a e) k.0

  prepend-rest : (n : ℕ) (o : Option A) (l : List (Numbered A)) → All P (prepend_standing n o l) → All P l
  prepend-rest n None l k = k
  prepend-rest n (Some b) l k = k.1

module _ {A : Type 0} (place : ℕ → Option A) (P : Numbered A → Type 0) where
  -- What holds of each item that stands under some numbers holds of the list of them,
  pub standing-all : (from count : ℕ)
      → ((n : ℕ) (a : A) → place n ≡ Some a → from ≤ n → n < from + count → P (numbered n a))
      → All P (standing place from count)
  unfolding standing
  standing-all from zero h = tt
  standing-all from (suc count) h =
      prepend-all P from (place from) (standing place (suc from) count) (λ a e. h from a e (omega arith) (omega arith))
      (standing-all (suc from) count (λ n a e l u. h n a e (omega arith) (omega arith)))

  -- and back.
  pub standing-at : (from count : ℕ) → All P (standing place from count) → (n : ℕ) (a : A) → place n ≡ Some a
      → from ≤ n → n < from + count
      → P (numbered n a)
  unfolding standing
  standing-at from zero h n a e l u = absurd (none-there l u)
    where
      none-there : from ≤ n → n < from + 0 → ⊥
      none-there l u = omega arith
  standing-at from (suc count) h n a e l u = elim (eq-or-lt_of_le l) [
    | inl z ↦ subst (λ (i : ℕ). P (numbered i a)) z
        (prepend-here P from a (place from) (standing place (suc from) count)
        (subst (λ (i : ℕ). place i ≡ Some a) (sym z) e) h)
    | inr k ↦
        standing-at (suc from) count (prepend-rest P from (place from) (standing place (suc from) count) h) n a e k
        (omega arith)
  ]

-- Under some numbers stands no more than there are numbers.
pub standing-length : {A : Type 0} (place : ℕ → Option A) (from count : ℕ) → length (standing place from count) ≤ count
unfolding standing
standing-length place from zero = omega arith
standing-length {A} place from (suc count) = go (place from) (standing-length place (suc from) count)
  where
    go : (o : Option A) → length (standing place (suc from) count) ≤ count
        → length (prepend_standing from o (standing place (suc from) count)) ≤ suc count
    go None k = omega arith
    go (Some a) k = omega arith

-- What holds of a list holds of those that pass a test, and they pass it.
pub selected-all : {A : Type 0} (P : A → Type 0) (p : A → Bool) (xs : List A) → All P xs
    → All (λ (x : A). P x × (p x ≡ true)) (selected p xs)
unfolding selected
selected-all P p [] h = tt
selected-all {A} P p (x ∷ xs) h = go (p x) refl (selected-all P p xs h.1)
  where
    go : (t : Bool) → p x ≡ t → All (λ (y : A). P y × (p y ≡ true)) (selected p xs)
        → All (λ (y : A). P y × (p y ≡ true)) (cond t (x ∷ selected p xs) (selected p xs))
    go true e k = ((h.0, e), k)
    go false e k = k

-- They are no more than the list.
pub selected-length : {A : Type 0} (p : A → Bool) (xs : List A) → length (selected p xs) ≤ length xs
unfolding selected
selected-length p [] = omega arith
selected-length {A} p (x ∷ xs) = go (p x) (selected-length p xs)
  where
    go : (t : Bool) → length (selected p xs) ≤ length xs
        → length (cond t (x ∷ selected p xs) (selected p xs)) ≤ suc (length xs)
    go true k = omega arith
    go false k = omega arith
