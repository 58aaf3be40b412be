-- The parts that a loop reads one after the other: what is left gives what the whole gives. Assumes nothing.
use Rattle.std.specs.Prelude.{Option, None, Some}
use Prim.Native.Nat.{ℕ, zero, suc, ◌+◌, ◌≤◌}
use mathlib.Core.Path.{◌≡◌, refl}
use mathlib.Core.List.{List, [], ◌∷◌, map}
use Rattle.std.proofs.lemmas.List.{length-map, set_past}
use native.Mathlib.Numerals.{add-one}
use native.Mathlib.Omega.{arith}
use lib.ListN.{length, set, replicate}
use Rattle.text.specs.Read.{Read, map_read}
use Rattle.forms.specs.Reading.{Row, one_of, followed, many_within, many_of}
use Rattle.forms.specs.Calls.{four_of}
use Rattle.forms.specs.Steps.{parts_within, parts_in, placed_from}

-- ---- the turns of the loop

-- The parts placed so far, and those that are left: together they give what the whole gives.
pub record Amounts {A : Type 0} (whole : Read (List A)) (all_placed : List A) (count : ℕ) (places : List A) (left : Read (List A)) : Type 0 where
  pub placed : placed_from count places left.value ≡ all_placed
  pub all : count + length left.value ≡ length whole.value
  pub rest : left.rest ≡ whole.rest

-- The whole as the loop answers it: the places, the count, and what is left of the text.
pub record Gives {A : Type 0} (whole : Read (List A)) (all_placed : List A) (count : ℕ) (places : List A) (t : List ℕ) : Type 0 where
  pub placed : places ≡ all_placed
  pub all : count ≡ length whole.value
  pub rest : t ≡ whole.rest

module _ {A : Type 0} (part_in : List ℕ → Option (Read A)) (whole : Read (List A)) (all_placed : List A) where
  nothing_left : (count : ℕ) (places : List A) (t : List ℕ) → Amounts whole all_placed count places (record { value = []; rest = t })
      → Gives whole all_placed count places t
  unfolding placed_from
  nothing_left count places t l = record { placed = l.placed; all = (let n = l.all in omega arith); rest = l.rest }

  pub left_end : (count : ℕ) (places : List A) (k : ℕ) (t : List ℕ) → k ≡ 0 → Amounts whole all_placed count places (parts_within part_in k t)
      → Gives whole all_placed count places t
  unfolding parts_within
  left_end count places zero t e l = nothing_left count places t l
  left_end count places (suc k) t e l = absurd (omega arith)

  pub left_none : (count : ℕ) (places : List A) (k : ℕ) (t : List ℕ) → None ≡ part_in t
      → Amounts whole all_placed count places (parts_within part_in k t) → Gives whole all_placed count places t
  unfolding parts_within
  left_none count places zero t e l = nothing_left count places t l
  left_none count places (suc k) t e l = nothing_left count places t (rw (← e) at l)

  -- A part was read: it is placed, and counted.
  pub left_one : (count : ℕ) (places new : List A) (j k : ℕ) (t rest : List ℕ) (part : A) → new ≡ set places count part → j ≡ k + 1
      → Amounts whole all_placed count places (parts_within part_in j t) → Some (record { value = part; rest = rest }) ≡ part_in t
      → Amounts whole all_placed (count + 1) new (parts_within part_in k rest)
  unfolding parts_within placed_from
  left_one count places new j k t rest part p h l e =
      let r = rw (h, add-one, ← e) at l in
      rw p (record { placed = r.placed; all = (let n = r.all in omega arith); rest = r.rest })

-- ---- the first four

module _ {B : Type 0} where
  placed_full : (n : ℕ) (places parts : List B) → length places ≤ n → placed_from n places parts ≡ places
  unfolding placed_from
  placed_full n places [] h = refl
  placed_full n places (b ∷ parts) h = rw (set_past places n b h) (placed_full (n + 1) places parts (omega arith))

  pub placed-four : (empty : B) (parts : List B) → placed_from 0 (replicate 4 empty) parts ≡ four_of empty parts
  unfolding placed_from four_of
  placed-four empty [] = refl
  placed-four empty (a ∷ []) = refl
  placed-four empty (a ∷ b ∷ []) = refl
  placed-four empty (a ∷ b ∷ c ∷ []) = refl
  placed-four empty (a ∷ b ∷ c ∷ d ∷ parts) = placed_full 4 (a ∷ b ∷ c ∷ d ∷ []) parts (omega arith)

  pub map-four : (f : B → B) (empty : B) (bs : List B) → f empty ≡ empty → map f (four_of empty bs) ≡ four_of empty (map f bs)
  unfolding four_of
  map-four f empty [] h = rw h
  map-four f empty (a ∷ []) h = rw h
  map-four f empty (a ∷ b ∷ []) h = rw h
  map-four f empty (a ∷ b ∷ c ∷ []) h = rw h
  map-four f empty (a ∷ b ∷ c ∷ d ∷ bs) h = refl

-- ---- a table of which the code has the parts in its own fields

module _ {A B : Type 0} (rows : List (Row A)) (f : A → B) where
  abbrev changed : Read (List A) → Read (List B)
  changed r = record { value = map f r.value; rest = r.rest }

  mapped-within : (most : ℕ) (t : List ℕ) → parts_within (λ t. map_read f (one_of rows t)) most t ≡ changed (many_within rows most t)
  unfolding parts_within many_within
  mapped-within zero t = refl
  mapped-within (suc most) t = go (one_of rows t) (mapped-within most)
    where
      go : (o : Option (Read A)) → ((t : List ℕ) → parts_within (λ t. map_read f (one_of rows t)) most t ≡ changed (many_within rows most t))
          → followed t (map_read f o) (parts_within (λ t. map_read f (one_of rows t)) most) ≡ changed (followed t o (many_within rows most))
      go None more = refl
      go (Some r) more = rw (more r.rest)

  module _ (t : List ℕ) where
    abbrev parts : Read (List B)
    parts = parts_in (λ t. map_read f (one_of rows t)) t

    mapped-parts : parts ≡ changed (many_of rows t)
    mapped-parts = mapped-within (length t) t

    pub first-parts : (none empty : B) {places : List B} → none ≡ empty → places ≡ placed_from 0 (none ∷ none ∷ none ∷ none ∷ []) parts.value
        → places ≡ four_of empty (map f (many_of rows t).value)
    first-parts none empty h e = rw (e, h, mapped-parts) (placed-four empty _)

    pub parts-count : {n : ℕ} → n ≡ length parts.value → n ≡ length (many_of rows t).value
    parts-count e = rw (e, mapped-parts) (length-map _ _)

    pub parts-rest : {rest : List ℕ} → rest ≡ parts.rest → rest ≡ (many_of rows t).rest
    parts-rest e = rw (e, mapped-parts)
