-- Laws of tables of templates: a part is read from a table exactly where its text stands, and so is a list of parts.
-- Assumes nothing.
use Rattle.std.specs.Prelude.{Option, None, Some}
use mathlib.Core.Path.{◌≡◌, refl, sym, ap, subst, ◌∙◌}
use mathlib.Core.List.{List, [], ◌∷◌, ◌++◌, append_assoc}
use Prim.Native.Nat.{ℕ, zero, suc, ◌≤◌, ◌<◌}
use Rattle.std.proofs.lemmas.Option.{none-some, same_Some}
use native.Mathlib.Omega.{arith}
use lib.ListN.{length, length-append}
use Rattle.text.specs.Read.{Read, on_read, map_read}
use Rattle.text.specs.Template.{filled, places_of, bound, Writable, piece_in, numbers_in, numbers_of, template_in}
use Rattle.text.specs.declared.Numbers.{Numbers}
use Rattle.text.proofs.Templates.{Parted, template-reads-back, template-stands}
use Rattle.rounding.specs.Lists.{All}
use Rattle.forms.specs.Form.{all_text, optional_text, WhereThere}
use Rattle.forms.specs.Reading.{Row, or_else, one_of, or_left_out, optional_of, followed, many_within, many_of}

-- The text of what was read stands at the start of t, up to the rest, and can be written.
pub record Stands {A : Type 0} (text : A → List ℕ) (Ok : A → Type 0) (t : List ℕ) (r : Read A) : Type 0 where
  pub stands : t ≡ text r.value ++ r.rest
  pub writable : Ok r.value

-- ---- what a reading that succeeds was made of

module _ {A : Type 0} where
  pub either-read : {C : Type 0} (a b : Option A) (r : A) → or_else a b ≡ Some r → (a ≡ Some r → C) → (b ≡ Some r → C) → C
  either-read None b r e f g = g e
  either-read (Some a) b r e f g = f e

  pub then-read : {a : Option A} (b : Option A) {r : A} → a ≡ Some r → or_else a b ≡ Some r
  then-read b e = rw e

  pub else-read : {a b r : Option A} → a ≡ None → b ≡ r → or_else a b ≡ r
  else-read e f = rw e f

module _ {A B : Type 0} where
  pub on_read_lem : {C : Type 0} (m : Option (Read A)) (k : A → List ℕ → Option B) (r : B) → on_read m k ≡ Some r
      → ((q : Read A) → m ≡ Some q → k q.value q.rest ≡ Some r → C) → C
  on_read_lem None k r e c = absurd (none-some r e)
  on_read_lem (Some q) k r e c = c q refl e

  pub on-map : (C : Read B → Type 0) (f : A → B) (m : Option (Read A)) (r : Read B) → map_read f m ≡ Some r
      → ((q : Read A) → m ≡ Some q → C (record { value = f q.value; rest = q.rest })) → C r
  on-map C f None r e c = absurd (none-some r e)
  on-map C f (Some q) r e c = subst C (same_Some _ _ e) (c q refl)

-- ---- a template

-- P holds of all numbers that can be written at these places.
abbrev pub OfNumbers : List ℕ → (List ℕ → Type 0) → Type 0
OfNumbers [] P = P []
OfNumbers (b ∷ places) P = (n : ℕ) → n < bound b → OfNumbers places (λ ns. P (n ∷ ns))

of-numbers : (places : List ℕ) (P : List ℕ → Type 0) → OfNumbers places P → (ns : List ℕ) → Writable places ns → P ns
of-numbers [] P p [] v = p
of-numbers [] P p (n ∷ ns) v = absurd v
of-numbers (b ∷ places) P p [] v = absurd v
of-numbers (b ∷ places) P p (n ∷ ns) v = of-numbers places (λ ns. P (n ∷ ns)) (p n v.0) ns v.1

-- What holds of all numbers whose text can stand there holds of those that were read.
pub on-template : (C : Numbers → Type 0) (w t : List ℕ) (q : Read Numbers) → template_in w t ≡ Some q
    → OfNumbers (places_of w) (λ ns. t ≡ filled w ns ++ q.rest → C (numbers_of ns)) → C q.value
on-template C w t q e c =
    let s = template-stands w t q.value q.rest e in
    subst C s.value (of-numbers (places_of w) (λ ns. t ≡ filled w ns ++ q.rest → C (numbers_of ns)) c s.numbers s.writable s.text)

-- A template in two parts reads nothing where its second part reads nothing after the first.
numbers-later : (u v t : List ℕ) (r : Read (List ℕ)) → numbers_in u t ≡ Some r → numbers_in v r.rest ≡ None → numbers_in (u ++ v) t ≡ None
unfolding numbers_in
numbers-later [] v t r e f = rw (ap (λ (q : Read (List ℕ)). q.rest) (same_Some _ _ e)) f
numbers-later (b ∷ u) v t r e f = go (numbers-later u v) (piece_in b t) e
  where
    go : ((t : List ℕ) (r : Read (List ℕ)) → numbers_in u t ≡ Some r → numbers_in v r.rest ≡ None → numbers_in (u ++ v) t ≡ None)
        → (p : Option (Read (List ℕ))) → on_read p (λ ns rest. map_read (λ ms. ns ++ ms) (numbers_in u rest)) ≡ Some r
        → on_read p (λ ns rest. map_read (λ ms. ns ++ ms) (numbers_in (u ++ v) rest)) ≡ None
    go later None e = refl
    go later (Some q) e =
        on-map (λ r. numbers_in v r.rest ≡ None → map_read (λ ms. q.value ++ ms) (numbers_in (u ++ v) q.rest) ≡ None)
        (λ ms. q.value ++ ms) (numbers_in u q.rest) r e (λ m k f. rw (later q.rest m k f)) f

pub template-later : (u v t : List ℕ) (r : Read Numbers) → template_in u t ≡ Some r → numbers_in v r.rest ≡ None → template_in (u ++ v) t ≡ None
unfolding template_in
template-later u v t r e f =
    ap (map_read numbers_of)
    (on-map (λ r. numbers_in v r.rest ≡ None → numbers_in (u ++ v) t ≡ None) numbers_of (numbers_in u t) r e (λ m k f. numbers-later u v t m k f) f)

-- ---- a table

pub no_row : {A : Type 0} (t : List ℕ) → one_of {A = A} [] t ≡ None
unfolding one_of
no_row t = refl

-- Of two tables the second is tried where the first reads nothing.
pub one-append : {A : Type 0} (rows more : List (Row A)) (t : List ℕ) → one_of (rows ++ more) t ≡ or_else (one_of rows t) (one_of more t)
unfolding one_of
one-append [] more t = refl
one-append {A = A} (w ∷ rows) more t = rw (one-append rows more t) (go (map_read w.value (template_in w.template t)))
  where
    go : (a : Option (Read A)) → or_else a (or_else (one_of rows t) (one_of more t)) ≡ or_else (or_else a (one_of rows t)) (one_of more t)
    go None = refl
    go (Some r) = refl

module _ {A : Type 0} (text : A → List ℕ) (Ok : A → Type 0) where
  -- A row's template, filled with numbers, is the text of what they stand for.
  abbrev Filled : Row A → List ℕ → Type 0
  Filled w ns = (filled w.template ns ≡ text (w.value (numbers_of ns))) × Ok (w.value (numbers_of ns))

  abbrev pub RowIsText : Row A → Type 0
  RowIsText w = OfNumbers (places_of w.template) (Filled w)

  row-stands : (w : Row A) → RowIsText w → (t : List ℕ) (q : Read Numbers) → template_in w.template t ≡ Some q
      → Stands text Ok t (record { value = w.value q.value; rest = q.rest })
  row-stands w says t q e =
      let s = template-stands w.template t q.value q.rest e in
      let f = of-numbers (places_of w.template) (Filled w) says s.numbers s.writable in
      subst (λ (n : Numbers). Stands text Ok t (record { value = w.value n; rest = q.rest })) s.value
      (record { stands = rw (← f.0) s.text; writable = f.1 })

  pub one-stands : (rows : List (Row A)) → All RowIsText rows → (t : List ℕ) (r : Read A) → one_of rows t ≡ Some r → Stands text Ok t r
  unfolding one_of
  one-stands [] says t r e = absurd (none-some r e)
  one-stands (w ∷ rows) says t r e =
      either-read (map_read w.value (template_in w.template t)) (one_of rows t) r e
      (λ e. on-map (Stands text Ok t) w.value (template_in w.template t) r e (row-stands w says.0 t))
      (one-stands rows says.1 t r)

module _ {A : Type 0} (w : Row A) (rows : List (Row A)) where
  pub this-row : (ns rest : List ℕ) → Writable (places_of w.template) ns → Parted w.template ns rest
      → one_of (w ∷ rows) (filled w.template ns ++ rest) ≡ Some (record { value = w.value (numbers_of ns); rest = rest })
  unfolding one_of
  this-row ns rest v p = rw (template-reads-back w.template ns rest v p)

  pub later-row : (t : List ℕ) {r : Option (Read A)} → template_in w.template t ≡ None → one_of rows t ≡ r → one_of (w ∷ rows) t ≡ r
  unfolding one_of
  later-row t e f = rw e f

-- ---- a part that may be left out, and a list of parts

module _ {A : Type 0} (text : A → List ℕ) (Ok : A → Type 0) (rows : List (Row A)) where
  module _ (stands : (t : List ℕ) (r : Read A) → one_of rows t ≡ Some r → Stands text Ok t r) where
    pub optional-stands : (t : List ℕ) → Stands (optional_text text) (WhereThere Ok) t (optional_of rows t)
    optional-stands t = go (one_of rows t) (stands t)
      where
        go : (m : Option (Read A)) → ((r : Read A) → m ≡ Some r → Stands text Ok t r)
            → Stands (optional_text text) (WhereThere Ok) t (or_left_out t m)
        go None s = record { stands = refl; writable = tt }
        go (Some r) s = let q = s r refl in record { stands = q.stands; writable = q.writable }

    many-within-stands : (most : ℕ) (t : List ℕ) → Stands (all_text text) (All Ok) t (many_within rows most t)
    unfolding many_within all_text
    many-within-stands zero t = record { stands = refl; writable = tt }
    many-within-stands (suc most) t = go (many-within-stands most) (one_of rows t) (stands t)
      where
        go : ((t : List ℕ) → Stands (all_text text) (All Ok) t (many_within rows most t)) → (m : Option (Read A))
            → ((r : Read A) → m ≡ Some r → Stands text Ok t r) → Stands (all_text text) (All Ok) t (followed t m (many_within rows most))
        go more None s = record { stands = refl; writable = tt }
        go more (Some r) s =
            record {
              stands = rw (append_assoc, ← (more r.rest).stands) (s r refl).stands;
              writable = ((s r refl).writable, (more r.rest).writable);
            }

    pub many-stand : (t : List ℕ) → Stands (all_text text) (All Ok) t (many_of rows t)
    many-stand t = many-within-stands (length t) t

  module _ (back : (a : A) (rest : List ℕ) → Ok a → one_of rows (text a ++ rest) ≡ Some (record { value = a; rest = rest }))
      (rest : List ℕ) (last : one_of rows rest ≡ None) where
    pub optional-reads-back : (a : Option A) → WhereThere Ok a → optional_of rows (optional_text text a ++ rest) ≡ record { value = a; rest = rest }
    optional-reads-back None h = rw last
    optional-reads-back (Some a) h = rw (back a rest h)

    -- A part has a byte: with no text it would be read where none is.
    part-above-zero : (a : A) → Ok a → 0 < length (text a)
    part-above-zero a h = go (text a) (back a rest h)
      where
        go : (w : List ℕ) → one_of rows (w ++ rest) ≡ Some (record { value = a; rest = rest }) → 0 < length w
        go [] e = absurd (none-some _ (sym last ∙ e))
        go (b ∷ w) e = omega arith

    many-within-back : (most : ℕ) (parts : List A) → All Ok parts → length (all_text text parts ++ rest) ≤ most
        → many_within rows most (all_text text parts ++ rest) ≡ record { value = parts; rest = rest }
    unfolding many_within all_text
    many-within-back zero [] h l = refl
    many-within-back zero (a ∷ parts) h l = absurd (omega (arith, part-above-zero a h.0, simp length-append at l))
    many-within-back (suc most) [] h l = rw last
    many-within-back (suc most) (a ∷ parts) h l =
        let more = many-within-back most parts h.1 (simp length-append (omega (arith, part-above-zero a h.0, simp length-append at l))) in
        rw (append_assoc, back a (all_text text parts ++ rest) h.0, more)

    pub many-read-back : (parts : List A) → All Ok parts → many_of rows (all_text text parts ++ rest) ≡ record { value = parts; rest = rest }
    many-read-back parts h = many-within-back (length (all_text text parts ++ rest)) parts h (omega arith)
