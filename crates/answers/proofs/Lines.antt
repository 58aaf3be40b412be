-- Laws of the lines of an input. Assumes nothing.
use Rattle.std.proofs.Common.{ℕ, ◌+◌, ◌-◌, ◌<◌, ◌≤◌, ◌≡◌, ◌∙◌, refl, sym, ap, min, Bool, true, false, cond, eqb, arith}
use Rattle.std.proofs.Common.{List, [], ◌∷◌, ◌++◌, append_assoc, length, get_or, take, drop}
use Rattle.std.proofs.Common.{Bor, Option, None, Some, suc, zero, max}
use Rattle.std.proofs.lemmas.Bool.{eqb-true, eqb-false, ne_eqb}
use Rattle.std.proofs.lemmas.List.{get_or-take, take_more, take_at, take_all, drop_at, length-append}
use Rattle.std.proofs.Math.Seq.{length-take-le, drop-cons, take-length}
use Rattle.std.proofs.Math.ListN.{drop_of_length-le}
use Rattle.std.specs.Option.{MatchOption, unwrap_or}
use Rattle.std.specs.Cmp.Lexicographic.{same_text}
use lib.Pointwise.{pointwise}
use native.Mathlib.Decide.{dec_lt}
use Rattle.answers.specs.Input.{onto, lines}
use Rattle.answers.specs.Typed.{NoLf}

-- A line without an LF before a text that begins another line.
pub one_line : (line : List ℕ) → NoLf line → (rest : List ℕ) → lines (line ++ (10 ∷ rest)) ≡ line ∷ lines rest
unfolding lines
one_line [] h rest = refl
one_line (b ∷ t) h rest = rw (ne_eqb b 10 h.0) (ap (onto b) (one_line t h.1 rest))

-- The last one, which is not empty, lacks its LF.
pub last_line : (line : List ℕ) → 0 < length line → NoLf line → lines line ≡ line ∷ []
unfolding lines
last_line (b ∷ []) k h = rw (ne_eqb b 10 h.0)
last_line (b ∷ (d ∷ t)) k h = rw (ne_eqb b 10 h.0) (ap (onto b) (last_line (d ∷ t) (omega arith) h.1))
last_line [] k h = absurd (omega arith)

pub no-lines : (s : List ℕ) → length s ≡ 0 → lines s ≡ []
unfolding lines
no-lines [] h = refl
no-lines (b ∷ t) h = absurd (omega arith)

no-lf : (line : List ℕ) → ((k : ℕ) → k < length line → eqb (get_or line k 0) 10 ≡ false) → NoLf line
no-lf [] h = tt
no-lf (b ∷ t) h = (eqb-false b 10 (h 0 (omega arith)), no-lf t (λ k l. h (suc k) (omega arith)))

no-lf-at : (line : List ℕ) (k : ℕ) → NoLf line → k < length line → get_or line k 0 ≡ 10 → ⊥
no-lf-at [] k n h = absurd (omega arith)
no-lf-at (b ∷ t) zero n h = n.0
no-lf-at (b ∷ t) (suc k) n h = no-lf-at t k n.1 (omega arith)

-- ---- a text cut after its first LF, or at its end

-- A part of a text as a line: without the LF at its end.
abbrev pub Stripped : List ℕ → Option (Bor (List ℕ)) → Type 0
Stripped part r =
    let ends = pointwise eqb (drop (length part - 1) part) (10 ∷ []) in
    MatchOption r (ends ≡ false)
    (λ x. (ends ≡ true) × (x.now ≡ take (length part - 1) part) × (length x.now + 1 ≡ length part))

-- What is left of the part, in the words of the code.
module _ (part : Bor (List ℕ)) (r : Option (Bor (List ℕ))) (stripped : Stripped part.now r) where
  strip-lf : (line : List ℕ) → part.now ≡ line ++ (10 ∷ []) → (unwrap_or r part).now ≡ line
  strip-lf line e =
      let n : length part.now - 1 ≡ length line = omega (arith, ap length e, length-append line (10 ∷ [])) in
      let t : take (length part.now - 1) part.now ≡ line = rw (n, e) (take_at line (10 ∷ []) (length line) refl) in
      let d : drop (length part.now - 1) part.now ≡ 10 ∷ [] = rw (n, e) (drop_at line (10 ∷ []) (length line) refl) in
      go r (rw (d, t) at stripped)
    where
      go : (o : Option (Bor (List ℕ)))
          → MatchOption o (true ≡ false) (λ x. (true ≡ true) × (x.now ≡ line) × (length x.now + 1 ≡ length part.now))
          → (unwrap_or o part).now ≡ line
      go None h = absurd (cc h)
      go (Some x) h = h.1

  strip-none : NoLf part.now → (unwrap_or r part).now ≡ part.now
  strip-none n = go r stripped
    where
      go : (o : Option (Bor (List ℕ))) → Stripped part.now o → (unwrap_or o part).now ≡ part.now
      go None h = refl
      go (Some x) h =
          let k : ℕ = length part.now - 1 in
          let e = same_text (drop k part.now) (10 ∷ []) (sym h.0) in
          let l : k < length part.now = omega arith in
          let q = drop-cons part.now k 0 l in
          absurd (no-lf-at part.now k n l (cc (e, q)))

-- The first part of a text is its first line, and the rest has the other lines.
module _ (s : List ℕ) (part : Bor (List ℕ)) (rest : List ℕ) (i : ℕ) (whole : s ≡ part.now ++ rest)
    (long : length part.now ≡ min (i + 1) (length s))
    (before : (k d : ℕ) → 0 ≤ k → k < i → eqb (get_or s k d) 10 ≡ false)
    (after : i < length s → (d : ℕ) → eqb (get_or s i d) 10 ≡ true)
    (some : 0 < length s) (r : Option (Bor (List ℕ))) (stripped : Stripped part.now r) where
  part_is : part.now ≡ take (length part.now) s
  part_is = sym (rw whole (take_at part.now rest (length part.now) refl))

  rest_is : rest ≡ drop (length part.now) s
  rest_is = sym (rw whole (drop_at part.now rest (length part.now) refl))

  none-before : (n : ℕ) → n ≤ i → n ≤ length s → NoLf (take n s)
  none-before n a b =
      no-lf (take n s) (λ k h.
      let l : k < n = omega (arith, h, length-take-le n s b) in
      rw (get_or-take n s k 0 l) (before k 0 (omega arith) (omega arith)))

  pub cut : lines s ≡ (unwrap_or r part).now ∷ lines rest
  unfolding lines
  cut = go (dec_lt i (length s))
    where
      go : Dec (i < length s) → lines s ≡ (unwrap_or r part).now ∷ lines rest
      go (yes h) =
          let n : length part.now ≡ i + 1 = omega arith in
          let e : part.now ≡ take i s ++ (10 ∷ []) =
          part_is ∙ ap (λ (j : ℕ). take j s) n ∙ take_more s i 0 h
          ∙ ap (λ (b : ℕ). take i s ++ (b ∷ [])) (eqb-true (get_or s i 0) 10 (after h 0)) in
          ap lines (whole ∙ ap (λ (x : List ℕ). x ++ rest) e ∙ append_assoc (take i s) (10 ∷ []) rest)
          ∙ one_line (take i s) (none-before i (omega arith) (omega arith)) rest
          ∙ ap (λ (x : List ℕ). x ∷ lines rest) (sym (strip-lf part r stripped (take i s) e))
      go (no h) =
          let e : part.now ≡ s = part_is ∙ take_all (length part.now) s (omega arith) in
          let z : rest ≡ [] = rest_is ∙ drop_of_length-le s (omega arith) in
          let n : NoLf s = rw (take-length s) at (none-before (length s) (omega arith) (omega arith)) in
          let w : (unwrap_or r part).now ≡ s = strip-none part r stripped (rw e n) ∙ e in
          rw (z, w) (last_line s some n)

-- ---- how long the lines are: each counts for a byte or more, its LF or a byte that it has

abbrev pub lines_size : List (List ℕ) → ℕ
lines_size [] = 0
lines_size (line ∷ ls) = max 1 (length line) + lines_size ls

onto-size : (b : ℕ) (ls : List (List ℕ)) → lines_size (onto b ls) ≤ 1 + lines_size ls
onto-size b [] = omega arith
onto-size b (line ∷ ls) = omega arith

pub lines-fit : (s : List ℕ) → lines_size (lines s) ≤ length s
unfolding lines
lines-fit [] = omega arith
lines-fit (b ∷ t) = go (lines-fit t) (eqb b 10)
  where
    go : lines_size (lines t) ≤ length t → (q : Bool)
        → lines_size (cond q ([] ∷ lines t) (onto b (lines t))) ≤ suc (length t)
    go ih true = omega arith
    go ih false = omega (arith, onto-size b (lines t))
