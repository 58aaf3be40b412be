-- Laws of a run of texts that are put into a buffer one after the other. Assumes nothing.
use Rattle.std.specs.Prelude.{Option, None, Some}
use mathlib.Core.Path.{◌≡◌, refl, sym, ap, ◌∙◌}
use mathlib.Core.List.{List, [], ◌∷◌, ◌++◌}
use Prim.Native.Nat.{ℕ, ◌+◌, ◌≤◌}
use native.Mathlib.Omega.{arith}
use lib.ListN.{length, length-append, take-append-drop}
use Rattle.text.specs.Buffer.{put_at, after_put}
use Rattle.text.specs.Parts.{Placed, placed, put_next, put, put_parts, joined_text}
use Rattle.text.proofs.Buffer.{put-fits, after-fits, put-length, put-run}

-- What a put ensures of the place and the buffer is one step.
pub put_step : (d : List ℕ) (at : ℕ) (w : List ℕ) {d' : List ℕ} {r : Option ℕ} → (r ≡ after_put d at w) × (d' ≡ put_at d at w)
    → placed d' r ≡ put (placed d (Some at)) w
put_step d at w e = λ x. record { buffer = e.1 x; next = e.0 x }

-- And a step before others.
pub put_first : (d : List ℕ) (at : ℕ) (w : List ℕ) (ws : List (List ℕ)) {d' : List ℕ} {r : Option ℕ} {p : Placed}
    → (r ≡ after_put d at w) × (d' ≡ put_at d at w) → p ≡ put_parts (placed d' r) ws → p ≡ put_parts (placed d (Some at)) (w ∷ ws)
unfolding put_parts
put_first d at w ws e f = f ∙ ap (λ (q : Placed). put_parts q ws) (put_step d at w e)

pub put_last : (p : Placed) → p ≡ put_parts p []
unfolding put_parts
put_last p = refl

-- After a text that did not fit none is put.
pub put_none : (d : List ℕ) (ws : List (List ℕ)) → placed d None ≡ put_parts (placed d None) ws
unfolding put_parts
put_none d [] = refl
put_none d (w ∷ ws) = put_none d ws

pub put-append : (p : Placed) (a b : List (List ℕ)) → put_parts p (a ++ b) ≡ put_parts (put_parts p a) b
unfolding put_parts
put-append p [] b = refl
put-append p (w ∷ a) b = put-append (put p w) a b

-- A run before others.
pub put_all : (p : Placed) (a b : List (List ℕ)) {q r : Placed} → q ≡ put_parts p a → r ≡ put_parts q b → r ≡ put_parts p (a ++ b)
put_all p a b e f = f ∙ ap (λ (s : Placed). put_parts s b) e ∙ sym (put-append p a b)

step-length : (d : List ℕ) (next : Option ℕ) (w : List ℕ) → length (put_next d next w).buffer ≡ length d
step-length d None w = refl
step-length d (Some at) w = put-length d at w

pub parts-length : (p : Placed) (ws : List (List ℕ)) → length (put_parts p ws).buffer ≡ length p.buffer
unfolding put_parts
parts-length p [] = refl
parts-length p (w ∷ ws) = parts-length (put p w) ws ∙ step-length p.buffer p.next w

-- ---- how long the parts are as one text

pub joined-more : (w : List ℕ) (ws : List (List ℕ)) → length (joined_text (w ∷ ws)) ≡ length w + length (joined_text ws)
unfolding joined_text
joined-more w ws = length-append w (joined_text ws)

pub joined-none : length (joined_text []) ≡ 0
unfolding joined_text
joined-none = refl

-- ---- texts that fit

module _ (d : List ℕ) (at : ℕ) where
  pub put-nothing : at ≤ length d → put (placed d (Some at)) [] ≡ placed d (Some at)
  put-nothing h =
      let z : at + 0 ≡ at = omega arith in
      sym
      (put_step d at []
      (sym (after-fits d at [] (omega arith) ∙ ap Some z), sym (put-fits d at [] (omega arith) ∙ rw z (take-append-drop at d))))

  -- Two texts that fit are one.
  pub put_two : (a b : List ℕ) → at + length (a ++ b) ≤ length d
      → put (put (placed d (Some at)) a) b ≡ put (placed d (Some at)) (a ++ b)
  put_two a b h =
      let l = length-append a b in
      let e = put-run d at a b h in
      rw (after-fits d at a (omega arith)) (put_step d at (a ++ b) e)

-- Parts that fit are one text.
pub parts-text : (d : List ℕ) (at : ℕ) (ws : List (List ℕ)) → at + length (joined_text ws) ≤ length d
    → put_parts (placed d (Some at)) ws ≡ put (placed d (Some at)) (joined_text ws)
unfolding put_parts joined_text
parts-text d at [] h = sym (put-nothing d at (omega arith))
parts-text d at (w ∷ ws) h =
    let l = length-append w (joined_text ws) in
    let k = put-length d at w in
    let e = put_two d at w (joined_text ws) h in
    rw (after-fits d at w (omega arith)) (parts-text (put_at d at w) (at + length w) ws (omega arith))
    ∙ rw (after-fits d at w (omega arith)) at e

-- The place after parts that fit, and the buffer's length.
pub parts-fit : (d : List ℕ) (at : ℕ) (ws : List (List ℕ)) {d' : List ℕ} {next : Option ℕ} → at + length (joined_text ws) ≤ length d
    → placed d' next ≡ put_parts (placed d (Some at)) ws → (next ≡ Some (at + length (joined_text ws))) × (length d' ≡ length d)
parts-fit d at ws {d'} {next} h e =
    let p : placed d' next ≡ put (placed d (Some at)) (joined_text ws) = e ∙ parts-text d at ws h in (
      ap (λ (q : Placed). q.next) p ∙ after-fits d at (joined_text ws) h,
      ap (λ (q : Placed). length q.buffer) p ∙ put-length d at (joined_text ws),
    )

-- After parts of a text are put, the rest gives what the whole gives, and fits.
pub put-part : (d : List ℕ) (at : ℕ) (ws : List (List ℕ)) (rest : List ℕ) {d' : List ℕ} {next : ℕ}
    → at + length (joined_text ws ++ rest) ≤ length d → placed d' (Some next) ≡ put_parts (placed d (Some at)) ws
    → (put (placed d' (Some next)) rest ≡ put (placed d (Some at)) (joined_text ws ++ rest)) × (next + length rest ≤ length d')
put-part d at ws rest {d'} {next} h e =
    let l = length-append (joined_text ws) rest in
    let p : placed d' (Some next) ≡ put (placed d (Some at)) (joined_text ws) = e ∙ parts-text d at ws (omega arith) in
    let both = parts-fit d at ws (omega arith) e in
    let n : next ≡ at + length (joined_text ws) = let s = both.0 in cc in
    (ap (λ (q : Placed). put q rest) p ∙ put_two d at (joined_text ws) rest h, omega (arith, both.1))
