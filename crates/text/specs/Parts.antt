-- A text put into a lent buffer part by part, as an answer of several words and numbers (document 01, "Worthless
-- builds": "every byte of a buffer it writes" is stated).
use Rattle.std.specs.Prelude.{ℕ, List, [], ◌∷◌, ◌++◌, Option, None, Some}
use Rattle.text.specs.Buffer.{put_at, after_put}

-- A buffer, and the place after what was put into it, if all of that fitted.
pub record Placed : Type 0 where
  pub buffer : List ℕ
  pub next : Option ℕ

abbrev pub placed : List ℕ → Option ℕ → Placed
placed d next = record { buffer = d; next = next }

-- One text more: put at the place, which then is the place after it. After a text that did not fit none is put.
abbrev pub put_next : List ℕ → Option ℕ → List ℕ → Placed
put_next d None w = placed d None
put_next d (Some at) w = placed (put_at d at w) (after_put d at w)

abbrev pub put : Placed → List ℕ → Placed
put p w = put_next p.buffer p.next w

-- The parts one after the other; parts that all fit leave what their one text leaves (`parts-text`).
unfoldable pub put_parts : Placed → List (List ℕ) → Placed
put_parts p [] = p
put_parts p (w ∷ ws) = put_parts (put p w) ws

-- The parts as one text.
unfoldable pub joined_text : List (List ℕ) → List ℕ
joined_text [] = []
joined_text (w ∷ ws) = w ++ joined_text ws
