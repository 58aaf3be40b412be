-- Lines typed one after the other at a box, each answered before the next is read (document 01, "The text the program
-- tally reads", line by line; "The ledger and its exact value": "Each call gets the ledger that the call before it
-- returned or left"). A line stands here without its LF (10).
use Rattle.std.specs.Prelude.{ℕ, ◌≡◌, List, [], ◌∷◌, ◌++◌, map}
use Rattle.rounding.specs.Lists.{All}
use Rattle.rounding.specs.Calls.{after_calls}
use Rattle.ledger.specs.Operations.{new_ledger}
use Rattle.ledger.specs.declared.Ledger.{Ledger}
use Rattle.forms.specs.Calls.{line_call}
use Rattle.answers.specs.Answers.{reply_text}
use Rattle.answers.specs.Input.{line_step, line_reply}

-- Bytes of which none is an LF, and lists of such lines.
abbrev pub NoLf : List ℕ → Type 0
NoLf line = All (λ (b : ℕ). b ≡ 10 → ⊥) line

abbrev pub Lines : List (List ℕ) → Type 0
Lines ls = All NoLf ls

-- The text that they make, each with its LF.
unfoldable pub typed_text : List (List ℕ) → List ℕ
typed_text [] = []
typed_text (line ∷ ls) = line ++ (10 ∷ typed_text ls)

-- The ledger that they leave, from a new one.
unfoldable pub typed_ledger : List (List ℕ) → Ledger
typed_ledger ls = after_calls line_step new_ledger (map line_call ls)

-- The text of the answer to a line, after the lines before it.
abbrev pub typed_answer : List (List ℕ) → List ℕ → List ℕ
typed_answer before line = reply_text (line_reply (typed_ledger before) (line_call line))

-- A ledger that typed lines left.
pub record LeftByLines (l : Ledger) : Type 0 where
  pub typed : List (List ℕ)
  pub lines : Lines typed
  pub ledger : l ≡ typed_ledger typed
