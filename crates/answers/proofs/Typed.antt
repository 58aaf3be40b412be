-- Lines answered one after the other print what the program tally prints for the text of these lines. Assumes nothing.
use Rattle.std.specs.Prelude.{Option, None, Some, option_map}
use Prim.Native.Nat.{ℕ, ◌≤◌, ◌<◌}
use mathlib.Core.Path.{◌≡◌, refl, sym, ap, ◌∙◌}
use mathlib.Core.List.{List, [], ◌∷◌, ◌++◌, map, append_assoc, append-nil}
use native.Mathlib.Decide.{dec_lt}
use native.Mathlib.Omega.{arith}
use lib.ListN.{length, take}
use lib.Seq.{take_all, length-take-le}
use Rattle.rounding.specs.Calls.{after_calls, answers}
use Rattle.ledger.specs.Standing.{Call}
use Rattle.ledger.specs.Operations.{new_ledger, reply}
use Rattle.ledger.specs.declared.Ledger.{Ledger}
use Rattle.ledger.proofs.Bounds.{reply-within}
use Rattle.report.specs.Report.{refused_with}
use Rattle.forms.specs.Form.{line_limit}
use Rattle.forms.specs.Reading.{line_form}
use Rattle.forms.specs.Calls.{call_of, line_call}
use Rattle.forms.proofs.Lines.{long-line}
use Rattle.answers.specs.Answers.{reply_text}
use Rattle.answers.specs.Input.{lines, line_step, line_reply, lines_replies, replies_text, input_limit, output}
use Rattle.answers.specs.Typed.{NoLf, Lines, typed_text, typed_ledger, typed_answer}
use Rattle.answers.proofs.Lines.{one_line, last_line}
use Rattle.answers.proofs.Replies.{lines_text, output-line-by-line}
use Rattle.answers.proofs.Lengths.{reply-length, longest-any}

-- ---- the lines of a text of lines

typed-lines : (ls : List (List ℕ)) → Lines ls → (rest : List ℕ) → lines (typed_text ls ++ rest) ≡ ls ++ lines rest
unfolding typed_text
typed-lines [] h rest = refl
typed-lines (line ∷ ls) h rest =
    ap lines (append_assoc line (10 ∷ typed_text ls) rest)
    ∙ one_line line h.0 (typed_text ls ++ rest)
    ∙ ap (λ (x : List (List ℕ)). line ∷ x) (typed-lines ls h.1 rest)

-- ---- what is printed

-- The program tally prints for the text of the lines what their answers are, one after the other ..
pub typed-output : (ls : List (List ℕ)) → Lines ls → length (typed_text ls) ≤ input_limit
    → output (typed_text ls) ≡ replies_text (lines_replies ls)
unfolding lines lines_text
typed-output ls h k =
    output-line-by-line (typed_text ls) k
    ∙ ap (lines_text new_ledger) (ap lines (sym (append-nil (typed_text ls))) ∙ typed-lines ls h [] ∙ append-nil ls)

-- .. also where the last one, which then is not empty, lacks its LF.
pub typed-output-open : (ls : List (List ℕ)) (b : ℕ) (line : List ℕ) → Lines ls → NoLf (b ∷ line)
    → length (typed_text ls ++ (b ∷ line)) ≤ input_limit
    → output (typed_text ls ++ (b ∷ line)) ≡ replies_text (lines_replies (ls ++ ((b ∷ line) ∷ [])))
unfolding lines_text
typed-output-open ls b line h n k =
    output-line-by-line (typed_text ls ++ (b ∷ line)) k
    ∙ ap (lines_text new_ledger)
    (typed-lines ls h (b ∷ line) ∙ ap (λ (x : List (List ℕ)). ls ++ x) (last_line (b ∷ line) (omega arith) n))

-- ---- one more line

text-next : (l : Ledger) (ls : List (List ℕ)) (line : List ℕ)
    → lines_text l (ls ++ (line ∷ []))
    ≡ lines_text l ls ++ reply_text (line_reply (after_calls line_step l (map line_call ls)) (line_call line))
unfolding lines_text answers after_calls replies_text
text-next l [] line = append-nil (reply_text (line_reply l (line_call line)))
text-next l (x ∷ ls) line =
    ap (λ (t : List ℕ). reply_text (line_reply l (line_call x)) ++ t) (text-next (line_step l (line_call x)) ls line)
    ∙ sym (append_assoc (reply_text (line_reply l (line_call x))) _ _)

-- Its answer is printed after theirs.
pub typed-next : (before : List (List ℕ)) (line : List ℕ)
    → replies_text (lines_replies (before ++ (line ∷ [])))
    ≡ replies_text (lines_replies before) ++ typed_answer before line
unfolding typed_ledger lines_text
typed-next before line = text-next new_ledger before line

ledger-next : (l : Ledger) (ls : List (List ℕ)) (line : List ℕ)
    → after_calls line_step l (map line_call (ls ++ (line ∷ [])))
    ≡ line_step (after_calls line_step l (map line_call ls)) (line_call line)
unfolding after_calls
ledger-next l [] line = refl
ledger-next l (x ∷ ls) line = ledger-next (line_step l (line_call x)) ls line

-- It leaves what it leaves of the ledger that they left.
pub typed-leaves : (before : List (List ℕ)) (line : List ℕ)
    → typed_ledger (before ++ (line ∷ [])) ≡ line_step (typed_ledger before) (line_call line)
unfolding typed_ledger
typed-leaves before line = ledger-next new_ledger before line

pub typed-none : typed_ledger [] ≡ new_ledger
unfolding typed_ledger after_calls
typed-none = refl

-- ---- what a box keeps of a line

-- Of a longer line more bytes than a form may have are enough.
pub line-cut : (k : ℕ) → line_limit < k → (line : List ℕ) → line_call (take k line) ≡ line_call line
unfolding line_call
line-cut k h line = go (dec_lt k (length line))
  where
    go : Dec (k < length line) → option_map call_of (line_form (take k line)) ≡ option_map call_of (line_form line)
    go (yes w) =
        let n = length-take-le k line (omega arith) in
        rw (long-line (take k line) (omega arith), long-line line (omega arith))
    go (no w) = rw (take_all k line (omega arith))

-- An answer takes at most 140 bytes.
pub answer-length : (l : Ledger) (c : Option Call) → length (reply_text (line_reply l c)) ≤ 140
answer-length l None = omega (arith, reply-length (refused_with 14) (omega arith))
answer-length l (Some c) = omega (arith, reply-length (reply l c) (reply-within l c), longest-any (reply l c))
