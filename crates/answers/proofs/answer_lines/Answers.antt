-- `answers::answer_lines` meets its contract: what is left to put gives what the whole output gives. Assumes nothing.
use Rattle.std.proofs.Common.{ℕ, ◌+◌, ◌*◌, ◌≤◌, ◌≡◌, ◌∙◌, refl, sym, ap, List, [], ◌∷◌, ◌++◌, length}
use Rattle.std.proofs.Common.{Bor, Some, eqb, arith, rules}
use Rattle.std.proofs.lemmas.Bool.{le-leb}
use Rattle.std.proofs.lemmas.Fn.{always_returns_same}
use Rattle.std.proofs.lemmas.List.{length-append}
use Rattle.text.specs.Parts.{Placed, placed, put, joined_text}
use Rattle.text.proofs.Buffer.{after-fits}
use Rattle.text.proofs.Puts.{put-nothing, put-part, parts-fit}
use Rattle.answers.specs.Answers.{reply_meaning, reply_parts}
use Rattle.answers.specs.Input.{lines, output, needed}
use Rattle.answers.proofs.Lines.{cut, no-lines}
use Rattle.answers.proofs.Replies.{lines_text, text_more, text_none, output-line-by-line}
use Rattle.answers.proofs.Lengths.{output-fits}
use Rattle.answers.proofs.answer_lines.Goals as goal
use Rattle.answers.proofs.answer_lines.Goals.{After-put_reply}

within : (input d : List ℕ) → length input ≤ 65536 → 18 * length input ≤ length d → length (output input) ≤ length d
within input d h k =
    let n : needed input ≡ 18 * length input = rw (le-leb (length input) 65536 h) in
    omega (arith, output-fits input)

pub loop-line-init : goal.loop-line-init
loop-line-init c =
    let input = c.args.input.now in
    let r : c.into_iter-line-iterator.result.rest.now ≡ input =
    rw c.into_iter-line-iterator.ensures.into_iter_gives c.split_inclusive-line-items.ensures.rest in
    let t : output input ≡ lines_text c.new-ledger.result (lines c.into_iter-line-iterator.result.rest.now)
    = rw (c.new-ledger.ensures, r) (output-line-by-line input c.requires.input_len_bound) in (
      rw t refl,
      omega (arith, within input c.args.buffer.now c.requires.input_len_bound c.requires.input_in_bounds, ap length t),
    )

-- The answers to the lines that are left are the one to this line and those to the lines after it.
left : (c : After-put_reply)
    → lines_text c.loop-line.ledger (lines c.loop-line.line-iterator.rest.now)
    ≡ joined_text (reply_parts (reply_meaning c.answer_line-reply.result))
    ++ lines_text c.answer_line-reply.new.ledger (lines c.next.new.self.rest.now)
left c =
    let s = c.in-Some.ensures.steps in
    let rest = c.next.new.self.rest.now in
    let at = s.1.2 (λ (b : ℕ). eqb b 10) (always_returns_same _ _ _ (λ a r f k. (search rules, refl))) in
    let e : lines c.loop-line.line-iterator.rest.now ≡ c.unwrap_or-line.result.now ∷ lines rest
    = cut _ c.in-Some.line rest s.1.0 s.0 s.1.1 at.1.0 at.1.1 s.2 _ c.strip_suffix.ensures.cases
    ∙ ap (λ (x : Bor (List ℕ)). x.now ∷ lines rest) (sym c.unwrap_or-line.ensures) in
    ap (lines_text c.loop-line.ledger) e
    ∙ rw (c.answer_line-reply.ensures.ledger, c.answer_line-reply.ensures.answer)
    (text_more c.loop-line.ledger c.unwrap_or-line.result.now (lines rest))

fits : (c : After-put_reply)
    → let text = joined_text (reply_parts (reply_meaning c.answer_line-reply.result)) in
    let more = lines_text c.answer_line-reply.new.ledger (lines c.next.new.self.rest.now) in
    c.loop-line.at + length (text ++ more) ≤ length c.loop-line.buffer
fits c = rw (left c) at c.loop-line.invariant.1

pub unwrap-at-requires : goal.unwrap-at-requires
unwrap-at-requires c =
    let p = (goal.at.unwrap-at-requires c).After-put_reply in
    let text = joined_text (reply_parts (reply_meaning c.answer_line-reply.result)) in
    let more = lines_text c.answer_line-reply.new.ledger (lines c.next.new.self.rest.now) in
    let room : c.loop-line.at + length text ≤ length c.loop-line.buffer =
    omega (arith, fits p, length-append text more) in
    rw (parts-fit _ _ _ room c.put_reply.ensures).0 refl

pub loop-line-preserved : goal.loop-line-preserved
loop-line-preserved c =
    let p = (goal.at.loop-line-preserved c).After-put_reply in
    let done = put-part _ _ _ _ (fits p) (rw c.unwrap-at.ensures at c.put_reply.ensures) in (
      done.0 ∙ ap (put (placed c.loop-line.buffer (Some c.loop-line.at))) (sym (left p))
          ∙ c.loop-line.invariant.0,
      done.1,
    )

pub returns : goal.returns
returns c =
    let l = c.loop-line in
    let input = c.args.input.now in
    let d = c.args.buffer.now in
    let none : lines_text l.ledger (lines l.line-iterator.rest.now) ≡ [] =
    ap (lines_text l.ledger) (no-lines _ c.in-None.ensures.steps.0) ∙ text_none l.ledger in
    let room = rw none at l.invariant.1 in
    let whole = sym (put-nothing l.buffer l.at (omega arith)) ∙ ap (put (placed l.buffer (Some l.at))) (sym none)
    ∙ l.invariant.0 in
    let end = after-fits d 0 (output input)
    (omega (arith, within input d c.requires.input_len_bound c.requires.input_in_bounds)) in
    let place : l.at ≡ 0 + length (output input) = let s = ap (λ (p : Placed). p.next) whole ∙ end in cc in
    record { value = omega (arith, place); buffer_after = ap (λ (p : Placed). p.buffer) whole }
