-- `panel::answer_lines` meets its contract, and each turn meets what is asked of it: the line leaves the ledger, and
-- has the reply, that the rules give it, and the reply's text is printed. Assumes nothing.
use Rattle.std.proofs.Common.{◌∙◌, ◌≤◌, refl, arith, length, take}
use Rattle.forms.specs.Calls.{line_call}
use Rattle.answers.specs.Answers.{reply_text, reply_meaning}
use Rattle.answers.proofs.Typed.{answer-length}
use Rattle.panel.proofs.Turns.{left-new, left-next, Fits, answer-put, shown}
use Rattle.panel.proofs.answer_lines.Goals as goal
use Rattle.panel.proofs.answer_lines.Given as given
use Rattle.panel.proofs.answer_lines.Goals.{After-put_reply}

pub loop-init : goal.loop-init
loop-init g c = (refl, left-new c.new-ledger.ensures)

-- The answer stands at the start of the buffer, where it fits.
fits : (g : given.Over) (c : After-put_reply g)
    → Fits (reply_meaning c.answer_line-reply.result) c.put_reply.new.output c.put_reply.result
fits g c =
    let r = reply_meaning c.answer_line-reply.result in
    let call = line_call (take c.in-Some.count c.next_line.new.buffer) in
    let short : length (reply_text r) ≤ 140 =
    rw c.answer_line-reply.ensures.answer (answer-length c.loop.ledger call) in
    let room : length (reply_text r) ≤ length c.next_line.new.buffer =
    omega (arith, short, c.next_line.auto.buffer, c.loop.invariant.0, c.requires) in
    answer-put c.next_line.new.buffer r c.put_reply.new.output c.put_reply.result room c.put_reply.ensures

pub unwrap-end-requires : goal.unwrap-end-requires
unwrap-end-requires g c = rw (fits g (goal.at.unwrap-end-requires g c).After-put_reply).place refl

pub slice_bounds-print-end : goal.slice_bounds-print-end
slice_bounds-print-end g c =
    (shown (fits g (goal.at.slice_bounds-print-end g c).After-put_reply) c.unwrap-end.ensures).0

pub slice_bounds-print-end-in-loop : goal.slice_bounds-print-end-in-loop
slice_bounds-print-end-in-loop g c =
    (shown (fits g (goal.at.slice_bounds-print-end-in-loop g c).After-put_reply) c.unwrap-end.ensures).1

pub print-requires : goal.print-requires
print-requires g c = (shown (fits g (goal.at.print-requires g c).After-put_reply) c.unwrap-end.ensures).2

pub loop-preserved : goal.loop-preserved
loop-preserved g c = (
  c.put_reply.auto.output ∙ c.next_line.auto.buffer ∙ c.loop.invariant.0,
  left-next c.loop.invariant.1 _ c.in-Some.ensures.1 c.answer_line-reply.ensures.ledger,
)
