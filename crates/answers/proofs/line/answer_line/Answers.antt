-- `answers::line::answer_line` meets its contract: of each call that a line makes, the ledger's operation says what it
-- leaves and answers. Assumes nothing.
use Rattle.std.proofs.Common.{◌≡◌, ◌∙◌, refl, sym, ap, rules}
use Rattle.report.specs.Report.{refused_with}
use Rattle.report.specs.Answers.{answer_meaning}
use native.Mathlib.Omega.{arith}
use Rattle.ledger.specs.Standing.{enter_source}
use Rattle.ledger.specs.Operations.{step, reply}
use Rattle.forms.specs.Calls.{line_call}
use Rattle.forms.specs.declared.Call.TheVariants.{EnterGrid, EnterPlant, EnterSource, DropPlant, DropSource, Report}
use Rattle.answers.specs.Answers.{reply_meaning}
use Rattle.answers.specs.Input.{line_step, line_reply}
use Rattle.answers.proofs.Forms.{read-steps, read-replies, answered}
use Rattle.answers.proofs.line.answer_line.Goals as goal
use Rattle.answers.proofs.line.answer_line.Goals.{Joined-call}
use Rattle.answers.proofs.line.answer_line.Goals.{in-EnterGrid, in-EnterPlant, in-EnterSource, in-DropPlant, in-DropSource}

pub returns-in_err-call : goal.returns-in_err-call
returns-in_err-call c =
    let none = c.in_err-call.ensures.ok_part in
    let t : reply_meaning c.from_residual.result ≡ refused_with 14 = search rules in
    record {
      ledger = sym (rw none at (read-steps c.args.ledger.now c.args.line.now _ c.read_line.ensures));
      answer = t ∙ sym (rw none at (read-replies c.args.ledger.now c.args.line.now _ c.read_line.ensures));
    }

-- Where the operations meet again, the ledger and the answer are those of the line.
met : (c : Joined-call)
    → (c.match-call.ledger ≡ line_step c.args.ledger.now (line_call c.args.line.now))
    × (answer_meaning c.match-call.done ≡ line_reply c.args.ledger.now (line_call c.args.line.now))
met c =
    let l = c.args.ledger.now in
    let line = c.args.line.now in
    let some = c.in_ok-call.ensures.ok_part in
    elim c.match-call.branch [
      | in-EnterGrid w ↦
          answered l line _ c.read_line.ensures _ (EnterGrid w.in-EnterGrid.entry) some w.in-EnterGrid.is
          (w.ledger-is ∙ w.enter_grid-done.ensures.ledger)
          (ap answer_meaning w.done-is ∙ w.enter_grid-done.ensures.answer)
      | in-EnterPlant w ↦
          answered l line _ c.read_line.ensures _
          (EnterPlant w.in-EnterPlant.number w.in-EnterPlant.plant) some w.in-EnterPlant.is
          (w.ledger-is ∙ w.enter_plant-done.ensures.ledger)
          (ap answer_meaning w.done-is ∙ w.enter_plant-done.ensures.answer)
      | in-EnterSource w ↦
          answered l line _ c.read_line.ensures _
          (EnterSource w.in-EnterSource.number w.in-EnterSource.entry) some w.in-EnterSource.is
          (w.ledger-is ∙ w.enter_source-done.ensures.ledger
          ∙ ap (λ n. step l (enter_source n w.in-EnterSource.entry)) (omega arith))
          (ap answer_meaning w.done-is ∙ w.enter_source-done.ensures.answer
          ∙ ap (λ n. reply l (enter_source n w.in-EnterSource.entry)) (omega arith))
      | in-DropPlant w ↦
          answered l line _ c.read_line.ensures _ (DropPlant w.in-DropPlant.number) some w.in-DropPlant.is
          (w.ledger-is ∙ w.drop_plant-done.ensures.ledger)
          (ap answer_meaning w.done-is ∙ w.drop_plant-done.ensures.answer)
      | in-DropSource w ↦
          answered l line _ c.read_line.ensures _ (DropSource w.in-DropSource.number) some w.in-DropSource.is
          (w.ledger-is ∙ w.drop_source-done.ensures.ledger)
          (ap answer_meaning w.done-is ∙ w.drop_source-done.ensures.answer)
    ]

pub returns : goal.returns
returns c =
    let p = met (goal.at.returns c).Joined-call in
    record { ledger = p.0; answer = c.entry_reply.ensures ∙ p.1 }

-- A report changes nothing.
pub returns-in-Report : goal.returns-in-Report
unfolding step reply
returns-in-Report c =
    let p =
    answered c.args.ledger.now c.args.line.now _ c.read_line.ensures _ Report c.in_ok-call.ensures.ok_part
    c.in-Report.is refl c.report_on.ensures
    in
    record { ledger = p.0; answer = p.1 }
