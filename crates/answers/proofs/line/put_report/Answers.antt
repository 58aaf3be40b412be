-- `answers::line::put_report` meets its contract: the sides and then the reduction, in their order. Assumes nothing.
use Rattle.std.proofs.Common.{◌≡◌, rules, w64}
use mir.Val.{SFits, of_z, to_z}
use mir.ValLaws.{to_z-of_z}
use Rattle.text.proofs.Puts.{put_first, put_all, put_last}
use Rattle.answers.specs.Answers.{report_parts}
use Rattle.answers.proofs.Puts.{stopped}
use Rattle.answers.proofs.line.put_report.Goals as goal
use Rattle.answers.proofs.line.put_report.Goals.{After-put_signed_decimal}

pub returns-in_err-leakage : goal.returns-in_err-leakage
unfolding report_parts
returns-in_err-leakage c = put_all _ _ _ c.in_err-leakage.ensures (stopped _ c.from_residual.ensures)

pub returns-in_err-baseline : goal.returns-in_err-baseline
unfolding report_parts
returns-in_err-baseline c =
    put_all _ _ _ c.in_ok-leakage.ensures
    (put_all _ _ _ c.in_err-baseline.ensures
    (stopped _ c.from_residual-in_err-baseline.ensures))

pub returns-in_err-reduction : goal.returns-in_err-reduction
unfolding report_parts
returns-in_err-reduction c =
    put_all _ _ _ c.in_ok-leakage.ensures
    (put_all _ _ _ c.in_ok-baseline.ensures
    (put_all _ _ _ c.in_err-reduction.ensures
    (stopped _ c.from_residual-in_err-reduction.ensures)))

pub returns-in_err-number : goal.returns-in_err-number
unfolding report_parts
returns-in_err-number c =
    put_all _ _ _ c.in_ok-leakage.ensures
    (put_all _ _ _ c.in_ok-baseline.ensures
    (put_all _ _ _ c.in_ok-reduction.ensures
    (put_first _ _ _ _ (c.in_err-number.ensures.value, c.in_err-number.ensures.buffer_after)
    (stopped _ c.from_residual-in_err-number.ensures))))

-- The reduction is handed on as its 64 bits.
same : (c : After-put_signed_decimal) → to_z w64 (of_z w64 c.args.report.now.reduction) ≡ c.args.report.now.reduction
same c =
    let fits : SFits w64 c.args.report.now.reduction = search rules in
    to_z-of_z w64 c.args.report.now.reduction fits

pub returns-in_err-end : goal.returns-in_err-end
unfolding report_parts
returns-in_err-end c =
    let e = same (goal.at.returns-in_err-end c).After-put_signed_decimal in
    put_all _ _ _ c.in_ok-leakage.ensures
    (put_all _ _ _ c.in_ok-baseline.ensures
    (put_all _ _ _ c.in_ok-reduction.ensures
    (put_first _ _ _ _ (c.in_ok-number.ensures.value, c.in_ok-number.ensures.buffer_after)
    (put_first _ _ _ _ (rw e at c.in_err-end.ensures.value, rw e at c.in_err-end.ensures.buffer_after)
    (stopped _ c.from_residual-in_err-end.ensures)))))

pub returns : goal.returns
unfolding report_parts
returns c =
    let e = same (goal.at.returns c).After-put_signed_decimal in
    put_all _ _ _ c.in_ok-leakage.ensures
    (put_all _ _ _ c.in_ok-baseline.ensures
    (put_all _ _ _ c.in_ok-reduction.ensures
    (put_first _ _ _ _ (c.in_ok-number.ensures.value, c.in_ok-number.ensures.buffer_after)
    (put_first _ _ _ _ (rw e at c.in_ok-end.ensures.value, rw e at c.in_ok-end.ensures.buffer_after)
    (put_first _ _ _ _ (c.put_word-2.ensures.value, c.put_word-2.ensures.buffer_after)
    (put_last _))))))
