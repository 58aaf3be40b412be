-- `answers::line::put_number` meets its contract: the puts in their order. Assumes nothing.
use Rattle.text.proofs.Puts.{put_first, put_last}
use Rattle.answers.proofs.Puts.{stopped}
use Rattle.answers.proofs.line.put_number.Goals as goal

pub returns-in_err-end : goal.returns-in_err-end
returns-in_err-end c = put_first _ _ _ _ (c.in_err-end.ensures.value, c.in_err-end.ensures.buffer_after)
    (stopped _ c.from_residual.ensures)

pub returns : goal.returns
returns c =
    put_first _ _ _ _ (c.in_ok-end.ensures.value, c.in_ok-end.ensures.buffer_after)
    (put_first _ _ _ _ (c.put_decimal.ensures.value, c.put_decimal.ensures.buffer_after)
    (put_last _))
