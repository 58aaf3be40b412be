-- `answers::line::put_refused_at` meets its contract: the puts in their order. Assumes nothing.
use Rattle.text.proofs.Puts.{put_first, put_all, put_last}
use Rattle.answers.specs.Answers.{reply_parts}
use Rattle.answers.proofs.Puts.{stopped}
use Rattle.answers.proofs.line.put_refused_at.Goals as goal

pub returns-in_err-word : goal.returns-in_err-word
unfolding reply_parts
returns-in_err-word c = put_all _ _ _ c.in_err-word.ensures (stopped _ c.from_residual.ensures)

pub returns-in_err-end : goal.returns-in_err-end
unfolding reply_parts
returns-in_err-end c =
    put_all _ _ _ c.in_ok-word.ensures
    (put_all _ _ _ c.in_err-end.ensures
    (stopped _ c.from_residual-in_err-end.ensures))

pub returns : goal.returns
unfolding reply_parts
returns c =
    put_all _ _ _ c.in_ok-word.ensures
    (put_all _ _ _ c.in_ok-end.ensures
    (put_first _ _ _ _ (c.put_word.ensures.value, c.put_word.ensures.buffer_after)
    (put_last _)))
