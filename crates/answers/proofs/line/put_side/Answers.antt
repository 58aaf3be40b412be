-- `answers::line::put_side` meets its contract: the puts in their order. Assumes nothing.
use Rattle.text.proofs.Puts.{put_first, put_all, put_last}
use Rattle.answers.proofs.Puts.{stopped}
use Rattle.answers.proofs.line.put_side.Goals as goal

pub returns-in_err-grams : goal.returns-in_err-grams
returns-in_err-grams c = put_all _ _ _ c.in_err-grams.ensures (stopped _ c.from_residual.ensures)

pub returns-in_err-sources : goal.returns-in_err-sources
returns-in_err-sources c =
    put_all _ _ _ c.in_ok-grams.ensures
    (put_all _ _ _ c.in_err-sources.ensures
    (stopped _ c.from_residual-in_err-sources.ensures))

pub returns-in_err-end : goal.returns-in_err-end
returns-in_err-end c =
    put_all _ _ _ c.in_ok-grams.ensures
    (put_all _ _ _ c.in_ok-sources.ensures
    (put_all _ _ _ c.in_err-end.ensures
    (stopped _ c.from_residual-in_err-end.ensures)))

pub returns : goal.returns
returns c =
    put_all _ _ _ c.in_ok-grams.ensures
    (put_all _ _ _ c.in_ok-sources.ensures
    (put_all _ _ _ c.in_ok-end.ensures
    (put_first _ _ _ _ (c.put_word.ensures.value, c.put_word.ensures.buffer_after)
    (put_last _))))
