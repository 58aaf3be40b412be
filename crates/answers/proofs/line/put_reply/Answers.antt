-- `answers::line::put_reply` meets its contract: each case in turn. Assumes nothing.
use Rattle.text.proofs.Puts.{put_first, put_last}
use Rattle.answers.specs.Answers.{reply_parts}
use Rattle.answers.proofs.line.put_reply.Goals as goal

pub returns-in-Ok-Done : goal.returns-in-Ok-Done
unfolding reply_parts
returns-in-Ok-Done c =
    rw (c.in-Ok-Done.is, rw c.in-Ok-Done.is at c.in-Ok-Done.field-0-is)
    (put_first _ _ _ _ (c.put_word.ensures.value, c.put_word.ensures.buffer_after) (put_last _))

pub returns-in-Ok-Report : goal.returns-in-Ok-Report
unfolding reply_parts
returns-in-Ok-Report c = rw (c.in-Ok-Report.is, rw c.in-Ok-Report.is at c.in-Ok-Report.field-0-is) c.put_report.ensures

pub returns-in-Err-Damaged : goal.returns-in-Err-Damaged
unfolding reply_parts
returns-in-Err-Damaged c =
    rw (c.in-Err-Damaged.is, rw c.in-Err-Damaged.is at c.in-Err-Damaged.field-0-is)
    (put_first _ _ _ _ (c.put_word-in-Err-Damaged.ensures.value, c.put_word-in-Err-Damaged.ensures.buffer_after)
    (put_last _))
