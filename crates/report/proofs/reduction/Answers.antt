-- `report::reduction` meets its contract: 64 bits hold the three numbers and each difference. Assumes nothing.
use Rattle.report.specs.Report.{reduction}
use Rattle.report.proofs.Signed.{number_read, difference-fits, difference-read, reduction-fits, reduction-read}
use Rattle.report.proofs.reduction.Goals as goal

pub overflow_sub-result : goal.overflow_sub-result
overflow_sub-result c =
    rw (number_read c.requires.0, number_read c.requires.1) (difference-fits c.requires.0 c.requires.1)

pub overflow_sub-result-2 : goal.overflow_sub-result-2
unfolding reduction
overflow_sub-result-2 c =
    let (b, p, l) = c.requires in
    rw (number_read b, number_read p, number_read l, difference-read b p) (reduction-fits b p l)

pub returns : goal.returns
unfolding reduction
returns c =
    let (b, p, l) = c.requires in
    rw (number_read b, number_read p, number_read l, difference-read b p) (reduction-read b p l)
