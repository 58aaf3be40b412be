use Rattle.report.proofs.Summing.{LinesBefore}
use Rattle.report.proofs.lines_summed.Given as goal

abbrev pub invariant-loop-line : goal.invariant-loop-line
invariant-loop-line l = LinesBefore l.lines l.line-index l.sums
