use Rattle.records.specs.Records.{source_place}
use Rattle.report.proofs.Summing.{TotalsBefore}
use Rattle.report.proofs.totals_of.Given as goal

abbrev pub invariant-loop-held : goal.invariant-loop-held
invariant-loop-held l = TotalsBefore (source_place l.sources) l.held-index l.totals
