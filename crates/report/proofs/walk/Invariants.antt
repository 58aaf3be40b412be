use Rattle.records.specs.Records.{source_place}
use Rattle.report.specs.Steps.{table_figure}
use Rattle.report.proofs.Walks.{WalkedBefore}
use Rattle.report.proofs.walk.Given as goal

abbrev pub invariant-loop-number : goal.invariant-loop-number
invariant-loop-number l = WalkedBefore (table_figure l.grid l.factors l.totals) (source_place l.sources) l.number l.sums
