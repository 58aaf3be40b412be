-- `panel::print` ends: each turn writes a byte or more.
use Rattle.std.proofs.Common.{length}
use Rattle.panel.proofs.print.Given as goal

abbrev pub decreases-loop-rest : goal.decreases-loop-rest
decreases-loop-rest g l = length l.rest
