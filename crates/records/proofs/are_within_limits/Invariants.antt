use mathlib.Core.Path.{◌≡◌}
use lib.ListN.{drop}
use Rattle.records.specs.Judging.{all_within_limits}
use Rattle.records.proofs.are_within_limits.Given as goal

abbrev pub invariant-loop-line : goal.invariant-loop-line
invariant-loop-line l = all_within_limits (drop l.line-index l.lines) ≡ all_within_limits l.lines
