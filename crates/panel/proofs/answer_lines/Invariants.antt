-- `panel::answer_lines` keeps its buffer's length, and its ledger is one that lines left.
use Rattle.std.proofs.Common.{◌≡◌, length}
use Rattle.answers.specs.Typed.{LeftByLines}
use Rattle.panel.proofs.answer_lines.Given as goal

abbrev pub invariant-loop : goal.invariant-loop
invariant-loop g l = (length l.buffer ≡ length l.initial.buffer) × LeftByLines l.ledger
