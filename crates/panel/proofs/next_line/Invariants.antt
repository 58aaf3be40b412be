-- `panel::next_line` keeps a line without its LF: of the bytes kept so far none is an LF.
use Rattle.std.proofs.Common.{◌≤◌, length, take}
use Rattle.answers.specs.Typed.{NoLf}
use Rattle.panel.proofs.next_line.Given as goal

abbrev pub invariant-loop : goal.invariant-loop
invariant-loop g l = (l.count ≤ length l.buffer) × NoLf (take l.count l.buffer)
