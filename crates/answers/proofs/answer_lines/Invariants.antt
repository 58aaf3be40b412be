use Rattle.std.specs.Prelude.{Some}
use mathlib.Core.Path.{◌≡◌}
use Prim.Native.Nat.{◌+◌, ◌≤◌}
use lib.ListN.{length}
use Rattle.text.specs.Parts.{placed, put}
use Rattle.answers.specs.Input.{lines, output}
use Rattle.answers.proofs.Replies.{lines_text}
use Rattle.answers.proofs.answer_lines.Given as goal

abbrev pub invariant-loop-line : goal.invariant-loop-line
invariant-loop-line l =
    let left = lines_text l.ledger (lines l.line-iterator.rest.now) in
    (put (placed l.buffer (Some l.at)) left ≡ put (placed l.initial.buffer (Some 0)) (output l.input))
    × (l.at + length left ≤ length l.buffer)
