use mathlib.Core.Path.{◌≡◌}
use Prim.Native.Nat.{◌+◌, ◌≤◌}
use lib.ListN.{length}
use Rattle.text.specs.Read.{map_read}
use Rattle.text.specs.Template.{numbers_in, template_in}
use Rattle.text.proofs.Pieces.{continued}
use Rattle.text.proofs.template.read_template.Given as goal

-- What is left gives what the whole gives.
abbrev pub invariant-loop-byte : goal.invariant-loop-byte
invariant-loop-byte l = record {
  few : l.places + length l.left ≤ length l.template;
  whole : map_read (continued l.places l.numbers) (numbers_in l.left l.rest) ≡ template_in l.template l.text;
}

abbrev pub decreases-loop-byte : goal.decreases-loop-byte
decreases-loop-byte l = length l.left
