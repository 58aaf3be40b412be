use mathlib.Core.Path.{◌≡◌}
use Prim.Native.Nat.{◌+◌}
use lib.ListN.{drop}
use Rattle.text.specs.Template.{numbers_in}
use Rattle.text.specs.Steps.{plain_bytes}
use Rattle.text.proofs.template.pass_plain.Given as goal

-- Those passed and those left are as many as there are.
abbrev pub invariant-loop-i : goal.invariant-loop-i
invariant-loop-i l = record {
  counted : l.count ≡ l.i;
  same : numbers_in (drop l.i l.template) (drop l.i l.text) ≡ numbers_in l.template l.text;
  many : l.i + plain_bytes (drop l.i l.template) (drop l.i l.text) ≡ plain_bytes l.template l.text;
}
