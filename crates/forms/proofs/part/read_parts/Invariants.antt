use mathlib.Core.Path.{◌≡◌}
use Prim.Native.Nat.{◌-◌}
use Rattle.forms.specs.Steps.{parts_within, parts_in, placed_from}
use Rattle.forms.proofs.Lists.{Amounts}
use Rattle.forms.proofs.part.read_parts.Given as goal

abbrev pub invariant-loop : goal.invariant-loop
invariant-loop g l =
    let whole = parts_in g.T.Part.part_in l.fn.text in
    (l.count ≡ l.index)
    × Amounts whole (placed_from 0 l.fn.places whole.value) l.count l.places (parts_within g.T.Part.part_in (l.index-end - l.index) l.rest)
