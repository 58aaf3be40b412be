-- `forms::part::read_parts` meets its contract: what is left gives what the whole gives. Assumes nothing.
use Rattle.std.proofs.Common.{rules}
use mathlib.Core.Path.{refl}
use native.Mathlib.Nat.{sub-zero}
use native.Mathlib.Omega.{arith}
use Rattle.std.proofs.lemmas.List.{set_past}
use Rattle.forms.specs.Steps.{parts_in, placed_from}
use Rattle.forms.proofs.Lists.{Gives, left_end, left_none, left_one}
use Rattle.forms.proofs.part.read_parts.Given.{Over}
use Rattle.forms.proofs.part.read_parts.Goals as goal
use Rattle.forms.proofs.part.read_parts.Goals.{then-count-places, else-count-places, Left-loop, else-loop-test, then-loop-test+in_default}

pub loop-init : goal.loop-init
loop-init g c = rw sub-zero (refl, record { placed = refl; all = omega arith; rest = refl })

pub overflow_add-count : goal.overflow_add-count
overflow_add-count g c = omega arith

pub loop-preserved : goal.loop-preserved
loop-preserved g c =
    let l = c.loop in (
      omega arith,
      elim c.if-count-places.branch [
        | then-count-places w ↦
            left_one g.T.Part.part_in _ _ l.count l.places _ _ _ l.rest.now _ _ w.places-is (omega arith) l.invariant.1 (search rules)
        | else-count-places w ↦
            left_one g.T.Part.part_in _ _ l.count l.places _ _ _ l.rest.now _ c.in-Some.part
            (rw (w.places-is, set_past l.places l.count c.in-Some.part w.if-count-places.false)) (omega arith) l.invariant.1 (search rules)
      ],
    )

-- What the loop leaves, where the parts end and where the text does.
gives : (g : Over) (c : Left-loop g)
    → let whole = parts_in g.T.Part.part_in c.args.text.now in
    Gives whole (placed_from 0 c.args.places.now whole.value) c.loop.count c.loop.places c.loop.rest.now
gives g c =
    let l = c.loop in
    elim c.loop-test.branch [
      | else-loop-test w ↦ left_end g.T.Part.part_in _ _ l.count l.places _ l.rest.now (omega arith) l.invariant.1
      | then-loop-test+in_default w ↦ left_none g.T.Part.part_in _ _ l.count l.places _ l.rest.now w.in_default.ensures l.invariant.1
    ]

pub returns : goal.returns
returns g c = let h = gives g c in record { places = h.placed; count = h.all; rest = h.rest }
