-- `report::totals_of` meets its contract: source by source what is summed up stays that of the sources before. Assumes
-- nothing.
use Rattle.std.specs.Prelude.{Some}
use mathlib.Core.Path.{◌≡◌, refl, sym, ap, ◌∙◌}
use mathlib.Core.Bool.{true}
use native.Mathlib.Omega.{arith}
use Rattle.records.specs.Records.{source_place}
use Rattle.report.specs.Intact.{source_intact}
use Rattle.report.proofs.Summing.{not-intact, source_fits, within_more, totals-start, totals-turn, totals-end}
use Rattle.report.proofs.totals_of.Goals as goal
use Rattle.report.proofs.totals_of.Goals.{in-Some+else-not-source_is_intact, in_default}

pub loop-held-init : goal.loop-held-init
loop-held-init c = rw c.empty-totals.ensures (totals-start (source_place c.args.sources.now))

pub returns-then-not-source_is_intact : goal.returns-then-not-source_is_intact
returns-then-not-source_is_intact c =
    let damaged = ap source_intact c.in-Some.is ∙ sym c.source_is_intact.ensures ∙ c.if-not-source_is_intact.true in
    rw (not-intact source_intact (source_place c.args.sources.now) 32 c.loop-held.held-index c.loop-held-test.true
    damaged)

pub add-requires : goal.add-requires
add-requires c =
    let h = c.loop-held-test.true in
    let k = c.loop-held.invariant.within in
    let intact : source_intact (Some c.in-Some.source) ≡ true =
    sym c.source_is_intact.ensures ∙ c.if-not-source_is_intact.false in (
      record { factor = within_more (omega arith) k.factor; loss = within_more (omega arith) k.loss },
      (source_fits c.in-Some.source intact).2,
    )

pub loop-held-preserved : goal.loop-held-preserved
loop-held-preserved c =
    let turn =
    totals-turn (source_place c.args.sources.now) c.loop-held.held-index c.loop-held.totals c.loop-held.invariant
    c.loop-held-test.true in
    elim c.match-held.branch [
      | in-Some+else-not-source_is_intact w ↦
          rw (w.totals-is, w.add.ensures)
          (turn _ w.in-Some.is (sym w.source_is_intact.ensures ∙ w.if-not-source_is_intact.false))
      | in_default w ↦ rw w.totals-is (turn _ w.in_default.is refl)
    ]

pub returns : goal.returns
returns c =
    let e : c.loop-held.held-index ≡ 32 = omega arith in
    let end =
    totals-end (source_place c.args.sources.now) c.loop-held.held-index c.loop-held.totals c.loop-held.invariant e
    in
    rw end.0 (ap Some end.1)
