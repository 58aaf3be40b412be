-- `report::walk` meets its contract: source by source what is summed up, with the figures left, gives what the whole
-- gives. Assumes nothing.
use Rattle.std.specs.Prelude.{Some}
use mathlib.Core.Path.{◌≡◌, ◌∙◌}
use mathlib.Core.Bool.{true}
use Prim.Native.Nat.{◌≤◌}
use native.Mathlib.Omega.{arith}
use Rattle.records.specs.Records.{source_place}
use Rattle.report.specs.Intact.{source_intact}
use Rattle.report.specs.Steps.{table_figure}
use Rattle.report.proofs.Summing.{intact-item, source_fits}
use Rattle.report.proofs.Walks.{row-limit, row-read, table-grams, bounded-widen, Mapped, mapped-bound, walk-start}
use Rattle.report.proofs.Walks.{walk-skip, walk-given, walk-refused, walk-end}
use Rattle.std.proofs.Common.{rules}
use Rattle.std.proofs.lemmas.Result.{err_from_is_err_and}
use Rattle.report.proofs.walk.Goals as goal
use Rattle.report.proofs.walk.Goals.{In-Some, After-row_for, in-Some+in_ok-grams, in_default}

pub loop-number-init : goal.loop-number-init
loop-number-init c =
    walk-start (table_figure c.args.grid c.args.factors.now c.args.totals.now) (source_place c.args.sources.now)
    c.default-sums.result c.default-sums.ensures

-- The source that was read is intact.
unbroken : (c : In-Some) → source_intact (Some c.in-Some.source) ≡ true
unbroken c =
    intact-item source_intact (source_place c.args.sources.now) 32 c.loop-number.number c.in-Some.source
    c.requires.sources c.loop-number-test.true c.in-Some.is

-- Its row and its column are in the table.
row : (c : After-row_for) → c.row_for.result ≤ 3
row c =
    let s = c.in-Some.source in
    rw c.row_for.ensures (row-limit s.supply (source_fits s (unbroken (goal.at.After-row_for c).In-Some)).0)

pub offset_bounds-factors-row_for : goal.offset_bounds-factors-row_for
offset_bounds-factors-row_for c =
    record { fits = omega (arith, row (goal.at.offset_bounds-factors-row_for c).After-row_for) }

pub bounds-factors-row_for : goal.bounds-factors-row_for
bounds-factors-row_for c = omega (arith, row (goal.at.bounds-factors-row_for c).After-row_for)

pub source_grams-requires : goal.source_grams-requires
source_grams-requires c =
    let fits : c.row_for.result ≤ 3 = row (goal.at.source_grams-requires c).After-row_for in
    record {
      grid = c.requires.grid;
      captive =
          rw (← row-read _ c.direction.result _ (c.requires.full _ fits) c.column_for.ensures)
          (c.requires.factors c.direction.result c.row_for.result);
      source = unbroken (goal.at.source_grams-requires c).In-Some;
    }

pub add-requires : goal.add-requires
add-requires c =
    let i = c.loop-number.number in
    let h = c.loop-number-test.true in
    let mapped : Mapped c.source_grams.result c.map_err.result i = search rules in (
      bounded-widen i 31 c.loop-number.sums (omega arith) c.loop-number.invariant.within,
      mapped-bound c.source_grams.result c.map_err.result i _ mapped c.in_ok-grams.was c.source_grams.ensures.bound,
    )

pub returns-in_err-grams-clause-walked : goal.returns-in_err-grams-clause-walked
returns-in_err-grams-clause-walked c =
    let a = c.args in
    let l = c.loop-number in
    let s = c.in-Some.source in
    let mapped : Mapped c.source_grams.result c.map_err.result l.number = search rules in
    let r = err_from_is_err_and c.from_residual.result c.from_residual.ensures.1 in
    let intact = unbroken (goal.at.returns-in_err-grams-clause-walked c).In-Some in
    let same =
    table-grams a.grid a.factors.now a.totals.now s _ _ _ c.requires.full intact c.direction.ensures c.row_for.ensures
    c.column_for.ensures in
    rw (r.1, r.2)
    (walk-refused (table_figure a.grid a.factors.now a.totals.now) (source_place a.sources.now) l.number l.sums
    l.invariant c.loop-number-test.true s c.in-Some.is
    c.source_grams.result c.map_err.result mapped (c.source_grams.ensures.grams ∙ same) _ c.in_err-grams.was)

pub loop-number-preserved : goal.loop-number-preserved
loop-number-preserved c =
    let a = c.args in
    let l = c.loop-number in
    let f = table_figure a.grid a.factors.now a.totals.now in
    let place = source_place a.sources.now in
    elim c.match-held.branch [
      | in-Some+in_ok-grams w ↦
          let s = w.in-Some.source in
          let mapped : Mapped w.source_grams.result w.map_err.result l.number = search rules in
          let intact =
          intact-item source_intact place 32 l.number s c.requires.sources c.loop-number-test.true w.in-Some.is in
          let same =
          table-grams a.grid a.factors.now a.totals.now s _ _ _ c.requires.full intact w.direction.ensures
          w.row_for.ensures w.column_for.ensures in
          rw (w.sums-is, w.add.ensures)
          (walk-given f place l.number l.sums l.invariant c.loop-number-test.true s w.in-Some.is
          w.source_grams.result w.map_err.result mapped (w.source_grams.ensures.grams ∙ same) _ w.in_ok-grams.was
          w.source_grams.ensures.bound)
      | in_default w ↦
          rw w.sums-is (walk-skip f place l.number l.sums l.invariant c.loop-number-test.true w.in_default.is)
    ]

pub returns : goal.returns
returns c =
    let a = c.args in
    let e : c.loop-number.number ≡ 32 = omega arith in
    record {
      walked =
          walk-end (table_figure a.grid a.factors.now a.totals.now) (source_place a.sources.now) c.loop-number.number
          c.loop-number.sums c.loop-number.invariant e;
      bound = rw (← e) c.loop-number.invariant.within;
    }
