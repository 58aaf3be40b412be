-- `report::report_of` meets its contract: `Damaged` where one of the three tests does not pass, and else the answer to
-- the walk over the figures by the table, which are those of the report. Assumes nothing.
use Rattle.std.specs.Prelude.{Option, None, Some, Result, Err}
use Rattle.std.specs.Option.{ok_or}
use Rattle.std.proofs.lemmas.Option.{MatchOption-at_some, MatchOption-at_none}
use Rattle.std.proofs.lemmas.Result.{err_from_is_err_and}
use mathlib.Core.Path.{◌≡◌, sym, ap, ◌∙◌}
use mathlib.Core.Bool.{true, false, ◌&&◌}
use mathlib.Core.List.{List}
use Rattle.rounding.specs.declared.refusal.Refusal.{Refusal}
use Rattle.rounding.proofs.Tests.{second-fails}
use Prim.Native.Nat.{ℕ}
use Rattle.emissions.specs.Grid.{grid_intact}
use Rattle.emissions.specs.declared.Grid.{Grid}
use Rattle.records.specs.Records.{source_place}
use Rattle.records.specs.declared.Plant.{Plant}
use Rattle.records.specs.declared.Source.{Source}
use Rattle.report.specs.Intact.{plants_intact, sources_intact}
use Rattle.report.specs.Report.{damaged, standing, site_of, reply_from, report_of, input_of_records, intact}
use Rattle.report.specs.Report.{checked_report_of}
use Rattle.report.specs.Steps.{site_plants, totals_summed, totals_of, table_figure, figures_by, SitesAre, TableOf}
use Rattle.report.specs.declared.NoReport.{NoReport}
use Rattle.report.specs.declared.NoReport.TheVariants.{Damaged}
use Rattle.report.specs.declared.SiteSums.{SiteSums}
use Rattle.report.specs.declared.Totals.{Totals}
use Rattle.report.proofs.Summing.{test-gave, test-gave-none}
use Rattle.report.proofs.Walks.{table_is, report-figures}
use Rattle.report.proofs.report_of.Goals as goal
use Rattle.report.proofs.report_of.Goals.{In_ok-totals, In_ok-sites}

-- What is returned where nothing was summed up.
returned : {A : Type 0} (o : Option A) (e : NoReport) → o ≡ None → Err e ≡ ok_or o Damaged → e ≡ Damaged
returned None e n h = cc
returned (Some a) e n h = cc

-- What the tests say of a report.
module _ (grid : Option Grid) (plants : List (Option Plant)) (sources : List (Option Source)) where
  grid-damaged : grid_intact grid ≡ false → damaged ≡ checked_report_of (input_of_records grid plants sources)
  unfolding intact checked_report_of
  grid-damaged h = rw h

  sources-damaged : sources_intact sources ≡ false → damaged ≡ checked_report_of (input_of_records grid plants sources)
  unfolding intact checked_report_of
  sources-damaged h = rw (second-fails (grid_intact grid && plants_intact plants) _ h)

  module _ (hg : grid_intact grid ≡ true) where
    plants-damaged : plants_intact plants ≡ false → damaged ≡ checked_report_of (input_of_records grid plants sources)
    unfolding intact checked_report_of
    plants-damaged h = rw (hg, h)

    -- Where all pass, the report is the answer to the figures by the table.
    walked-so : (totals : Totals) (sites : List SiteSums) (factors : List (List (Result ℕ Refusal)))
        → Some totals ≡ totals_summed sources → SitesAre plants sites → TableOf sites factors
        → reply_from (figures_by (table_figure grid factors totals) (standing (source_place sources) 0 32))
        ≡ checked_report_of (input_of_records grid plants sources)
    unfolding intact checked_report_of report_of
    walked-so totals sites factors ht hs hf =
        let t = test-gave (sources_intact sources) (totals_of (source_place sources)) totals ht in
        let table = table_is (site_of (site_plants plants)) sites factors hs.sums hf in
        rw (hg, hs.intact, t.0, t.1) (ap reply_from (report-figures grid plants sources factors table t.0))

pub returns-then-not-grid_is_intact : goal.returns-then-not-grid_is_intact
returns-then-not-grid_is_intact c =
    let a = c.args in
    grid-damaged a.grid a.plants.now a.sources.now (sym c.grid_is_intact.ensures ∙ c.if-not-grid_is_intact.true)

pub returns-in_err-totals : goal.returns-in_err-totals
returns-in_err-totals c =
    let a = c.args in
    let none = c.in_err-totals.ensures.ok_part in
    let p = err_from_is_err_and c.from_residual.result c.from_residual.ensures.1 in
    rw (p.1, p.2, returned _ _ none c.in_err-totals.ensures.value)
    (sources-damaged a.grid a.plants.now a.sources.now (test-gave-none _ _ (sym none ∙ c.totals_of.ensures)))

passed : (c : In_ok-totals) → grid_intact c.args.grid ≡ true
passed c = sym c.grid_is_intact.ensures ∙ c.if-not-grid_is_intact.false

pub returns-in_err-sites : goal.returns-in_err-sites
returns-in_err-sites c =
    let a = c.args in
    let none = c.in_err-sites.ensures.ok_part in
    let p = err_from_is_err_and c.from_residual-in_err-sites.result c.from_residual-in_err-sites.ensures.1 in
    rw (p.1, p.2, returned _ _ none c.in_err-sites.ensures.value)
    (plants-damaged a.grid a.plants.now a.sources.now (passed (goal.at.returns-in_err-sites c).In_ok-totals)
    (MatchOption-at_none (plants_intact a.plants.now ≡ false) (SitesAre a.plants.now) none c.site_sums.ensures))

pub returns-in_err-walk : goal.returns-in_err-walk
returns-in_err-walk c =
    let a = c.args in
    let p = err_from_is_err_and c.from_residual-in_err-walk.result c.from_residual-in_err-walk.ensures.1 in
    let sites =
    MatchOption-at_some (plants_intact a.plants.now ≡ false) (SitesAre a.plants.now) _
    c.in_ok-sites.ensures.ok_part c.site_sums.ensures in
    rw (p.1, p.2) (
    c.in_err-walk.ensures.walked
    ∙ walked-so a.grid a.plants.now a.sources.now (passed (goal.at.returns-in_err-walk c).In_ok-totals) _ _ _
    (sym c.in_ok-totals.ensures.ok_part ∙ c.totals_of.ensures) sites c.site_factors.ensures.factors)

pub returns : goal.returns
returns c =
    let a = c.args in
    let sites =
    MatchOption-at_some (plants_intact a.plants.now ≡ false) (SitesAre a.plants.now) _
    c.in_ok-sites.ensures.ok_part c.site_sums.ensures in
    c.reported.ensures
    ∙ c.in_ok-walk.ensures.walked
    ∙ walked-so a.grid a.plants.now a.sources.now (passed (goal.at.returns c).In_ok-totals) _ _ _
    (sym c.in_ok-totals.ensures.ok_part ∙ c.totals_of.ensures) sites c.site_factors.ensures.factors
