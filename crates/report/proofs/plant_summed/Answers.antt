-- `report::plant_summed` meets its contract: at each return, what was found of the plant. Assumes nothing.
use Rattle.std.specs.Prelude.{None, Some}
use mathlib.Core.Path.{◌≡◌, sym, ap, ◌∙◌}
use mathlib.Core.Bool.{true, cond, ◌&&◌}
use Prim.Native.Nat.{zero-le}
use lib.Dec.{leb}
use Rattle.rounding.specs.declared.Direction.TheVariants.{Up, Down}
use Rattle.records.specs.Judging.{lines_of, all_within_limits}
use Rattle.records.proofs.Judged.{plant-site, plant-figures, plant-lines}
use Rattle.report.specs.Heat.{lines_milligrams, electricity_milligrams}
use Rattle.report.specs.Report.{plain_of, plant_milligrams}
use Rattle.report.specs.Intact.{plant_intact}
use Rattle.report.specs.Steps.{electricity_of}
use Rattle.fuel.specs.declared.BothWays.{BothWays}
use Rattle.report.proofs.Summing.{test-gave, test-gave-none, electricity-is}
use Rattle.report.proofs.plant_summed.Goals as goal
use Rattle.report.proofs.plant_summed.Goals.{Else-not-figures_fit, In_ok-sums}
use Rattle.report.proofs.plant_summed.Goals.{then-plant-gt-SITE_LIMIT-via-then-plant-gt-SITE_LIMIT}
use Rattle.report.proofs.plant_summed.Goals.{then-plant-gt-SITE_LIMIT-via-else-plant-gt-SITE_LIMIT+then-not-figures_fit}

-- The plant passed the tests of its figures.
fit : (c : Else-not-figures_fit) → (leb c.args.plant.now.count 4 && leb c.args.plant.now.generation 100000000) ≡ true
fit c = sym c.figures_fit.ensures ∙ c.if-not-figures_fit.false

-- Its lines are within their limits, and these are their milligrams.
gave : (c : In_ok-sums) → let ls = lines_of c.args.plant.now in
    (all_within_limits ls ≡ true)
    × (c.in_ok-sums.sums ≡ record { up = lines_milligrams Up ls; down = lines_milligrams Down ls })
unfolding lines_of
gave c = test-gave _ _ _ c.in_ok-sums.ensures.summed

pub returns-then-plant-gt-SITE_LIMIT-clause-summed :
    goal.returns-then-plant-gt-SITE_LIMIT-clause-summed
returns-then-plant-gt-SITE_LIMIT-clause-summed c =
    let p = c.args.plant.now in
    elim c.then-plant-gt-SITE_LIMIT.branch [
      | then-plant-gt-SITE_LIMIT-via-then-plant-gt-SITE_LIMIT w ↦ rw
          (plant-site 0 p zero-le w.if-plant-gt-SITE_LIMIT.true)
      | then-plant-gt-SITE_LIMIT-via-else-plant-gt-SITE_LIMIT+then-not-figures_fit w ↦
          rw (plant-figures 0 p zero-le w.if-plant-gt-SITE_LIMIT.false
          (sym w.figures_fit.ensures ∙ w.if-not-figures_fit.true))
    ]

pub returns-in_err-sums-clause-summed : goal.returns-in_err-sums-clause-summed
returns-in_err-sums-clause-summed c =
    let f = fit (goal.at.returns-in_err-sums-clause-summed c).Else-not-figures_fit in
    let beyond = test-gave-none _ _ c.in_err-sums.ensures.summed in
    rw (c.from_residual.ensures, plant-lines 0 c.args.plant.now zero-le c.if-plant-gt-SITE_LIMIT.false f _ beyond)

-- What counts for baseline is said exactly where the plant is intact.
counted : (c : In_ok-sums) → let p = c.args.plant.now in
    electricity_of p c.in_ok-sums.sums.down ≡ cond (plant_intact (Some p)) (Some (plant_milligrams Down (plain_of p)))
    None
counted c =
    let g = gave c in
    electricity-is c.args.plant.now (fit (goal.at.In_ok-sums c).Else-not-figures_fit) c.if-plant-gt-SITE_LIMIT.false
    g.0 _ (ap (λ (s : BothWays). s.down) g.1)

pub returns-in_err-down-clause-summed : goal.returns-in_err-down-clause-summed
returns-in_err-down-clause-summed c =
    let e =
    test-gave-none _ _
    (c.in_err-down.ensures.counted ∙ counted (goal.at.returns-in_err-down-clause-summed c).In_ok-sums) in
    rw (c.from_residual-in_err-down.ensures, e)

pub returns-clause-summed : goal.returns-clause-summed
unfolding plant_milligrams electricity_milligrams
returns-clause-summed c =
    let s = (goal.at.returns-clause-summed c).In_ok-sums in
    let e = test-gave _ _ _ (c.in_ok-down.ensures.counted ∙ counted s) in
    let up = ap (λ (x : BothWays). x.up) (gave s).1 in
    rw e.0 (cc (e.1, up))
