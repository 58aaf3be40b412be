-- `report::site_sums` meets its contract: plant by plant the sums of each site stay those of the plants before. Assumes
-- nothing.
use Rattle.std.specs.Prelude.{Some}
use mathlib.Core.Path.{◌≡◌, ap, subst, ◌∙◌}
use mathlib.Core.Bool.{true}
use Prim.Native.Nat.{◌≤◌}
use native.Mathlib.Omega.{arith}
use Rattle.records.specs.Records.{plant_place}
use Rattle.report.specs.Intact.{plant_intact}
use Rattle.report.specs.Report.{plain_of}
use Rattle.report.specs.Steps.{plant_sums, SiteWithin}
use Rattle.report.proofs.Summing.{not-intact, plant-site-fits, test-gave, test-gave-none, sums-widen, sites-start}
use Rattle.report.proofs.Summing.{sites-skip, sites-add, sites-end}
use Rattle.report.proofs.site_sums.Goals as goal
use Rattle.report.proofs.site_sums.Goals.{In_ok-more, in-Some+in_ok-more, in_default}

pub loop-held-init : goal.loop-held-init
loop-held-init c =
    let e = c.default-sites.ensures in
    sites-start (plant_place c.args.plants.now) c.default-sites.result e.0 e.1.0 e.1.1

pub returns-in_err-more : goal.returns-in_err-more
returns-in_err-more c =
    let damaged = ap plant_intact c.in-Some.is ∙ test-gave-none _ _ c.in_err-more.ensures.summed in
    rw c.from_residual.ensures
    (not-intact plant_intact (plant_place c.args.plants.now) 8 c.loop-held.held-index c.loop-held-test.true damaged)

-- The plant is intact, and what is summed up of it is what it adds.
gave : (c : In_ok-more)
    → (plant_intact (Some c.in-Some.plant) ≡ true) × (c.in_ok-more.more ≡ plant_sums (plain_of c.in-Some.plant))
gave c = test-gave _ _ c.in_ok-more.more c.in_ok-more.ensures.summed

site-fits : (c : In_ok-more) → c.in-Some.plant.site ≤ 3
site-fits c = plant-site-fits c.in-Some.plant (gave c).0

pub bounds-sites-plant : goal.bounds-sites-plant
bounds-sites-plant c = omega (arith, site-fits (goal.at.bounds-sites-plant c).In_ok-more)

pub add-requires : goal.add-requires
add-requires c =
    let h = c.loop-held-test.true in (
      sums-widen (omega arith) (c.loop-held.invariant.sums _ (site-fits (goal.at.add-requires c).In_ok-more)).within,
      c.in_ok-more.ensures.bound,
    )

pub loop-held-preserved : goal.loop-held-preserved
loop-held-preserved c =
    let place = plant_place c.args.plants.now in
    let i = c.loop-held.held-index in
    let h = c.loop-held-test.true in
    elim c.match-held.branch [
      | in-Some+in_ok-more w ↦
          let g = test-gave _ _ w.in_ok-more.more w.in_ok-more.ensures.summed in
          rw (w.sites-is, w.add.ensures, g.1)
          (sites-add place i c.loop-held.sites c.loop-held.invariant h w.in-Some.plant w.in-Some.is g.0
          (subst (SiteWithin 1) g.1 w.in_ok-more.ensures.bound))
      | in_default w ↦ rw w.sites-is (sites-skip place i c.loop-held.sites c.loop-held.invariant h w.in_default.is)
    ]

pub returns : goal.returns
returns c = sites-end c.args.plants.now c.loop-held.held-index c.loop-held.sites c.loop-held.invariant (omega arith)
