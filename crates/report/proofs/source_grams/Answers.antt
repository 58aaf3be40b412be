-- `report::source_grams` meets its contract: the factor, the loss and the energy are within the limits at which grams
-- are worked out. Assumes nothing.
use Rattle.std.specs.Prelude.{Some}
use mathlib.Core.Path.{◌≡◌, sym, ap, ◌∙◌}
use Prim.Native.Nat.{◌≤◌}
use Rattle.std.proofs.lemmas.Option.{same_Some}
use Rattle.metering.specs.Reading.{limit}
use Rattle.emissions.specs.Factor.{factor_limit}
use Rattle.emissions.specs.Figure.{energy_with_losses, grams_of}
use Rattle.emissions.specs.declared.Emissions.{Emissions}
use Rattle.emissions.proofs.Figures.{emissions-within}
use Rattle.report.proofs.Summing.{source_fits}
use Rattle.report.proofs.Walks.{open-limit, grams-limit, given-limit, grams-given}
use Rattle.report.proofs.source_grams.Goals as goal
use Rattle.report.proofs.source_grams.Goals.{In_ok-loss, After-emissions_of, After-unwrap-emissions}

-- The energy, the loss and the factor are within their limits.
limits : (c : In_ok-loss)
    → (c.args.source.now.energy ≤ limit) × (c.in_ok-loss.loss ≤ 5000) × (c.in_ok-factor.factor ≤ factor_limit)
limits c =
    let a = c.args in
    let s = a.source.now in
    let fits = source_fits s c.requires.source in (
      fits.2,
      open-limit _ a.totals.now.loss s.loss _ fits.1 (sym c.in_ok-loss.ensures),
      given-limit a.grid _ a.totals.now s c.requires.grid (λ S. c.requires.captive) _ _ (sym c.in_ok-factor.ensures),
    )

-- So the call gave what is worked out.
worked : (c : After-emissions_of) → let dir = c.direction-direction.result in
    let U = energy_with_losses dir c.args.source.now.energy c.in_ok-loss.loss in
    c.emissions_of.result ≡ Some (record { energy = U; grams = grams_of dir U c.in_ok-factor.factor })
worked c =
    let h = limits (goal.at.After-emissions_of c).In_ok-loss in
    c.emissions_of.ensures ∙ emissions-within _ _ _ _ h.0 h.1 h.2

grams : (c : After-unwrap-emissions) → let dir = c.direction-direction.result in
    c.unwrap-emissions.result.grams ≡ grams_of dir (energy_with_losses dir c.args.source.now.energy c.in_ok-loss.loss)
    c.in_ok-factor.factor
grams c =
    ap (λ (x : Emissions). x.grams)
    (same_Some _ _ (sym c.unwrap-emissions.ensures ∙ worked (goal.at.After-unwrap-emissions c).After-emissions_of))

pub unwrap-emissions-requires : goal.unwrap-emissions-requires
unwrap-emissions-requires c = rw (worked c)

pub returns-clause-grams : goal.returns-clause-grams
returns-clause-grams c =
    let a = c.args in
    rw (grams c)
    (grams-given a.grid _ a.totals.now a.source.now _ c.direction-direction.ensures _ _ (sym c.in_ok-factor.ensures)
    (sym c.in_ok-loss.ensures))

pub returns-clause-bound : goal.returns-clause-bound
returns-clause-bound c =
    let h = limits (goal.at.returns-clause-bound c).In_ok-loss in
    rw (grams c) (grams-limit _ _ _ _ h.0 h.1 h.2)
