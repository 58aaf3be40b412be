-- `forms::read_source` meets its contract. Assumes nothing.
use mathlib.Core.Path.{refl}
use mathlib.Core.List.{map-map}
use Rattle.metering.specs.Energy.{no_meter}
use Rattle.forms.specs.Reading.{source_in, meters}
use Rattle.forms.specs.Calls.{meter_of, call_of, fitted_supply, fitted_loss, fitted_meter, fitted_meter_of, fitted}
use Rattle.forms.proofs.Lists.{first-parts, parts-count, parts-rest, map-four}
use Rattle.forms.proofs.Lines.{part-missing, part-read, source-call}
use Rattle.forms.proofs.read_source.Goals as goal

pub returns-in_err-numbers : goal.returns-in_err-numbers
unfolding source_in
returns-in_err-numbers c = rw (c.from_residual.ensures, ← c.in_err-numbers.ensures)

pub returns-in_err-side : goal.returns-in_err-side
unfolding source_in
returns-in_err-side c = rw (c.from_residual-in_err-side.ensures, ← c.in_ok-numbers.ensures, ← c.in_err-side.ensures)

pub returns-in_err-supply : goal.returns-in_err-supply
unfolding source_in
returns-in_err-supply c =
    rw (
      c.from_residual-in_err-supply.ensures,
      ← c.in_ok-numbers.ensures,
      ← c.in_ok-side.ensures,
      part-missing fitted_supply c.in_err-supply.ensures,
    )

pub returns-in_err-loss : goal.returns-in_err-loss
unfolding source_in
returns-in_err-loss c =
    let supply = part-read fitted_supply c.in_ok-supply.ensures in
    rw (
      c.from_residual-in_err-loss.ensures,
      ← c.in_ok-numbers.ensures,
      ← c.in_ok-side.ensures,
      supply.1,
      part-missing fitted_loss c.in_err-loss.ensures,
    )

pub returns : goal.returns
unfolding source_in call_of fitted
returns c =
    let supply = part-read fitted_supply c.in_ok-supply.ensures in
    let loss = part-read fitted_loss c.in_ok-loss.ensures in
    let p = c.read_parts-meter_count.ensures in
    rw (
      ← c.in_ok-numbers.ensures,
      ← c.in_ok-side.ensures,
      supply.1,
      loss.1,
      c.byte_field.ensures,
      c.byte_field-2.ensures,
      first-parts meters fitted_meter_of _ _ no_meter c.empty-meters.ensures p.places,
      parts-count meters fitted_meter_of _ p.count,
      parts-rest meters fitted_meter_of _ p.rest,
      map-four fitted_meter no_meter _ refl,
      map-map fitted_meter meter_of,
    )
    (source-call supply.2 loss.2)
