-- `forms::read_plant` meets its contract. Assumes nothing.
use mathlib.Core.Path.{refl}
use Rattle.fuel.specs.Fuel.{no_line}
use Rattle.forms.specs.Reading.{plant_in, fuels}
use Rattle.forms.specs.Calls.{call_of, fitted_line, fitted}
use Rattle.forms.proofs.Lists.{first-parts, parts-count, parts-rest, map-four}
use Rattle.forms.proofs.read_plant.Goals as goal

pub returns-in_err-numbers : goal.returns-in_err-numbers
unfolding plant_in
returns-in_err-numbers c = rw (c.from_residual.ensures, ← c.in_err-numbers.ensures)

pub returns : goal.returns
unfolding plant_in call_of fitted
returns c =
    let p = c.read_parts-line_count.ensures in
    rw (
      ← c.in_ok-numbers.ensures,
      c.byte_field.ensures,
      c.byte_field-2.ensures,
      c.byte_field-3.ensures,
      c.word_field.ensures,
      first-parts fuels fitted_line _ _ no_line c.empty-lines.ensures p.places,
      parts-count fuels fitted_line _ p.count,
      parts-rest fuels fitted_line _ p.rest,
      c.read_heat-heat.ensures.heat,
      c.read_heat-heat.ensures.rest,
      map-four fitted_line no_line _ refl,
    )
