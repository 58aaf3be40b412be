-- `forms::part::read_ratio_meter` meets its contract, row by row. Assumes nothing.
use mathlib.Core.Path.{sym}
use Rattle.text.specs.Template.{places_of}
use Rattle.forms.specs.Reading.{one_of, ratio_meters}
use Rattle.forms.proofs.Fields.{Fit, registers-fit}
use Rattle.forms.proofs.Tables.{on-template}
use Rattle.forms.proofs.part.read_ratio_meter.Goals as goal

pub returns-in-Some : goal.returns-in-Some
unfolding one_of ratio_meters
returns-in-Some c = rw (← c.in-Some.ensures, c.whole_meter-meter.ensures, c.half_field-ratio.ensures)

pub returns-in-Some-read_template : goal.returns-in-Some-read_template
unfolding one_of ratio_meters
returns-in-Some-read_template c =
    rw (
      ← c.in_default.ensures,
      ← c.in-Some-read_template.ensures,
      c.whole_meter-meter-in-Some-read_template.ensures,
      c.half_field-ratio-in-Some-read_template.ensures,
    )

pub returns-in-Some-read_template-2 : goal.returns-in-Some-read_template-2
unfolding one_of ratio_meters places_of
returns-in-Some-read_template-2 c =
    let f = on-template (λ n. Fit n.second n.third) _ _ _ (sym c.in-Some-read_template-2.ensures)
    (λ ratio g first h last k text. registers-fit first h last k) in
    rw (
      ← c.in_default.ensures,
      ← c.in_default-read_template.ensures,
      ← c.in-Some-read_template-2.ensures,
      c.single_meter-meter.ensures,
      c.half_field-ratio-in-Some-read_template-2.ensures,
      f.0,
      f.1,
    )

pub returns-in-Some-read_template-3 : goal.returns-in-Some-read_template-3
unfolding one_of ratio_meters places_of
returns-in-Some-read_template-3 c =
    let f = on-template (λ n. Fit n.second n.third) _ _ _ (sym c.in-Some-read_template-3.ensures)
    (λ ratio g first h last k text. registers-fit first h last k) in
    rw (
      ← c.in_default.ensures,
      ← c.in_default-read_template.ensures,
      ← c.in_default-read_template-2.ensures,
      ← c.in-Some-read_template-3.ensures,
      c.single_meter-meter-in-Some-read_template-3.ensures,
      c.half_field-ratio-in-Some-read_template-3.ensures,
      f.0,
      f.1,
    )

pub returns : goal.returns
unfolding one_of ratio_meters
returns c =
    rw (
      ← c.in_default.ensures,
      ← c.in_default-read_template.ensures,
      ← c.in_default-read_template-2.ensures,
      ← c.in_default-read_template-3.ensures,
    )
