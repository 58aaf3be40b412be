-- `forms::part::FuelLine::read` meets its contract, row by row. Assumes nothing.
use Rattle.forms.specs.Reading.{one_of, fuels}
use Rattle.forms.proofs.part.FuelLinePart.read.Goals as goal

pub returns-in-Some : goal.returns-in-Some
unfolding one_of fuels
returns-in-Some c =
    rw (
      ← c.in-Some.ensures,
      c.word_field-quantity.ensures,
      c.word_field-ncv.ensures,
      c.word_field-factor.ensures,
    )

pub returns-in-Some-read_template : goal.returns-in-Some-read_template
unfolding one_of fuels
returns-in-Some-read_template c =
    rw (
      ← c.in_default.ensures,
      ← c.in-Some-read_template.ensures,
      c.word_field-quantity-in-Some-read_template.ensures,
      c.word_field-carbon.ensures,
    )

pub returns-in-Some-read_template-2 : goal.returns-in-Some-read_template-2
unfolding one_of fuels
returns-in-Some-read_template-2 c =
    rw (
      ← c.in_default.ensures,
      ← c.in_default-read_template.ensures,
      ← c.in-Some-read_template-2.ensures,
      c.word_field-quantity-in-Some-read_template-2.ensures,
      c.word_field-density.ensures,
      c.word_field-carbon-in-Some-read_template-2.ensures,
    )

pub returns : goal.returns
unfolding one_of fuels
returns c = rw (← c.in_default.ensures, ← c.in_default-read_template.ensures, ← c.in_default-read_template-2.ensures)
