-- `forms::part::Loss::read` meets its contract, row by row. Assumes nothing.
use Rattle.forms.specs.Reading.{one_of, losses}
use Rattle.forms.proofs.part.LossPart.read.Goals as goal

pub returns-in-Some : goal.returns-in-Some
unfolding one_of losses
returns-in-Some c = rw (← c.in-Some.ensures, c.half_field.ensures)

pub returns-in-Some-read_template : goal.returns-in-Some-read_template
unfolding one_of losses
returns-in-Some-read_template c = rw (← c.in_default.ensures, ← c.in-Some-read_template.ensures)

pub returns-in-Some-read_template-2 : goal.returns-in-Some-read_template-2
unfolding one_of losses
returns-in-Some-read_template-2 c =
    rw (
      ← c.in_default.ensures,
      ← c.in_default-read_template.ensures,
      ← c.in-Some-read_template-2.ensures,
    )

pub returns-in-Some-read_template-3 : goal.returns-in-Some-read_template-3
unfolding one_of losses
returns-in-Some-read_template-3 c =
    rw (
      ← c.in_default.ensures,
      ← c.in_default-read_template.ensures,
      ← c.in_default-read_template-2.ensures,
      ← c.in-Some-read_template-3.ensures,
    )

pub returns : goal.returns
unfolding one_of losses
returns c =
    rw (
      ← c.in_default.ensures,
      ← c.in_default-read_template.ensures,
      ← c.in_default-read_template-2.ensures,
      ← c.in_default-read_template-3.ensures,
    )
