-- `forms::read_other` meets its contract, row by row. Assumes nothing.
use Rattle.forms.specs.Reading.{one_of, others}
use Rattle.forms.specs.Calls.{call_of, fitted}
use Rattle.forms.proofs.read_other.Goals as goal

pub returns-in-Some : goal.returns-in-Some
unfolding one_of others call_of fitted
returns-in-Some c = rw (← c.in-Some.ensures, c.byte_field.ensures)

pub returns-in-Some-read_template : goal.returns-in-Some-read_template
unfolding one_of others call_of fitted
returns-in-Some-read_template c =
    rw (← c.in_default.ensures, ← c.in-Some-read_template.ensures, c.byte_field-in-Some-read_template.ensures)

pub returns-in-Some-read_template-2 : goal.returns-in-Some-read_template-2
unfolding one_of others call_of fitted
returns-in-Some-read_template-2 c =
    rw (← c.in_default.ensures, ← c.in_default-read_template.ensures, ← c.in-Some-read_template-2.ensures)

pub returns : goal.returns
unfolding one_of others
returns c = rw (← c.in_default.ensures, ← c.in_default-read_template.ensures, ← c.in_default-read_template-2.ensures)
