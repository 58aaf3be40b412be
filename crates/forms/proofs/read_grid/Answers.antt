-- `forms::read_grid` meets its contract. Assumes nothing.
use Rattle.forms.specs.Reading.{grid_in}
use Rattle.forms.specs.Calls.{call_of, fitted}
use Rattle.forms.proofs.read_grid.Goals as goal

pub returns-in_err-numbers : goal.returns-in_err-numbers
unfolding grid_in
returns-in_err-numbers c = rw (c.from_residual.ensures, ← c.in_err-numbers.ensures)

pub returns-in_err-kind : goal.returns-in_err-kind
unfolding grid_in
returns-in_err-kind c = rw (c.from_residual-in_err-kind.ensures, ← c.in_ok-numbers.ensures, ← c.in_err-kind.ensures)

pub returns : goal.returns
unfolding grid_in call_of fitted
returns c = rw (← c.in_ok-numbers.ensures, ← c.in_ok-kind.ensures, c.word_field.ensures)
