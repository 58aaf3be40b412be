-- `forms::read_margins` meets its contract. Assumes nothing.
use Rattle.forms.specs.Reading.{margins_in}
use Rattle.forms.specs.Calls.{call_of, fitted}
use Rattle.forms.proofs.read_margins.Goals as goal

pub returns-in_err-figures : goal.returns-in_err-figures
unfolding margins_in
returns-in_err-figures c = rw (c.from_residual.ensures, ← c.in_err-figures.ensures)

pub returns-in_err-percents : goal.returns-in_err-percents
unfolding margins_in
returns-in_err-percents c =
    rw (c.from_residual-in_err-percents.ensures, ← c.in_ok-figures.ensures, ← c.in_err-percents.ensures)

pub returns-in_err-kind : goal.returns-in_err-kind
unfolding margins_in
returns-in_err-kind c =
    rw (
      c.from_residual-in_err-kind.ensures,
      ← c.in_ok-figures.ensures,
      ← c.in_ok-percents.ensures,
      ← c.in_err-kind.ensures,
    )

pub returns : goal.returns
unfolding margins_in call_of fitted
returns c =
    rw (
      ← c.in_ok-figures.ensures,
      ← c.in_ok-percents.ensures,
      ← c.in_ok-kind.ensures,
      c.word_field.ensures,
      c.word_field-2.ensures,
      c.byte_field.ensures,
      c.byte_field-2.ensures,
    )
