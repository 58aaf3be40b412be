-- `forms::read_line` meets its contract. Assumes nothing.
use Rattle.std.specs.Prelude.{Some}
use mathlib.Core.Path.{ap}
use Rattle.ledger.specs.Standing.{Call}
use Rattle.forms.specs.Reading.{opening_in, form_in}
use Rattle.forms.specs.Calls.{fitted_call}
use Rattle.forms.proofs.Lines.{long-line, short-line, part-missing, part-read}
use Rattle.forms.proofs.read_line.Goals as goal

pub returns-then-line-gt-LINE_LIMIT : goal.returns-then-line-gt-LINE_LIMIT
returns-then-line-gt-LINE_LIMIT c = rw (long-line c.args.line.now c.if-line-gt-LINE_LIMIT.true)

pub returns-in_err-call : goal.returns-in_err-call
unfolding form_in
returns-in_err-call c =
    let h = c.if-line-gt-LINE_LIMIT.false in
    rw (
      c.from_residual.ensures,
      short-line c.args.line.now h,
      part-missing fitted_call {o = opening_in c.args.line.now} c.in_err-call.ensures,
    )

pub returns-then-closes : goal.returns-then-closes
unfolding form_in
returns-then-closes c =
    let h = c.if-line-gt-LINE_LIMIT.false in
    let f = part-read fitted_call {o = opening_in c.args.line.now} c.in_ok-call.ensures in
    rw (short-line c.args.line.now h, f.1, ← c.closes.ensures, c.if-closes.true) (ap (λ (x : Call). Some x) f.2)

pub returns-else-closes : goal.returns-else-closes
unfolding form_in
returns-else-closes c =
    let h = c.if-line-gt-LINE_LIMIT.false in
    let f = part-read fitted_call {o = opening_in c.args.line.now} c.in_ok-call.ensures in
    rw (short-line c.args.line.now h, f.1, ← c.closes.ensures, c.if-closes.false)
