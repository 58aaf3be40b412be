-- `text::put_decimal` meets its contract. Assumes nothing.
use Rattle.text.proofs.Decimals.{decimal-digits}
use Rattle.text.proofs.put_decimal.Goals as goal

pub returns : goal.returns
returns c =
    let n = c.args.number in
    rw (decimal-digits n, ← c.decimal_length.ensures) c.put_digits.ensures
