-- `metering::Registers::run_back` meets its contract: the order of registers that can be read is that of their
-- patterns. Assumes nothing.
use mathlib.Core.Path.{sym, subst}
use lib.Dec.{T}
use Rattle.metering.proofs.Patterns.{number-no-nan, pattern-order}
use Rattle.metering.proofs.Registers.run_back.Goals as goal

pub float_to_bits-result : goal.float_to_bits-result
float_to_bits-result c = number-no-nan c.args.self.last c.requires.1

pub float_to_bits-result-2 : goal.float_to_bits-result-2
float_to_bits-result-2 c = number-no-nan c.args.self.first c.requires.0

pub returns : goal.returns
returns c =
    let s = c.args.self in
    pattern-order s.last s.first (subst T (sym c.well_formed.0.1.1.1.0.1) tt) (subst T (sym c.well_formed.0.1.1.0.1) tt)
    c.requires.1 c.requires.0
