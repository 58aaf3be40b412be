-- `metering::Meter::runs_back` meets its contract: each arm knows the kind, and the meter is one that is read. Assumes
-- nothing.
use mathlib.Core.Path.{sym, ap, ◌∙◌}
use mathlib.Core.Bool.{Bool}
use lib.Dec.{ltb}
use Rattle.metering.specs.Reading.{exact_by}
use Prim.Native.Nat.{ℕ}
use Rattle.metering.specs.Energy.{first_of, last_of}
use Rattle.metering.specs.declared.Interval.{Interval}
use Rattle.metering.proofs.Energy.{order-by, counts-order, read-ratio}
use Rattle.metering.proofs.Meter.runs_back.Goals as goal

abbrev falls : ℕ → Interval → Bool
falls ratio i = ltb (exact_by ratio (last_of i)) (exact_by ratio (first_of i))

pub returns-in-Counts : goal.returns-in-Counts
returns-in-Counts c =
    counts-order c.in-Counts.last c.in-Counts.first
    ∙ order-by c.args.self.now.ratio _ _ (read-ratio c.args.self.now c.requires)
    ∙ ap (falls c.args.self.now.ratio) (sym c.in-Counts.is)

pub returns-in-Singles : goal.returns-in-Singles
returns-in-Singles c =
    c.run_back.ensures
    ∙ order-by c.args.self.now.ratio _ _ (read-ratio c.args.self.now c.requires)
    ∙ ap (falls c.args.self.now.ratio) (sym c.in-Singles.is)
