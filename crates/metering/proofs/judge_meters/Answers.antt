-- `metering::judge_meters` meets its contract: with the ratios in their range, what is not read is not accepted. Assumes
-- nothing.
use lib.ListN.{take}
use Rattle.std.proofs.Common.{rules}
use Rattle.metering.specs.Energy.{judged_meters, judged_readings}
use Rattle.metering.proofs.Energy.{all_read}
use Rattle.metering.proofs.judge_meters.Goals as goal

pub returns-in_err-moved : goal.returns-in_err-moved
unfolding judged_meters judged_readings
returns-in_err-moved c =
    let e = all_read (take c.args.count c.args.meters.now) (search rules) in
    search rules
