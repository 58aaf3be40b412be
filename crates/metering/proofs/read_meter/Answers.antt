-- `metering::read_meter` meets its contract: a reading that is refused refuses the meter. Assumes nothing.
use Rattle.std.proofs.Common.{rules}
use Rattle.metering.proofs.Energy.{both-accepted, reading-refused}
use Rattle.metering.proofs.read_meter.Goals as goal

pub returns-in_err-takes : goal.returns-in_err-takes
returns-in_err-takes c =
    let m = c.args.meter.now in
    let e = reading-refused c.args.direction m _ c.taking.result _ c.requires
    (λ h. rw c.taking.ensures (both-accepted m h).1) c.in_err-takes.ensures in
    search rules

pub returns-in_err-adds : goal.returns-in_err-adds
returns-in_err-adds c =
    let m = c.args.meter.now in
    let e = reading-refused c.args.direction m _ c.adding.result _ c.requires
    (λ h. rw c.adding.ensures (both-accepted m h).0) c.in_err-adds.ensures in
    search rules
