use Rattle.std.proofs.Common.{rules}
use Rattle.forms.specs.Reading.{meters, plain_meters, ratio_meters}
use Rattle.forms.proofs.Tables.{one-append}
use Rattle.forms.proofs.Lines.{else_mapped}
use Rattle.forms.proofs.part.MeterPart.read.Goals as goal

pub returns : goal.returns
unfolding meters
returns c = rw (one-append plain_meters ratio_meters c.args.text.now, else_mapped) (search rules)
