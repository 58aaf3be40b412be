-- What the answers of the code mean: the paper's number and values of each case.
use Rattle.std.specs.Prelude.{Result, Ok, Err}
use Rattle.rounding.specs.Outcome.{number_of}
use Rattle.rounding.specs.declared.refusal.Refusal.{Refusal}
use Rattle.report.specs.Report.{Reply, ok, refused_with, refused_at, reported, damaged}
use Rattle.report.specs.Report as report
use Rattle.report.specs.declared.SideReport.{SideReport}
use Rattle.report.specs.declared.Report.{Report}
use Rattle.report.specs.declared.NoReport.{NoReport}
use Rattle.report.specs.declared.NoReport.TheVariants.{Damaged, Refused, RefusedAt}

-- Of an entry or a drop.
abbrev pub answer_meaning : Result (Unit {0}) Refusal → Reply
answer_meaning (Ok done) = ok
answer_meaning (Err r) = refused_with (number_of r)

abbrev pub side_meaning : SideReport → report.SideReport
side_meaning s = record { tonnes = s.tonnes; grams = s.grams; sources = s.sources }

abbrev pub report_in : Report → report.Report
report_in r =
    record {
      project = side_meaning r.project;
      leakage = side_meaning r.leakage;
      baseline = side_meaning r.baseline;
      reduction = r.reduction;
    }

abbrev pub no_report_meaning : NoReport → Reply
no_report_meaning Damaged = damaged
no_report_meaning (Refused r) = refused_with (number_of r)
no_report_meaning (RefusedAt r k) = refused_at (number_of r) k

-- Of a report.
abbrev pub report_meaning : Result Report NoReport → Reply
report_meaning (Ok r) = reported (report_in r)
report_meaning (Err n) = no_report_meaning n
