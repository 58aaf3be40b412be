-- What the answers to a line mean, and their text (document 01, "The text the program tally reads": "Each line prints
-- .."), part by part.
use Rattle.std.specs.Prelude.{ℕ, List, [], ◌∷◌, ◌++◌, Result, Ok, Err}
use Rattle.text.specs.Word.{bytes}
use Rattle.text.specs.Decimal.{decimal, signed_decimal}
use Rattle.text.specs.Parts.{joined_text}
use Rattle.report.specs.Report.{SideReport, Report, Reply, ok, refused_with, refused_at, reported, damaged}
use Rattle.report.specs.Answers.{report_in, no_report_meaning}
use Rattle.report.specs.declared.NoReport.{NoReport}
use Rattle.answers.specs.declared.line.Answer.{Answer}
use Rattle.answers.specs.declared.line.Answer.TheVariants as answer

-- What an answer of the code means, in the paper's number and values.
abbrev pub reply_meaning : Result Answer NoReport → Reply
reply_meaning (Ok answer.Done) = ok
reply_meaning (Ok (answer.Report r)) = reported (report_in r)
reply_meaning (Err n) = no_report_meaning n

-- "side, tonnes, grams, sources".
abbrev pub side_parts : List ℕ → SideReport → List (List ℕ)
side_parts side s =
    side ∷ decimal s.tonnes ∷ bytes " " ∷ decimal s.grams ∷ bytes " " ∷ decimal s.sources ∷ bytes "\n" ∷ []

-- "four lines: side, tonnes, grams, sources; then reduction".
unfoldable pub report_parts : Report → List (List ℕ)
report_parts r =
    side_parts (bytes "project ") r.project
    ++ (side_parts (bytes "leakage ") r.leakage
    ++ (side_parts (bytes "baseline ") r.baseline
    ++ (bytes "reduction " ∷ signed_decimal r.reduction ∷ bytes "\n" ∷ [])))

-- "Each line prints `ok`, `refused N`, or for a report `refused N source K` (no source part with 13) or four lines". No
-- list of calls is answered `damaged` (`never-damaged`).
unfoldable pub reply_parts : Reply → List (List ℕ)
reply_parts ok = bytes "ok\n" ∷ []
reply_parts (refused_with n) = bytes "refused " ∷ decimal n ∷ bytes "\n" ∷ []
reply_parts (refused_at n k) = bytes "refused " ∷ decimal n ∷ bytes " source " ∷ decimal k ∷ bytes "\n" ∷ []
reply_parts (reported r) = report_parts r
reply_parts damaged = bytes "damaged\n" ∷ []

abbrev pub reply_text : Reply → List ℕ
reply_text r = joined_text (reply_parts r)
