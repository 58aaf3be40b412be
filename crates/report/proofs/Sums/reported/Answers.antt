-- `report::Sums::reported` meets its contract: where no side is above the limit, the tonnes are small enough for 64
-- bits to hold the reduction. Assumes nothing.
use Prim.Native.Nat.{◌≤◌}
use mathlib.Core.Path.{◌≡◌, sym, ap}
use native.Mathlib.Omega.{arith}
use lib.IntN.{ℤ}
use borrow.Author.Tests.{leb-true, le-leb}
use mir.Syntax.{w64}
use mir.Val.{of_z, to_z}
use Rattle.rounding.specs.Outcome.{given}
use Rattle.rounding.proofs.Divided.{divided-at-most}
use Rattle.rounding.proofs.Outcomes.{given_is, test-held}
use Rattle.emissions.specs.Factor.{direction}
use Rattle.emissions.specs.declared.Side.{Side}
use Rattle.emissions.specs.declared.Side.TheVariants.{Project, Leakage, Baseline}
use Rattle.report.specs.Report as report
use Rattle.report.specs.Answers.{side_meaning, report_in}
use Rattle.report.specs.Steps.{side_from, side_judged, reduction_of, reported_of}
use Rattle.report.specs.declared.SideSum.{SideSum}
use Rattle.report.specs.declared.Sums.{Sums}
use Rattle.report.specs.declared.SideReport.{SideReport}
use Rattle.report.proofs.Signed.{reduction-read}
use Rattle.report.proofs.Sums.reported.Goals as goal

-- A side of the report: what is reported of sums within the limit, and so at most 1,000,000,000 tonnes.
record IsSide (side : Side) (s : SideSum) (r : SideReport) : Type 0 where
  limit : s.grams ≤ 1000000000000000
  values : side_meaning r ≡ side_from side s
  tonnes : r.tonnes ≤ 1000000000

side-given : (side : Side) (s : SideSum) (r : SideReport) → given (side_meaning r) ≡ side_judged side s
    → IsSide side s r
side-given side s r e =
    let p = test-held 13 _ _ (sym e) in
    let limit : s.grams ≤ 1000000000000000 = leb-true _ _ p.0 in
    let values : side_meaning r ≡ side_from side s = sym (given_is p.1) in
    record {
      limit = limit;
      values = values;
      tonnes =
          rw (ap (λ (x : report.SideReport). x.tonnes) values)
          (divided-at-most (direction side) s.grams 1000000 1000000000 (omega arith) (omega arith));
    }

pub reduction-requires : goal.reduction-requires
reduction-requires c =
    let s = c.args.self.now in (
      (side-given Baseline s.baseline _ c.in_ok-baseline.ensures).tonnes,
      (side-given Project s.project _ c.in_ok-project.ensures).tonnes,
      (side-given Leakage s.leakage _ c.in_ok-leakage.ensures).tonnes,
    )

-- The report of three sides.
within : (s : Sums) (p l b : SideReport) (r : ℤ) → IsSide Project s.project p → IsSide Leakage s.leakage l
    → IsSide Baseline s.baseline b
    → r ≡ reduction_of b.tonnes p.tonnes l.tonnes
    → report.reported
    (report_in (record { project = p; leakage = l; baseline = b; reduction = to_z w64 (of_z w64 r) })) ≡ reported_of s
unfolding reported_of
within s p l b r hp hl hb e =
    rw (
      e,
      reduction-read hb.tonnes hp.tonnes hl.tonnes,
      le-leb s.project.grams 1000000000000000 hp.limit,
      le-leb s.leakage.grams 1000000000000000 hl.limit,
      le-leb s.baseline.grams 1000000000000000 hb.limit,
    ) (cc (hp.values, hl.values, hb.values))

pub returns : goal.returns
returns c =
    let s = c.args.self.now in
    within s _ _ _ _
    (side-given Project s.project _ c.in_ok-project.ensures)
    (side-given Leakage s.leakage _ c.in_ok-leakage.ensures)
    (side-given Baseline s.baseline _ c.in_ok-baseline.ensures)
    c.reduction.ensures
