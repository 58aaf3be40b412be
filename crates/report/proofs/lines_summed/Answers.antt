-- `report::lines_summed` meets its contract: line by line what is summed up stays that of the lines before, at most
-- 3,000,000,000,000,000 mg a line. Assumes nothing.
use Prim.Native.Nat.{◌+◌}
use native.Mathlib.Omega.{arith}
use Rattle.report.proofs.Summing.{LinesBefore, line-both, line-none, lines-start, lines-stop, lines-turn, lines-end}
use Rattle.report.proofs.lines_summed.Goals as goal
use Rattle.report.proofs.lines_summed.Goals.{In_ok-rounded}

pub loop-line-init : goal.loop-line-init
loop-line-init c = lines-start c.args.lines.now

pub returns-in_err-rounded-clause-summed : goal.returns-in_err-rounded-clause-summed
returns-in_err-rounded-clause-summed c =
    rw (
      c.from_residual.ensures,
      lines-stop c.args.lines.now c.loop-line.line-index c.loop-line.sums c.loop-line.invariant c.loop-line-test.true _
          (line-none _ _ c.in_err-rounded.ensures.value c.milligrams.ensures.up),
    )

-- The sums with the line.
turn : (c : In_ok-rounded) → let s = c.loop-line.sums in let b = c.in_ok-rounded.rounded in
    LinesBefore c.args.lines.now (c.loop-line.line-index + 1) (record { up = s.up + b.up; down = s.down + b.down })
turn c =
    lines-turn c.args.lines.now c.loop-line.line-index c.loop-line.sums c.loop-line.invariant c.loop-line-test.true _
    c.in_ok-rounded.rounded
    (line-both _ _ _ c.in_ok-rounded.ensures.value c.milligrams.ensures.up c.milligrams.ensures.down)

pub overflow_add-sums : goal.overflow_add-sums
overflow_add-sums c = record { fits = omega (arith, (turn (goal.at.overflow_add-sums c).In_ok-rounded).up.bound) }

pub overflow_add-sums-in-loop-line : goal.overflow_add-sums-in-loop-line
overflow_add-sums-in-loop-line c =
    record { fits = omega (arith, (turn (goal.at.overflow_add-sums-in-loop-line c).In_ok-rounded).down.bound) }

pub loop-line-preserved : goal.loop-line-preserved
loop-line-preserved c = turn (goal.at.loop-line-preserved c).In_ok-rounded

pub returns : goal.returns
returns c =
    let k = c.loop-line.invariant in
    record {
      summed = lines-end c.args.lines.now c.loop-line.line-index c.loop-line.sums k c.loop-line-test.false;
      bound = record { up = omega (arith, k.up.bound); down = omega (arith, k.down.bound) };
    }
