-- `records::stated_energy` meets its contract: a line that states no energy, or the energy of all. Assumes nothing.
use mathlib.Core.Path.{◌≡◌, sym, ◌∙◌}
use mathlib.Core.Bool.{Bool, true, false, ◌&&◌}
use Prim.Native.Nat.{◌+◌}
use native.Mathlib.Omega.{arith}
use lib.ListN.{get_or, drop}
use Rattle.rounding.proofs.Tests.{and_both}
use Rattle.fuel.specs.Fuel.{no_line, is_energy, line_energy, states_energy, all_lines}
use Rattle.fuel.specs.declared.FuelLine.{FuelLine}
use Rattle.fuel.proofs.Fuel.{line-energy-bound, energy-stated, energy-not-stated}
use Rattle.records.specs.Heat.{fuel_energy}
use Rattle.records.proofs.Lines.{next-line, no_line_lem, SumBefore, sum-turn, sum-end}
use Rattle.records.proofs.stated_energy.Goals as goal
use Rattle.records.proofs.stated_energy.Goals.{In-loop-line, In_ok-total}

-- The line in its turn, and what follows where it is found to state its energy or not.
abbrev line : In-loop-line → FuelLine
line c = get_or c.args.lines.now c.loop-line.line-index no_line

turn : (c : In-loop-line) (t : Bool) → states_energy (line c) ≡ t
    → let ls = c.args.lines.now in
    (t && all_lines states_energy (drop (c.loop-line.line-index + 1) ls)) ≡ all_lines states_energy ls
turn c t e =
    sym (next-line states_energy c.args.lines.now c.loop-line.line-index no_line t c.loop-line-test.true e)
    ∙ c.loop-line.invariant.stated

-- What the line stated, and what is summed up after it.
stated : (c : In_ok-total)
    → let l = line c.before.before.before.before in
    (states_energy l ≡ true) × (c.in_ok-total.field-0 ≡ line_energy l)
stated c = energy-stated _ _ (sym c.energy.ensures ∙ c.in_ok-total.was)

summed-on : (c : In_ok-total)
    → let i = c.loop-line.line-index in
    SumBefore line_energy 15000000000000 c.args.lines.now (i + 1) (c.loop-line.total + c.in_ok-total.field-0)
summed-on c =
    let l = line c.before.before.before.before in
    let g = stated c in
    let fits = line-energy-bound l (and_both (is_energy l) _ g.0).1 in
    sum-turn line_energy 15000000000000 c.args.lines.now c.loop-line.line-index _ c.loop-line.invariant.summed no_line _
    c.loop-line-test.true g.1 (omega (arith, g.1, fits))

pub returns-in_err-total : goal.returns-in_err-total
returns-in_err-total c =
    let none = energy-not-stated _ (sym c.energy.ensures ∙ c.in_err-total.was) in
    rw (c.from_residual.ensures, sym (turn c.before.before.before.before.before false none))

pub overflow_add-total : goal.overflow_add-total
overflow_add-total c = record { fits = omega (arith, (summed-on c).bound, c.requires, c.loop-line-test.true) }

pub loop-line-preserved : goal.loop-line-preserved
loop-line-preserved c = record { summed = summed-on c; stated = turn c.before.before.before.before true (stated c).0 }

pub returns : goal.returns
unfolding fuel_energy
returns c =
    let ls = c.args.lines.now in
    let h = c.loop-line-test.false in
    let all = sym c.loop-line.invariant.stated ∙ no_line_lem states_energy ls c.loop-line.line-index h in
    rw (all, sum-end line_energy 15000000000000 ls c.loop-line.line-index _ c.loop-line.invariant.summed h)
