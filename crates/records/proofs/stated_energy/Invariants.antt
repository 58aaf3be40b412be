use mathlib.Core.Path.{◌≡◌}
use lib.ListN.{drop}
use Rattle.fuel.specs.Fuel.{line_energy, states_energy, all_lines}
use Rattle.records.proofs.Lines.{SumBefore}
use Rattle.records.proofs.stated_energy.Given as goal

-- What is summed up and the lines that are left come to the energy of all, at most 15,000,000,000,000 kJ a line, and
-- the lines that are left decide whether each states its own.
abbrev pub invariant-loop-line : goal.invariant-loop-line
invariant-loop-line l =
    record {
      summed : SumBefore line_energy 15000000000000 l.lines l.line-index l.total;
      stated : all_lines states_energy (drop l.line-index l.lines) ≡ all_lines states_energy l.lines;
    }
