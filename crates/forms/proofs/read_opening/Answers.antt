use Rattle.std.proofs.Common.{rules}
use Rattle.forms.specs.Reading.{opening_in}
use Rattle.forms.proofs.Lines.{else_mapped, else_first, else_second}
use Rattle.forms.proofs.read_opening.Goals as goal

pub returns-then-is_some : goal.returns-then-is_some
unfolding opening_in
returns-then-is_some c = simp else_mapped (search (rules, else_first, else_second))

pub returns-then-is_some-2 : goal.returns-then-is_some-2
unfolding opening_in
returns-then-is_some-2 c = simp else_mapped (search (rules, else_first, else_second))

pub returns-then-is_some-3 : goal.returns-then-is_some-3
unfolding opening_in
returns-then-is_some-3 c = simp else_mapped (search (rules, else_first, else_second))

pub returns-then-is_some-4 : goal.returns-then-is_some-4
unfolding opening_in
returns-then-is_some-4 c = simp else_mapped (search (rules, else_first, else_second))

pub returns : goal.returns
unfolding opening_in
returns c = simp else_mapped (search (rules, else_first, else_second))
