use mathlib.Core.Path.{◌≡◌}
use mathlib.Core.List.{◌++◌}
use Prim.Native.Nat.{◌+◌, ◌-◌, ◌≤◌}
use lib.ListN.{take, drop}
use Rattle.text.specs.Digits.{digits}
use Rattle.text.proofs.put_digits.Given as goal

abbrev pub invariant-loop-i : goal.invariant-loop-i
invariant-loop-i l = record {
  down : l.at ≤ l.i;
  digits : digits l.base (l.i - l.at) l.rest ++ drop l.i l.buffer ≡ digits l.base l.count l.number ++ drop (l.at + l.count) l.initial.buffer;
  before : take l.at l.buffer ≡ take l.at l.initial.buffer;
}
