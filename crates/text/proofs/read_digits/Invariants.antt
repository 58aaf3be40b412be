use mathlib.Core.Path.{◌≡◌}
use mathlib.Core.List.{List}
use Prim.Native.Nat.{ℕ, ◌+◌, ◌-◌, ◌^◌, ◌<◌}
use lib.ListN.{length, take, drop}
use Rattle.text.specs.Digits.{leading_digits, value_after}
use Rattle.text.specs.Steps.{digits_in}
use Rattle.text.proofs.read_digits.Given as goal

-- The digits that are left to read after so many.
unfoldable pub left : List ℕ → ℕ → ℕ → ℕ → List ℕ
left text base most count = take (most - count) (leading_digits base (drop count text))

abbrev pub invariant-loop-i : goal.invariant-loop-i
invariant-loop-i l =
    let all = digits_in l.text l.base l.most in
    let rest = left l.text l.base l.most l.i in
    record {
      counted : l.digits.count ≡ l.i;
      written : value_after l.base l.digits.value rest ≡ all.value;
      many : l.i + length rest ≡ all.count;
      small : l.digits.value < l.base ^ l.i;
    }
