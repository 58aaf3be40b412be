-- Fuel lines, one after the other: what follows of a test and of a sum over them from line i on. Assumes nothing.
use Prim.Native.Nat.{ℕ, ◌+◌, ◌*◌, ◌≤◌, ◌<◌, zero-le}
use mathlib.Core.Path.{◌≡◌, ap}
use mathlib.Core.Bool.{Bool, true, ◌&&◌}
use mathlib.Core.List.{List, map}
use native.Mathlib.Omega.{arith}
use lib.ListN.{length, drop, get_or}
use Rattle.std.proofs.lemmas.List.{drop_more, drop_all}
use Rattle.rounding.specs.Divided.{sum}
use Rattle.fuel.specs.Fuel.{all_lines}
use Rattle.fuel.specs.declared.FuelLine.{FuelLine}

-- ---- a test

module _ (test : FuelLine → Bool) (ls : List FuelLine) (i : ℕ) where
  pub next-line : (d : FuelLine) (t : Bool) → i < length ls → test (get_or ls i d) ≡ t
      → all_lines test (drop i ls) ≡ (t && all_lines test (drop (i + 1) ls))
  unfolding all_lines
  next-line d t h e = rw (drop_more ls i d h, e)

  pub no_line_lem : length ls ≤ i → all_lines test (drop i ls) ≡ true
  unfolding all_lines
  no_line_lem h = rw (drop_all i ls h)

-- ---- a sum

-- What a figure of the lines before line i comes to: with that of the others it is that of all. It is at most so much
-- a line.
pub record SumBefore (figure : FuelLine → ℕ) (most : ℕ) (ls : List FuelLine) (i total : ℕ) : Type 0 where
  pub whole : total + sum (map figure (drop i ls)) ≡ sum (map figure ls)
  pub bound : total ≤ i * most

module _ (figure : FuelLine → ℕ) (most : ℕ) (ls : List FuelLine) where
  pub sum-start : SumBefore figure most ls 0 0
  sum-start = record { whole = omega arith; bound = zero-le }

  module _ (i total : ℕ) (before : SumBefore figure most ls i total) where
    pub sum-turn : (d : FuelLine) (w : ℕ) → i < length ls → w ≡ figure (get_or ls i d) → w ≤ most
        → SumBefore figure most ls (i + 1) (total + w)
    unfolding sum
    sum-turn d w h e k =
        record {
          whole = omega (arith, e, ap (λ (xs : List FuelLine). sum (map figure xs)) (drop_more ls i d h), before.whole);
          bound = omega (arith, k, before.bound);
        }

    pub sum-end : length ls ≤ i → total ≡ sum (map figure ls)
    unfolding sum
    sum-end h =
        let none_left : sum (map figure (drop i ls)) ≡ 0 = rw (drop_all i ls h) in
        omega (arith, none_left, before.whole)
