-- A line that is kept byte by byte. Assumes nothing.
use Prim.Native.Nat.{ℕ, ◌+◌, ◌<◌}
use mathlib.Core.Path.{◌≡◌}
use mathlib.Core.List.{List}
use native.Mathlib.Numerals.{add-one}
use lib.ListN.{length, take, set}
use lib.Seq.{take-suc-set}
use Rattle.rounding.proofs.Ratio.{all_more}
use Rattle.answers.specs.Typed.{NoLf}

-- One byte more, which is no LF.
pub no-lf-more : (d : List ℕ) (n b : ℕ) → n < length d → (b ≡ 10 → ⊥) → NoLf (take n d)
    → NoLf (take (n + 1) (set d n b))
no-lf-more d n b k h t = rw (add-one n, take-suc-set d n b k) (all_more (λ (x : ℕ). x ≡ 10 → ⊥) (take n d) b t h)
