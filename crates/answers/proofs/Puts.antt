-- Answers that are put part by part. Assumes nothing.
use Rattle.std.specs.Prelude.{Option, None}
use mathlib.Core.Path.{◌≡◌}
use mathlib.Core.List.{List}
use Prim.Native.Nat.{ℕ}
use Rattle.text.specs.Parts.{placed, put_parts}
use Rattle.text.proofs.Puts.{put_none}

-- Where a part did not fit, the others are not put.
pub stopped : {d : List ℕ} {r : Option ℕ} (ws : List (List ℕ)) → r ≡ None → placed d r ≡ put_parts (placed d None) ws
stopped {d} ws e = rw e (put_none d ws)
