-- Registers that a template was read with fit their fields, which hold them as they are. Assumes nothing.
use Prim.Native.Nat.{ℕ, ◌^◌, ◌≤◌, ◌<◌}
use mathlib.Core.Path.{◌≡◌}
use native.Mathlib.Omega.{arith}
use borrow.Author.Tests.{le-leb}
use Rattle.forms.specs.Calls.{at_most, word_field}

at-most-within : (limit n : ℕ) → n ≤ limit → at_most limit n ≡ n
at-most-within limit n h = rw (le-leb n limit h)

abbrev pub Fit : ℕ → ℕ → Type 0
Fit first last = (word_field first ≡ first) × (word_field last ≡ last)

pub registers-fit : (first : ℕ) → first < 2 ^ 32 → (last : ℕ) → last < 2 ^ 32 → Fit first last
registers-fit first h last k = (at-most-within _ first (omega arith), at-most-within _ last (omega arith))
