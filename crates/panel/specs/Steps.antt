-- What the steps of the code leave. Only contracts of private functions cite these.
use Rattle.std.specs.Prelude.{ℕ, ◌≤◌, List, length, take, Option, None, Some}
use Rattle.answers.specs.Typed.{NoLf}

-- What the reading of a line leaves in the buffer: the line is the first so many bytes, without an LF.
abbrev pub Kept : List ℕ → Option ℕ → Type 0
Kept buffer None = Unit {0}
Kept buffer (Some count) = (count ≤ length buffer) × NoLf (take count buffer)
