-- A fact of every element of a list. The library's `All` goes by index; this one goes by the list's cases, as the laws
-- of sums do.
use Rattle.std.specs.Prelude.{List, [], ◌∷◌}

abbrev pub All : {A : Type 0} → (A → Type 0) → List A → Type 0
All P [] = Unit {0}
All P (x ∷ xs) = P x × All P xs
