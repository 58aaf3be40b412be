-- What a text begins with, and what is left of it after that.
use Rattle.std.specs.Prelude.{List, ℕ, Option, None, Some}
use Rattle.std.specs.Borrow.{Bor}

-- What was read, and what is left of the text.
pub record Read (A : Type 0) : Type 0 where
  pub value : A
  pub rest : List ℕ

abbrev pub read : {A : Type 0} → A → List ℕ → Read A
read a t = record { value = a; rest = t }

-- The reading goes on with what is left, if there was anything to read.
abbrev pub on_read : {A B : Type 0} → Option (Read A) → (A → List ℕ → Option B) → Option B
on_read None k = None
on_read (Some r) k = k r.value r.rest

abbrev pub map_read : {A B : Type 0} → (A → B) → Option (Read A) → Option (Read B)
map_read f None = None
map_read f (Some r) = Some (record { value = f r.value; rest = r.rest })

-- What a reader's answer means: the value that it read, and what is left at the reference beside it.
abbrev pub read_meaning : {A : Type 0} → Option (A × Bor (List ℕ)) → Option (Read A)
read_meaning None = None
read_meaning (Some r) = Some (record { value = r.0; rest = r.1.now })
