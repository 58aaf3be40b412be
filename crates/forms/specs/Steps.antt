-- What the steps of the code answer. Only contracts of private functions cite these.
use Rattle.std.specs.Prelude.{ℕ, zero, suc, ◌+◌, List, [], ◌∷◌, length, set, Option}
use Rattle.std.specs.Borrow.{Bor}
use Rattle.text.specs.Read.{Read, map_read, read_meaning}
use Rattle.ledger.specs.Standing as ledger
use Rattle.forms.specs.Reading.{followed}
use Rattle.forms.specs.Calls.{call_meaning}
use Rattle.forms.specs.declared.Call.{Call}

-- What a line opens with, and the rest of the line.
abbrev pub opening_meaning : Option (Call × Bor (List ℕ)) → Option (Read ledger.Call)
opening_meaning o = map_read call_meaning (read_meaning o)

-- As many parts as a text begins with, one after the other, where one of them is read so; a text has no more of them
-- than bytes.
unfoldable pub parts_within : {A : Type 0} → (List ℕ → Option (Read A)) → ℕ → List ℕ → Read (List A)
parts_within part_in zero t = record { value = []; rest = t }
parts_within part_in (suc most) t = followed t (part_in t) (parts_within part_in most)

abbrev pub parts_in : {A : Type 0} → (List ℕ → Option (Read A)) → List ℕ → Read (List A)
parts_in part_in t = parts_within part_in (length t) t

-- Places with parts put into them one after the other from place n on; a part that has no place is left out.
unfoldable pub placed_from : {A : Type 0} → ℕ → List A → List A → List A
placed_from n places [] = places
placed_from n places (part ∷ parts) = placed_from (n + 1) (set places n part) parts
