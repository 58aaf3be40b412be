-- The records of a ledger: under each number a plant or a source, or nothing (document 01, "The ledger and its exact
-- value").
use Rattle.std.specs.Prelude.{ℕ, List, get_or, Option, None}
use Rattle.records.specs.declared.Plant.{Plant}
use Rattle.records.specs.declared.Source.{Source}

-- What stands under a number.
abbrev pub plant_place : List (Option Plant) → ℕ → Option Plant
plant_place rs n = get_or rs n None

abbrev pub source_place : List (Option Source) → ℕ → Option Source
source_place rs n = get_or rs n None
