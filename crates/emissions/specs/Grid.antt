-- The grid: when its entry is refused, and what is kept of it (document 01, "How each operation declines"; document 02,
-- wish 1).
use Rattle.std.specs.Prelude.{◌+◌, Bool, true, false, ◌&&◌, leb, eqb, Option, None, Some}
use Rattle.rounding.specs.Outcome.{Outcome, refused, given, refuse_unless}
use Rattle.rounding.specs.declared.Direction.TheVariants.{Up, Down}
use Rattle.emissions.specs.Factor.{factor_limit, rounded_combined}
use Rattle.emissions.specs.declared.CombinedMargin.{CombinedMargin}
use Rattle.emissions.specs.declared.CombinedMargin.TheVariants.{Stated, Mean}
use Rattle.emissions.specs.declared.GridEntry.{GridEntry}
use Rattle.emissions.specs.declared.Grid.{Grid}

-- "Grid entry: 2 factor above 10,000,000"; "two margins in mg/kWh (at most 10,000,000 each)", whatever their weights.
abbrev pub margin_within_limits : CombinedMargin → Bool
margin_within_limits (Stated F) = leb F factor_limit
margin_within_limits (Mean m) = leb m.operating factor_limit && leb m.build factor_limit

-- "two weights in percent" that sum to 100.
abbrev pub weights_full : CombinedMargin → Bool
weights_full (Stated F) = true
weights_full (Mean m) = eqb (m.weights.operating + m.weights.build) 100

-- The grid that an entry leaves: "The grid record keeps the mean rounded both ways", beside the entry as made.
abbrev pub entered_grid : GridEntry → Grid
entered_grid g = record { entry = g; up = rounded_combined Up g.margin; down = rounded_combined Down g.margin }

-- "A margin above its limit is refused 2, then weights that don't sum to 100 are refused 15."
unfoldable pub grid_judged : GridEntry → Outcome Grid
grid_judged g =
    refuse_unless 2 (margin_within_limits g.margin) (refuse_unless 15 (weights_full g.margin) (given (entered_grid g)))

-- Whether a grid is one that an entry leaves: what its own entry leaves has the same roundings.
abbrev pub same_roundings : Grid → Outcome Grid → Bool
same_roundings g (refused n) = false
same_roundings g (given left) = eqb left.up g.up && eqb left.down g.down

abbrev pub grid_intact : Option Grid → Bool
grid_intact None = true
grid_intact (Some g) = same_roundings g (grid_judged g.entry)
