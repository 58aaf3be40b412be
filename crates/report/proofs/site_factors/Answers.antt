-- `report::site_factors` meets its contract: a factor that the tests of a captive factor let through is at most
-- 10,000,000, and each row has two places. Assumes nothing.
use Rattle.std.specs.Prelude.{Result}
use Rattle.std.proofs.Common.{rules}
use mathlib.Core.Path.{◌≡◌, sym, ◌∙◌}
use mathlib.Core.List.{List, [], ◌∷◌}
use native.Mathlib.Omega.{arith}
use lib.ListN.{length}
use Prim.Native.Nat.{ℕ, zero, suc}
use Rattle.rounding.specs.declared.Direction.{Direction}
use Rattle.rounding.specs.declared.refusal.Refusal.{Refusal}
use Rattle.rounding.proofs.Outcomes.{never-given}
use Rattle.emissions.proofs.Factors.{captive-given}
use Rattle.report.specs.Steps.{milligrams_in, in_row, RowOf, CaptiveWithin, TableWithin, TableFull}
use Rattle.report.specs.declared.SiteSums.{SiteSums}
use Rattle.report.proofs.site_factors.Goals as goal

-- The factors of a row are within the limit.
row_within : (s : SiteSums) (row : List (Result ℕ Refusal)) → RowOf s row → (dir : Direction)
    → CaptiveWithin (in_row row dir)
row_within s row h dir F e = (captive-given dir (milligrams_in dir s) s.generation F (sym (h dir) ∙ e)).2

-- Past the rows no factor is given.
within : (a b c d : List (Result ℕ Refusal)) → ((dir : Direction) → CaptiveWithin (in_row a dir))
    → ((dir : Direction) → CaptiveWithin (in_row b dir))
    → ((dir : Direction) → CaptiveWithin (in_row c dir)) → ((dir : Direction) → CaptiveWithin (in_row d dir))
    → TableWithin (a ∷ b ∷ c ∷ d ∷ [])
within a b c d wa wb wc wd dir zero = wa dir
within a b c d wa wb wc wd dir (suc zero) = wb dir
within a b c d wa wb wc wd dir (suc (suc zero)) = wc dir
within a b c d wa wb wc wd dir (suc (suc (suc zero))) = wd dir
within a b c d wa wb wc wd dir (suc (suc (suc (suc S)))) = λ F e. absurd (never-given e)

-- Four rows of two places are a full table.
full : (a b c d : List (Result ℕ Refusal)) → length a ≡ 2 → length b ≡ 2 → length c ≡ 2 → length d ≡ 2
    → TableFull (a ∷ b ∷ c ∷ d ∷ [])
full a b c d ha hb hc hd zero h = ha
full a b c d ha hb hc hd (suc zero) h = hb
full a b c d ha hb hc hd (suc (suc zero)) h = hc
full a b c d ha hb hc hd (suc (suc (suc zero))) h = hd
full a b c d ha hb hc hd (suc (suc (suc (suc S)))) h = absurd (omega arith)

pub returns-clause-bound : goal.returns-clause-bound
returns-clause-bound c =
    within _ _ _ _
    (row_within _ _ c.site_row.ensures) (row_within _ _ c.site_row-2.ensures)
    (row_within _ _ c.site_row-3.ensures) (row_within _ _ c.site_row-4.ensures)

pub returns-clause-full : goal.returns-clause-full
returns-clause-full c = full _ _ _ _ (search rules) (search rules) (search rules) (search rules)
