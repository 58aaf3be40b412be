-- The exact energy with losses of bench row (h), and an exact mean of margins. Assumes nothing.
use lib.Dec.{lit≤}
use Rattle.rounding.specs.Ratio.{◌÷◌, whole, ◌≤ᵣ◌}
use Rattle.emissions.specs.Factor.{exact_combined}
use Rattle.emissions.specs.Figure.{exact_with_losses}
use Rattle.emissions.specs.declared.CombinedMargin.{CombinedMargin}
use Rattle.emissions.specs.declared.CombinedMargin.TheVariants.{Mean}

-- 1,000,001 Wh with a loss of 20 percent are 1,200,001.2 Wh.
pub losses-of-20-percent : (exact_with_losses (whole 1000001) 2000 ≤ᵣ 12000012 ÷ 10)
    × (12000012 ÷ 10 ≤ᵣ exact_with_losses (whole 1000001) 2000)
losses-of-20-percent = (lit≤ tt, lit≤ tt)

-- An operating margin of 1,000,001 at 30 percent and a build margin of 500,000 at 70 percent have the mean 650,000.3.
abbrev pub thirty_seventy : CombinedMargin
thirty_seventy = Mean record { operating = 1000001; build = 500000; weights = record { operating = 30; build = 70 } }

pub exact-mean : (exact_combined thirty_seventy ≤ᵣ 6500003 ÷ 10) × (6500003 ÷ 10 ≤ᵣ exact_combined thirty_seventy)
unfolding exact_combined
exact-mean = (lit≤ tt, lit≤ tt)
