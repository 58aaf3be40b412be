-- What the steps inside the report answer. Only contracts of private functions cite these; the rules are in `Report`.
use Rattle.std.specs.Prelude.{ℕ, ◌+◌, ◌*◌, ◌≤◌, ◌≡◌, Bool, true, false, cond, List, [], ◌∷◌, map, length, get_or, leb}
use Rattle.std.specs.Prelude.{ℤ, Option, None, Some, Result, Ok, Err, MatchOption}
use Rattle.rounding.specs.Divided.{divided, sum}
use Rattle.rounding.specs.declared.Direction.{Direction}
use Rattle.rounding.specs.declared.Direction.TheVariants.{Up, Down}
use Rattle.rounding.specs.declared.refusal.Refusal.{Refusal}
use Rattle.rounding.specs.Outcome.{Outcome, refused, given, refuse_unless, and_then, map_given, outcome_of}
use Rattle.emissions.specs.Factor.{direction, factor_limit, captive_judged, Site, chosen}
use Rattle.emissions.specs.Loss.{loss_of}
use Rattle.emissions.specs.Figure as figure
use Rattle.emissions.specs.Figure.{energy_limit}
use Rattle.emissions.specs.declared.Consumption.{Consumption}
use Rattle.emissions.specs.declared.Grid.{Grid}
use Rattle.emissions.specs.declared.Side.{Side}
use Rattle.emissions.specs.declared.Side.TheVariants.{Project, Leakage, Baseline}
use Rattle.emissions.specs.declared.Supply.{Supply}
use Rattle.fuel.specs.declared.BothWays.{BothWays}
use Rattle.fuel.specs.declared.FuelLine.{FuelLine}
use Rattle.records.specs.Heat.{heat_judged}
use Rattle.records.specs.Judging.{last_site, generation_limit, lines_of, all_within_limits}
use Rattle.records.specs.Records.{plant_place, source_place}
use Rattle.records.specs.declared.Plant.{Plant}
use Rattle.records.specs.declared.Source.{Source}
use Rattle.report.specs.Answers.{no_report_meaning}
use Rattle.report.specs.Heat.{lines_milligrams, allocated}
use Rattle.report.specs.Intact.{plant_intact, plants_intact, sources_intact}
use Rattle.report.specs.Report.{Numbered, standing, plants_in, consumption, compares_factor, compares_loss}
use Rattle.report.specs.Report.{plant_milligrams, site_of, Figured, Figures, figured, with_figure, grams_in, of_side}
use Rattle.report.specs.Report.{side_limit, all_fit, Reply, refused_with, reported, reply_from, PlainPlant, plain_of}
use Rattle.report.specs.Report as report
use Rattle.report.specs.declared.NoReport.{NoReport}
use Rattle.report.specs.declared.Totals.{Totals}
use Rattle.report.specs.declared.SiteSums.{SiteSums}
use Rattle.report.specs.declared.SideSum.{SideSum}
use Rattle.report.specs.declared.Sums.{Sums}

-- ---- bounds that follow from the limits of entries

-- The milligrams of a plant: 4 fuel lines, each at most 100,000,000 × 150,000 × 200,000 ÷ 1,000.
abbrev pub plant_bound : ℕ
plant_bound = 12000000000000000

-- The grams of a figure: 150,000,000,000 Wh with losses at 10,000,000 mg/kWh.
abbrev pub figure_bound : ℕ
figure_bound = 1500000000000

-- The tonnes of a side: its limit in grams ÷ 1,000,000.
abbrev pub tonnes_bound : ℕ
tonnes_bound = 1000000000

-- The plants that the records show.
abbrev pub site_plants : List (Option Plant) → List (Numbered PlainPlant)
site_plants rs = plants_in (plant_place rs)

-- What one source adds to the consumption of those that count.
abbrev pub of_direction : Direction → ℕ → Consumption
of_direction Up E = record { project = E; baseline = 0; projects = 1; baselines = 0 }
of_direction Down E = record { project = 0; baseline = E; projects = 0; baselines = 1 }

abbrev pub no_consumption : Consumption
no_consumption = record { project = 0; baseline = 0; projects = 0; baselines = 0 }

abbrev pub no_totals : Totals
no_totals = record { factor = no_consumption; loss = no_consumption }

abbrev pub summed : Consumption → Consumption → Consumption
summed a b =
    record {
      project = a.project + b.project;
      baseline = a.baseline + b.baseline;
      projects = a.projects + b.projects;
      baselines = a.baselines + b.baselines;
    }

-- The consumption of at most n sources within their limit.
pub record ConsumptionWithin (n : ℕ) (c : Consumption) : Type 0 where
  pub project : c.project ≤ n * energy_limit
  pub baseline : c.baseline ≤ n * energy_limit
  pub projects : c.projects ≤ n
  pub baselines : c.baselines ≤ n

pub record TotalsWithin (n : ℕ) (t : Totals) : Type 0 where
  pub factor : ConsumptionWithin n t.factor
  pub loss : ConsumptionWithin n t.loss

-- Sums with what stands under one more number: the consumption of those that count, and the totals.
abbrev pub with_share : (Supply → Bool) → Consumption → Option Source → Consumption
with_share counts c None = c
with_share counts c (Some s) = cond (counts s.supply) (summed c (of_direction (direction s.side) s.energy)) c

abbrev pub totals_with : Totals → Option Source → Totals
totals_with t o = record { factor = with_share compares_factor t.factor o; loss = with_share compares_loss t.loss o }

abbrev pub totals_of : (ℕ → Option Source) → Totals
totals_of place =
    record {
      factor = consumption compares_factor (standing place 0 32);
      loss = consumption compares_loss (standing place 0 32);
    }

-- The totals, where all sources are intact.
abbrev pub totals_summed : List (Option Source) → Option Totals
totals_summed sources = cond (sources_intact sources) (Some (totals_of (source_place sources))) None

-- ---- the sums of a site

-- The milligrams of fuel lines where all are within their limits, each at most the bound of four.
abbrev pub lines_summed : List FuelLine → Option BothWays
lines_summed ls =
    cond (all_within_limits ls) (Some (record { up = lines_milligrams Up ls; down = lines_milligrams Down ls })) None

pub record LinesWithin (s : BothWays) : Type 0 where
  pub up : s.up ≤ plant_bound
  pub down : s.down ≤ plant_bound

-- What counts of a plant's milligrams R for baseline, by what is judged of its heat H: none where it is refused.
abbrev pub electricity_by : ℕ → ℕ → Outcome (Option ℕ) → Option ℕ
electricity_by H R (refused n) = None
electricity_by H R (given None) = Some R
electricity_by H R (given (Some J)) = Some (allocated J H R)

abbrev pub electricity_of : Plant → ℕ → Option ℕ
electricity_of p R = electricity_by p.heat R (heat_judged p.heat p.count (lines_of p))

-- What a plant adds at its site, and what the report sums up of it, where it is intact.
abbrev pub plant_sums : PlainPlant → SiteSums
plant_sums p = record { up = plant_milligrams Up p; down = plant_milligrams Down p; generation = p.generation }

abbrev pub plant_summed : Plant → Option SiteSums
plant_summed p = cond (plant_intact (Some p)) (Some (plant_sums (plain_of p))) None

abbrev pub no_plants : SiteSums
no_plants = record { up = 0; down = 0; generation = 0 }

abbrev pub site_plus : SiteSums → SiteSums → SiteSums
site_plus a b = record { up = a.up + b.up; down = a.down + b.down; generation = a.generation + b.generation }

-- The sums of at most n plants within their limits.
pub record SiteWithin (n : ℕ) (s : SiteSums) : Type 0 where
  pub up : s.up ≤ n * plant_bound
  pub down : s.down ≤ n * plant_bound
  pub generation : s.generation ≤ n * generation_limit

-- The sums of a site, and those of all sites where all plants are intact.
abbrev pub site_sums : Site → SiteSums
site_sums s = record { up = s.milligrams Up; down = s.milligrams Down; generation = s.generation }

pub record SitesAre (plants : List (Option Plant)) (sites : List SiteSums) : Type 0 where
  pub intact : plants_intact plants ≡ true
  pub sums : (S : ℕ) → S ≤ last_site → get_or sites S no_plants ≡ site_sums (site_of (site_plants plants) S)

abbrev pub SitesOf : List (Option Plant) → Option (List SiteSums) → Type 0
SitesOf plants r = MatchOption r (plants_intact plants ≡ false) (SitesAre plants)

-- ---- the table of site factors, a row for each site, a column for each direction

abbrev pub column_for : Direction → ℕ
column_for Up = 0
column_for Down = 1

-- By the site that a supply names. Where it names none any row will do.
abbrev pub row_for : Option ℕ → ℕ
row_for None = 0
row_for (Some S) = S

-- The factor of a row in a direction, or its refusal; past the row refusal 0, which is no rule's number. So with a table,
-- at a site.
abbrev pub in_row : List (Result ℕ Refusal) → Direction → Outcome ℕ
in_row row dir = get_or (map outcome_of row) (column_for dir) (refused 0)

abbrev pub in_table : List (List (Result ℕ Refusal)) → Direction → ℕ → Outcome ℕ
in_table factors dir S = in_row (get_or factors S []) dir

-- What the row of a site's sums has, and the table of all sites'.
abbrev pub milligrams_in : Direction → SiteSums → ℕ
milligrams_in Up s = s.up
milligrams_in Down s = s.down

abbrev pub RowOf : SiteSums → List (Result ℕ Refusal) → Type 0
RowOf s row = (dir : Direction) → in_row row dir ≡ captive_judged dir (milligrams_in dir s) s.generation

abbrev pub TableOf : List SiteSums → List (List (Result ℕ Refusal)) → Type 0
TableOf sites factors = (S : ℕ) → S ≤ last_site → RowOf (get_or sites S no_plants) (get_or factors S [])

-- Every factor that is given is at most 10,000,000.
abbrev pub CaptiveWithin : Outcome ℕ → Type 0
CaptiveWithin o = (F : ℕ) → o ≡ given F → F ≤ factor_limit

abbrev pub TableWithin : List (List (Result ℕ Refusal)) → Type 0
TableWithin factors = (dir : Direction) (S : ℕ) → CaptiveWithin (in_table factors dir S)

-- Every row has a place for each direction.
abbrev pub TableFull : List (List (Result ℕ Refusal)) → Type 0
TableFull factors = (S : ℕ) → S ≤ last_site → length (get_or factors S []) ≡ 2

-- ---- the figure of a source

-- By the totals and by what is judged of each site in the source's direction.
abbrev pub figure_at : Option Grid → (ℕ → Outcome ℕ) → Totals → Source → Outcome figure.Figure
figure_at grid captive_at t s =
    and_then (chosen (direction s.side) grid captive_at t.factor s.supply) (λ x.
    and_then (loss_of (direction s.side) t.loss s.loss) (λ T.
    given (figure.figure_of (direction s.side) s.energy x.choice T x.factor)))

-- Its grams.
abbrev pub grams_at : Option Grid → (ℕ → Outcome ℕ) → Totals → Source → Outcome ℕ
grams_at grid captive_at t s = map_given (λ (f : figure.Figure). f.grams) (figure_at grid captive_at t s)

-- By a table, whatever it was made of.
abbrev pub table_figure : Option Grid → List (List (Result ℕ Refusal)) → Totals → Source → Outcome figure.Figure
table_figure grid factors t s = figure_at grid (in_table factors (direction s.side)) t s

-- The figures of a list of sources, where `figure_of` gives that of each.
unfoldable pub figures_by : (Source → Outcome figure.Figure) → List (Numbered Source) → Figures
figures_by figure_of [] = figured []
figures_by figure_of (x ∷ xs) = with_figure x (figure_of x.item) (figures_by figure_of xs)

-- The answer to a report with the figures by a table.
abbrev pub table_reply : Option Grid → List (List (Result ℕ Refusal)) → Totals → List (Option Source) → Reply
table_reply grid factors t sources =
    reply_from (figures_by (table_figure grid factors t) (standing (source_place sources) 0 32))

-- ---- the sums by side

abbrev pub no_sums : Sums
no_sums =
    record {
      project = record { grams = 0; sources = 0 };
      leakage = record { grams = 0; sources = 0 };
      baseline = record { grams = 0; sources = 0 };
    }

abbrev pub one_more : SideSum → ℕ → SideSum
one_more s g = record { grams = s.grams + g; sources = s.sources + 1 }

abbrev pub with_grams : Sums → Side → ℕ → Sums
with_grams s Project g = record { project = one_more s.project g; leakage = s.leakage; baseline = s.baseline }
with_grams s Leakage g = record { project = s.project; leakage = one_more s.leakage g; baseline = s.baseline }
with_grams s Baseline g = record { project = s.project; leakage = s.leakage; baseline = one_more s.baseline g }

-- The sums of at most n sources, each within the bound of a figure's grams.
pub record SideBounded (n : ℕ) (s : SideSum) : Type 0 where
  pub grams : s.grams ≤ n * figure_bound
  pub sources : s.sources ≤ n

pub record Bounded (n : ℕ) (s : Sums) : Type 0 where
  pub project : SideBounded n s.project
  pub leakage : SideBounded n s.leakage
  pub baseline : SideBounded n s.baseline

unfoldable pub side_sum : Side → List Figured → SideSum
side_sum side fs = record { grams = sum (map grams_in (of_side side fs)); sources = length (of_side side fs) }

abbrev pub sums_of : List Figured → Sums
sums_of fs = record { project = side_sum Project fs; leakage = side_sum Leakage fs; baseline = side_sum Baseline fs }

-- ---- the answer

abbrev pub side_from : Side → SideSum → report.SideReport
side_from side s = record { tonnes = divided (direction side) s.grams 1000000; grams = s.grams; sources = s.sources }

-- "After all sources, 13 a side above 1,000,000,000,000,000 grams."
abbrev pub side_judged : Side → SideSum → Outcome report.SideReport
side_judged side s = refuse_unless 13 (leb s.grams side_limit) (given (side_from side s))

abbrev pub reduction_of : ℕ → ℕ → ℕ → ℤ
reduction_of b p l = report.reduction b p l

abbrev pub summary : Sums → report.Report
summary s =
    record {
      project = side_from Project s.project;
      leakage = side_from Leakage s.leakage;
      baseline = side_from Baseline s.baseline;
      reduction =
          reduction_of (side_from Baseline s.baseline).tonnes (side_from Project s.project).tonnes
          (side_from Leakage s.leakage).tonnes;
    }

unfoldable pub reported_of : Sums → Reply
reported_of s = cond (all_fit (summary s)) (reported (summary s)) (refused_with 13)

-- What the report answers once the walk has summed up, or was refused.
abbrev pub walked_meaning : Result Sums NoReport → Reply
walked_meaning (Ok s) = reported_of s
walked_meaning (Err r) = no_report_meaning r
