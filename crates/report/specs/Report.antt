-- The report on what stands (document 01, "Losses and factors", "Report", and "A report gives for each side ..").
use Rattle.std.specs.Prelude.{ℕ, zero, suc, Bool, true, false, cond, ◌&&◌, List, [], ◌∷◌, map, leb, eqb, ℤ, pos, ◌-ℤ◌}
use Rattle.std.specs.Prelude.{length, Option, None, Some, option_map}
use Rattle.rounding.specs.Divided.{divided, sum}
use Rattle.rounding.specs.Ratio.{Ratio, sumᵣ}
use Rattle.rounding.specs.declared.Direction.{Direction}
use Rattle.fuel.specs.declared.FuelLine.{FuelLine}
use Rattle.rounding.specs.Outcome.{Outcome, refused, given, and_then}
use Rattle.emissions.specs.Factor.{direction, Site, at_site, chosen}
use Rattle.emissions.specs.Loss.{is_project, is_baseline, loss_of}
use Rattle.emissions.specs.Figure.{Figure, figure_of}
use Rattle.emissions.specs.declared.Side.{Side}
use Rattle.emissions.specs.declared.Side.TheVariants.{Project, Leakage, Baseline}
use Rattle.emissions.specs.declared.Supply.{Supply}
use Rattle.emissions.specs.declared.Supply.TheVariants.{Combined, GridDefault, Captive, CaptiveDefault, Either}
use Rattle.emissions.specs.Grid.{grid_intact}
use Rattle.emissions.specs.declared.Grid.{Grid}
use Rattle.emissions.specs.declared.Consumption.{Consumption}
use Rattle.records.specs.Judging.{lines_of}
use Rattle.records.specs.Records.{plant_place, source_place}
use Rattle.report.specs.Heat.{electricity_milligrams, exact_electricity, heated_energy}
use Rattle.report.specs.Intact.{plant_intact, source_intact, all_intact}
use Rattle.records.specs.declared.Plant.{Plant}
use Rattle.records.specs.declared.Source.{Source}

-- What a report reads: the grid, and the plant and the source under each number.
pub record ReportInput : Type 0 where
  pub grid : Option Grid
  pub plant : ℕ → Option Plant
  pub source : ℕ → Option Source

-- What stands under `count` numbers from `from`, by rising number.
pub record Numbered (A : Type 0) : Type 0 where
  pub number : ℕ
  pub item : A

abbrev pub prepend_standing : {A : Type 0} → ℕ → Option A → List (Numbered A) → List (Numbered A)
prepend_standing n None l = l
prepend_standing n (Some a) l = record { number = n; item = a } ∷ l

unfoldable pub standing : {A : Type 0} → (ℕ → Option A) → ℕ → ℕ → List (Numbered A)
standing place from zero = []
standing place from (suc count) = prepend_standing from (place from) (standing place (suc from) count)

-- "Sources are numbered 0 to 31, plants 0 to 7".
abbrev pub sources_of : ReportInput → List (Numbered Source)
sources_of input = standing input.source 0 32

-- A plant as the rules read it: its site, its generation in kWh, its heat in kJ, and the fuel lines that count.
pub record PlainPlant : Type 0 where
  pub site : ℕ
  pub generation : ℕ
  pub heat : ℕ
  pub lines : List FuelLine

abbrev pub plain_of : Plant → PlainPlant
plain_of p = record { site = p.site; generation = p.generation; heat = p.heat; lines = lines_of p }

abbrev pub plain_at : (ℕ → Option Plant) → ℕ → Option PlainPlant
plain_at place n = option_map plain_of (place n)

abbrev pub plants_in : (ℕ → Option Plant) → List (Numbered PlainPlant)
plants_in place = standing (plain_at place) 0 8

abbrev pub plants_of : ReportInput → List (Numbered PlainPlant)
plants_of input = plants_in input.plant

-- Those of a list that pass a test.
unfoldable pub selected : {A : Type 0} → (A → Bool) → List A → List A
selected p [] = []
selected p (x ∷ xs) = cond (p x) (x ∷ selected p xs) (selected p xs)

-- ---- P, B, P' and B'

-- Whether a source counts: by its supply, and by whether it is a project or leakage source or a baseline source.
abbrev pub counts_in : (Supply → Bool) → (Direction → Bool) → Numbered Source → Bool
counts_in supplies sides x = supplies x.item.supply && sides (direction x.item.side)

abbrev pub energy_in : Numbered Source → ℕ
energy_in x = x.item.energy

-- "the sum of E over project and leakage sources with .. supply, B over baseline sources", and how many of each stand.
unfoldable pub consumption : (Supply → Bool) → List (Numbered Source) → Consumption
consumption supplies xs =
    record {
      project = sum (map energy_in (selected (counts_in supplies is_project) xs));
      baseline = sum (map energy_in (selected (counts_in supplies is_baseline) xs));
      projects = length (selected (counts_in supplies is_project) xs);
      baselines = length (selected (counts_in supplies is_baseline) xs);
    }

-- P and B: "with combined or griddefault supply".
abbrev pub compares_factor : Supply → Bool
compares_factor Combined = true
compares_factor GridDefault = true
compares_factor (Captive S) = false
compares_factor CaptiveDefault = false
compares_factor (Either S) = false

-- P' and B': "sums of E like P and B, over combined, griddefault and either".
abbrev pub compares_loss : Supply → Bool
compares_loss Combined = true
compares_loss GridDefault = true
compares_loss (Captive S) = false
compares_loss CaptiveDefault = false
compares_loss (Either S) = true

-- ---- a site

-- A plant's milligrams, rounded and exactly; and its J where it has heat.
unfoldable pub plant_milligrams : Direction → PlainPlant → ℕ
plant_milligrams dir p = electricity_milligrams dir p.heat p.lines

unfoldable pub exact_plant : Direction → PlainPlant → Ratio
exact_plant dir p = exact_electricity dir p.heat p.lines

unfoldable pub plant_heated : PlainPlant → ℕ
plant_heated p = heated_energy p.heat p.lines

-- "each plant at S".
unfoldable pub plants_at : ℕ → List (Numbered PlainPlant) → List PlainPlant
plants_at S xs = map item (selected (λ (x : Numbered PlainPlant). eqb x.item.site S) xs)
  where
    item : Numbered PlainPlant → PlainPlant
    item x = x.item

unfoldable pub site_of : List (Numbered PlainPlant) → ℕ → Site
site_of xs S =
    record {
      milligrams = λ dir. sum (map (plant_milligrams dir) (plants_at S xs));
      exact = λ dir. sumᵣ (map (exact_plant dir) (plants_at S xs));
      generation = sum (map (λ (p : PlainPlant). p.generation) (plants_at S xs));
      heated = sum (map plant_heated (plants_at S xs));
    }

-- The rounded captive factor of each site in a direction, or its refusal.
abbrev pub captive_at : Direction → List (Numbered PlainPlant) → ℕ → Outcome ℕ
captive_at dir plants S = at_site dir (site_of plants S)

-- ---- the figure of each source

-- "for each source, by rising number: 8 .. 9 .. 10 .. 11 .. 12".
unfoldable pub source_figure : ReportInput → Source → Outcome Figure
source_figure input s =
    and_then (chosen (direction s.side) input.grid (captive_at (direction s.side) (plants_of input))
    (consumption compares_factor (sources_of input)) s.supply) (λ x.
    and_then (loss_of (direction s.side) (consumption compares_loss (sources_of input)) s.loss) (λ T.
    given (figure_of (direction s.side) s.energy x.choice T x.factor)))

-- A source with its figure; or the first refusal, which "carries the source's number".
pub record Figured : Type 0 where
  pub number : ℕ
  pub side : Side
  pub figure : Figure

pub data Figures : Type 0 where
  declined : ℕ → ℕ → Figures
  figured : List Figured → Figures

abbrev pub prepended : Figured → Figures → Figures
prepended f (declined n k) = declined n k
prepended f (figured fs) = figured (f ∷ fs)

abbrev pub with_figure : Numbered Source → Outcome Figure → Figures → Figures
with_figure x (refused n) rest = declined n x.number
with_figure x (given f) rest = prepended (record { number = x.number; side = x.item.side; figure = f }) rest

unfoldable pub figures_from : ReportInput → List (Numbered Source) → Figures
figures_from input [] = figured []
figures_from input (x ∷ xs) = with_figure x (source_figure input x.item) (figures_from input xs)

-- ---- sides and the reduction

abbrev pub side_index : Side → ℕ
side_index Project = 0
side_index Leakage = 1
side_index Baseline = 2

unfoldable pub of_side : Side → List Figured → List Figured
of_side side fs = selected (λ (f : Figured). eqb (side_index f.side) (side_index side)) fs

-- "its grams (sum of source figures), its tonnes (grams ÷ 1,000,000, rounded as the side) and its number of standing
-- sources".
pub record SideReport : Type 0 where
  pub tonnes : ℕ
  pub grams : ℕ
  pub sources : ℕ

abbrev pub grams_in : Figured → ℕ
grams_in f = f.figure.grams

unfoldable pub side_report : Side → List Figured → SideReport
side_report side fs =
    record {
      tonnes = divided (direction side) (sum (map grams_in (of_side side fs))) 1000000;
      grams = sum (map grams_in (of_side side fs));
      sources = length (of_side side fs);
    }

-- "then the reduction: baseline less project less leakage tonnes, signed".
pub record Report : Type 0 where
  pub project : SideReport
  pub leakage : SideReport
  pub baseline : SideReport
  pub reduction : ℤ

unfoldable pub reduction : ℕ → ℕ → ℕ → ℤ
reduction baseline project leakage = pos baseline -ℤ pos project -ℤ pos leakage

unfoldable pub report_from : List Figured → Report
report_from fs =
    record {
      project = side_report Project fs;
      leakage = side_report Leakage fs;
      baseline = side_report Baseline fs;
      reduction =
          reduction (side_report Baseline fs).tonnes (side_report Project fs).tonnes (side_report Leakage fs).tonnes;
    }

-- ---- the answer to a report

-- An answer in the paper's numbers and values: accepted, refused with a number, refused with a number at a source, or a
-- report. `damaged` is the answer to a report on a ledger that no list of calls leaves, on which the paper says
-- nothing.
pub data Reply : Type 0 where
  ok : Reply
  refused_with : ℕ → Reply
  refused_at : ℕ → ℕ → Reply
  reported : Report → Reply
  damaged : Reply

-- "After all sources, 13 a side above 1,000,000,000,000,000 grams."
abbrev pub side_limit : ℕ
side_limit = 1000000000000000

abbrev pub side_fits : SideReport → Bool
side_fits s = leb s.grams side_limit

abbrev pub all_fit : Report → Bool
all_fit r = side_fits r.project && side_fits r.leakage && side_fits r.baseline

abbrev pub reply_from : Figures → Reply
reply_from (declined n k) = refused_at n k
reply_from (figured fs) = cond (all_fit (report_from fs)) (reported (report_from fs)) (refused_with 13)

unfoldable pub report_of : ReportInput → Reply
report_of input = reply_from (figures_from input (sources_of input))

-- The answer to an entry or a drop.
abbrev pub acknowledged : {A : Type 0} → Outcome A → Reply
acknowledged (refused n) = refused_with n
acknowledged (given a) = ok

-- ---- a report on records

-- What the records of a ledger show.
abbrev pub input_of_records : Option Grid → List (Option Plant) → List (Option Source) → ReportInput
input_of_records grid plants sources = record { grid = grid; plant = plant_place plants; source = source_place sources }

-- Whether everything that stands meets the limits that an accepted entry meets.
unfoldable pub intact : ReportInput → Bool
intact input =
    grid_intact input.grid && all_intact plant_intact input.plant 8 && all_intact source_intact input.source 32

-- The answer to a report on what records show: `damaged` where something that stands is not what an accepted entry
-- leaves.
unfoldable pub checked_report_of : ReportInput → Reply
checked_report_of input = cond (intact input) (report_of input) damaged
