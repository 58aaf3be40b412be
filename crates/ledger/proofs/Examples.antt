-- Lists of calls with their answers, by computation: demand 3 has reports to speak of, its constants cannot be smaller,
-- and the rules are told from others that its inequalities would allow. Assumes nothing.
use Rattle.std.specs.Prelude.{Some}
use Prim.Native.Nat.{ℕ, ◌+◌, ◌*◌, ◌^◌, ◌<◌}
use mathlib.Core.Path.{◌≡◌, refl, sym, ap, subst, ◌∙◌}
use mathlib.Core.Bool.{Bool, true, false, cond, true≢false}
use mathlib.Core.List.{List, [], ◌∷◌}
use lib.Dec.{lit<, lit≤}
use lib.IntN.{pos, negsuc}
use lib.Ieee.{binary32, of_bits}
use lib.ListN.{length, get_or, take}
use Rattle.rounding.specs.Divided.{divided, sum}
use Rattle.rounding.specs.Ratio.{Ratio, ◌÷◌, whole, integer, ◌≤ᵣ◌, ◌+ᵣ◌, ◌*ᵣ◌, ◌per◌, sumᵣ}
use Rattle.rounding.specs.declared.Direction.TheVariants.{Up, Down}
use Rattle.rounding.specs.Calls.{after_calls, answers}
use Rattle.metering.specs.Reading.{exact_register, is_readable_register}
use Rattle.metering.specs.Energy.{exact_energy, rounded_adding, rounded_taking, judged_readings, judged_meters, settled_energy}
use Rattle.metering.specs.declared.Sign.{Sign}
use Rattle.metering.specs.declared.Sign.TheVariants.{Plus, Minus}
use Rattle.metering.specs.declared.Interval.TheVariants.{Counts, Singles}
use Rattle.metering.specs.declared.Meter.{Meter}
use Rattle.fuel.specs.Fuel.{within_limits, exact_milligrams, rounded_milligrams, is_energy, line_energy, all_lines}
use Rattle.fuel.specs.declared.FuelKind.TheVariants.{Energy, Mass, Volume}
use Rattle.fuel.specs.declared.FuelLine.{FuelLine}
use Rattle.rounding.specs.Outcome.{Outcome, refused, given}
use Rattle.emissions.specs.Factor.{combined, captive, exact_combined, rounded_combined, margin, exact_margin, grid_default, captive_judged, low_default, exact_captive, exact_factor_of, chosen}
use Rattle.emissions.specs.Loss.{loss_of}
use Rattle.emissions.specs.Figure.{energy_with_losses, grams_of, exact_grams, heat_ratio, gap_limit, gap_allowance, figure_of}
use Rattle.emissions.specs.declared.GridKind.TheVariants.{Thermal}
use Rattle.emissions.specs.declared.CombinedMargin.TheVariants.{Stated, Mean}
use Rattle.emissions.specs.declared.GridEntry.{GridEntry}
use Rattle.emissions.specs.declared.Grid.{Grid}
use Rattle.emissions.specs.declared.Side.{Side}
use Rattle.emissions.specs.declared.Side.TheVariants.{Project, Leakage, Baseline}
use Rattle.emissions.specs.declared.Supply.{Supply}
use Rattle.emissions.specs.declared.Supply.TheVariants.{Combined, GridDefault, Captive, CaptiveDefault, Either}
use Rattle.emissions.specs.declared.Loss.{Loss}
use Rattle.emissions.specs.declared.Loss.TheVariants.{Nothing, Measured, Default20, Default3}
use Rattle.emissions.proofs.Grids.{GridSound, sound-intact}
use Rattle.emissions.specs.Grid.{grid_judged, grid_intact}
use Rattle.records.specs.Heat.{fuel_energy}
use Rattle.records.specs.Judging.{meters_of, source_judged, is_there, drop_judged, lines_of, plant_judged}
use Rattle.report.specs.Heat.{lines_milligrams, exact_lines, allocated, exact_allocated, electricity_milligrams, exact_electricity, heated_energy}
use Rattle.report.specs.Intact.{all_intact}
use Rattle.report.specs.Report.{ReportInput, standing, selected, consumption, plant_milligrams, exact_plant, plant_heated, plants_at, site_of, sources_of, source_figure, Figured, Figures, declined, figured, figures_from, of_side, SideReport, side_report, Report, reduction, report_from, Reply, ok, refused_with, refused_at, reported, damaged, all_fit, reply_from, report_of, checked_report_of, acknowledged, intact}
use Rattle.ledger.specs.Standing.{Call, enter_grid, enter_plant, enter_source, drop_plant, drop_source, report, Standing, nothing, after, energy_of, input_of_standing, answer}
use Rattle.ledger.specs.Exact.{sites_of, exact_figure, gap, figures_of, exact_side, exact_reduction, limit_of, allowance_of, side_allowance, reduction_allowance}
use Rattle.ledger.specs.Operations.{new_ledger, step, reply}
use Rattle.ledger.specs.Claim.{ReportSafe}
use Rattle.records.specs.declared.Plant.{Plant}
use Rattle.records.specs.declared.SourceEntry.{SourceEntry}
use Rattle.ledger.specs.declared.Ledger.{Ledger}
use Rattle.ledger.proofs.Demand3.{claim-at, records-show}

-- ---- how calls and answers are written here

-- A whole meter, and a single meter by its ratio and the bits of its registers; without a transformer the ratio is 1.
abbrev pub counts : Sign → ℕ → ℕ → Meter
counts s f l = record { ratio = 1; sign = s; interval = Counts f l }

abbrev pub singles_by : ℕ → Sign → ℕ → ℕ → Meter
singles_by ratio s f l =
    record { ratio = ratio; sign = s; interval = Singles record { first = of_bits binary32 f; last = of_bits binary32 l } }

abbrev pub singles : Sign → ℕ → ℕ → Meter
singles s f l = singles_by 1 s f l

-- A source with two meters, and with one.
abbrev pub source2 : Side → Supply → Loss → Meter → Meter → SourceEntry
source2 side supply loss m k =
    record { side = side; supply = supply; loss = loss; meters = m ∷ k ∷ counts Plus 0 0 ∷ counts Plus 0 0 ∷ []; count = 2 }

abbrev pub source : Side → Supply → Loss → Meter → SourceEntry
source side supply loss m =
    record { side = side; supply = supply; loss = loss; meters = m ∷ counts Plus 0 0 ∷ counts Plus 0 0 ∷ counts Plus 0 0 ∷ []; count = 1 }

-- A source of so many watt-hours from captive plants, on the default factor.
abbrev pub captive_source : Side → ℕ → SourceEntry
captive_source side E = source side CaptiveDefault Nothing (counts Plus 0 E)

abbrev pub fuel : ℕ → ℕ → ℕ → FuelLine
fuel Q NCV C = record { kind = Energy Q NCV C }

abbrev pub mass : ℕ → ℕ → FuelLine
mass Q W = record { kind = Mass Q W }

abbrev pub volume : ℕ → ℕ → ℕ → FuelLine
volume Q density W = record { kind = Volume Q density W }

-- A plant with four fuel lines and no heat.
abbrev pub plant4 : ℕ → ℕ → FuelLine → FuelLine → FuelLine → FuelLine → Plant
plant4 S G l k m n = record { site = S; generation = G; heat = 0; lines = l ∷ k ∷ m ∷ n ∷ []; count = 4 }

-- A plant with heat, of whose two fuel lines the first so many count; with both; and with both and no heat.
abbrev pub heated_by : ℕ → ℕ → ℕ → ℕ → FuelLine → FuelLine → Plant
heated_by count S G H l k = record { site = S; generation = G; heat = H; lines = l ∷ k ∷ fuel 0 0 0 ∷ fuel 0 0 0 ∷ []; count = count }

abbrev pub heated : ℕ → ℕ → ℕ → FuelLine → FuelLine → Plant
heated S G H l k = heated_by 2 S G H l k

abbrev pub plant : ℕ → ℕ → FuelLine → FuelLine → Plant
plant S G l k = heated S G 0 l k

abbrev pub thermal : ℕ → Call
thermal F = enter_grid (record { margin = Stated F; kind = Thermal })

-- A grid by its operating and build margin and their weights.
abbrev pub weighted : ℕ → ℕ → ℕ → ℕ → GridEntry
weighted O B X Y =
    record { margin = Mean record { operating = O; build = B; weights = record { operating = X; build = Y } }; kind = Thermal }

abbrev pub margins : ℕ → ℕ → ℕ → ℕ → Call
margins O B X Y = enter_grid (weighted O B X Y)

-- A side's tonnes, grams and sources.
abbrev pub totals : ℕ → ℕ → ℕ → SideReport
totals t g n = record { tonnes = t; grams = g; sources = n }

-- A side where nothing stands.
abbrev pub zeros : SideReport
zeros = totals 0 0 0

-- The answers to a list of calls from a new ledger. `unfolding run` opens what they compute by.
unfoldable pub run : List Call → List Reply
unfolding answers step reply new_ledger answer checked_report_of intact all_intact grid_judged lines_of all_lines line_energy is_energy fuel_energy plant_judged meters_of source_judged drop_judged within_limits exact_milligrams rounded_milligrams judged_meters judged_readings rounded_adding rounded_taking settled_energy sum divided exact_register is_readable_register of_bits standing selected consumption lines_milligrams allocated electricity_milligrams heated_energy plant_heated plant_milligrams plants_at site_of source_figure figures_from of_side side_report reduction report_from report_of rounded_combined margin grid_default captive_judged low_default chosen loss_of energy_with_losses grams_of figure_of
run calls = answers step reply new_ledger calls

-- What stands after a list of calls. `unfolding stands` opens what its exact values compute by.
unfoldable pub stands : List Call → Standing
unfolding after_calls after run energy_of exact_energy exact_combined exact_margin exact_lines exact_allocated exact_electricity exact_plant sumᵣ exact_captive exact_factor_of exact_grams exact_figure gap exact_side heat_ratio gap_limit gap_allowance limit_of allowance_of side_allowance reduction_allowance
stands calls = after_calls after nothing calls

-- "An empty ledger reports zeros."
pub empty-reports-zeros : run (report ∷ []) ≡ reported (record { project = zeros; leakage = zeros; baseline = zeros; reduction = pos 0 }) ∷ []
unfolding run
empty-reports-zeros = refl

-- ---- all three sides stand, and the report is given

abbrev pub three_sides : List Call
three_sides =
    thermal 812400
    ∷ enter_plant 2 (plant 1 4000 (fuel 1000 43000 74100) (fuel 333 1501 77))
    ∷ enter_source 0 (source2 Project (Either 1) Default20 (counts Plus 0 2000001) (singles Minus 0x42f6e979 0x42f6e97a))
    ∷ enter_source 4 (source Leakage CaptiveDefault Nothing (singles Plus 0x3f800001 0x43f6e979))
    ∷ enter_source 7 (source Baseline GridDefault Default3 (counts Plus 0 9000007))
    ∷ enter_source 9 (source Project (Captive 1) Nothing (counts Plus 5 700000))
    ∷ enter_source 31 (source2 Baseline Combined (Measured 777) (counts Plus 100 2000003) (counts Minus 0 1))
    ∷ report
    ∷ []

abbrev pub three_sides_report : Report
three_sides_report =
    record { project = totals 3 2507369 2; leakage = totals 1 640673 1; baseline = totals 5 5458962 2; reduction = pos 1 }

pub three-sides : run three_sides ≡ ok ∷ ok ∷ ok ∷ ok ∷ ok ∷ ok ∷ ok ∷ reported three_sides_report ∷ []
unfolding run
three-sides = refl

-- So demand 3 says of this report that it is safe.
pub three-sides-safe : ReportSafe (after_calls after nothing (take 7 three_sides)) three_sides_report
unfolding run
three-sides-safe = (claim-at three_sides 7 (lit< tt) report ok).safe three_sides_report refl

-- ---- griddefault: not open where P = B, and open where one is greater by a watt-hour

abbrev pub comparing : ℕ → ℕ → List Call
comparing P B =
    thermal 600000
    ∷ enter_source 3 (source Project GridDefault (Measured 0) (counts Plus 0 P))
    ∷ enter_source 8 (source Baseline Combined (Measured 0) (counts Plus 0 B))
    ∷ report
    ∷ []

pub equal-refused : run (comparing 1000000 1000000) ≡ ok ∷ ok ∷ ok ∷ refused_at 11 3 ∷ []
unfolding run
equal-refused = refl

pub project-greater : run (comparing 1000001 1000000)
    ≡ ok ∷ ok ∷ ok ∷ reported (record { project = totals 2 1300002 1; leakage = zeros; baseline = totals 0 600000 1; reduction = negsuc 1 }) ∷ []
unfolding run
project-greater = refl

pub baseline-greater : run (comparing 1000000 1000001)
    ≡ ok ∷ ok ∷ ok ∷ reported (record { project = totals 1 400000 1; leakage = zeros; baseline = totals 0 600000 1; reduction = negsuc 0 }) ∷ []
unfolding run
baseline-greater = refl

-- ---- either: the greater factor for project, the smaller for baseline

-- A source of 1,000 kWh, so that its grams are its factor. The captive factor is 600,000.000001: 600,001 up, 600,000
-- down.
abbrev pub choosing_at : Side → Call → List Call
choosing_at side grid =
    grid
    ∷ enter_plant 0 (plant 0 1000 (fuel 1000 60000 10000) (fuel 1 1 1))
    ∷ enter_source 0 (source side (Either 0) (Measured 0) (counts Plus 0 1000000))
    ∷ report
    ∷ []

abbrev pub choosing : Side → ℕ → List Call
choosing side F = choosing_at side (thermal F)

abbrev pub project_grams : ℕ → List Reply
project_grams g = ok ∷ ok ∷ ok ∷ reported (record { project = totals 1 g 1; leakage = zeros; baseline = zeros; reduction = negsuc 0 }) ∷ []

abbrev pub baseline_grams : ℕ → List Reply
baseline_grams g = ok ∷ ok ∷ ok ∷ reported (record { project = zeros; leakage = zeros; baseline = totals 0 g 1; reduction = pos 0 }) ∷ []

pub project-takes-captive : run (choosing Project 500000) ≡ project_grams 600001
unfolding run
project-takes-captive = refl

pub project-takes-combined : run (choosing Project 700000) ≡ project_grams 700000
unfolding run
project-takes-combined = refl

pub baseline-takes-combined : run (choosing Baseline 500000) ≡ baseline_grams 500000
unfolding run
baseline-takes-combined = refl

pub baseline-takes-captive : run (choosing Baseline 700000) ≡ baseline_grams 600000
unfolding run
baseline-takes-captive = refl

-- x is n ÷ d, by cross-multiplying.
abbrev pub Is : Ratio → ℕ → ℕ → Type 0
Is x n d = (x.plus * d ≡ n * x.over) × (x.minus ≡ 0)

-- "of two equal factors under either, combined": the exact figure is 600,001 g, where captive would give 600,000.000001
-- g. One milligram less in the margin, and it is captive.
pub equal-takes-combined : Is (exact_side (stands (choosing Project 600001)) Project) 600001 1000000
unfolding stands
equal-takes-combined = (refl, refl)

pub greater-takes-captive : Is (exact_side (stands (choosing Project 600000)) Project) 600000000001 1000000000000
unfolding stands
greater-takes-captive = (refl, refl)

-- ---- fuel lines of all kinds in one plant: each is rounded by itself, and the exact values use the unrounded lines

-- 0.001 mg by energy, 366.66.. mg by mass and 0.366.. mg by volume beside Q mg, over 1,000 kWh.
abbrev pub all_kinds : ℕ → ℕ → Plant
all_kinds S Q = plant4 S 1000 (fuel 1 1 1) (mass 1 1) (volume 1 1 1) (fuel Q 1 1000)

-- A project source on the one plant and a baseline source on the other, each of 1,000 kWh, so that its grams are its
-- factor.
abbrev pub kind_calls : List Call
kind_calls =
    enter_plant 0 (all_kinds 0 632)
    ∷ enter_plant 1 (all_kinds 1 633)
    ∷ enter_source 0 (source Project (Captive 0) Nothing (counts Plus 0 1000000))
    ∷ enter_source 1 (source Baseline (Captive 1) Nothing (counts Plus 0 1000000))
    ∷ report
    ∷ []

-- Rounded up the lines of the one come to 1,001 mg and its factor to 2, rounded down those of the other to 999 mg and
-- 0. With any one of the three lines rounded the other way it would be 1,000 mg and 1.
pub kinds-rounded : run kind_calls
    ≡ ok ∷ ok ∷ ok ∷ ok ∷ reported (record { project = totals 1 2 1; leakage = zeros; baseline = totals 0 0 1; reduction = negsuc 0 }) ∷ []
unfolding run
kinds-rounded = refl

-- 0.001 + 1,100 ÷ 3 + 11 ÷ 30 + Q mg over 1,000 kWh.
pub exact-kinds : Is (exact_side (stands kind_calls) Project) 2997103 3000000000000
    × Is (exact_side (stands kind_calls) Baseline) 3000103 3000000000000
unfolding stands
exact-kinds = ((refl, refl), (refl, refl))

-- ---- margins: each side takes the mean rounded its way, and the exact values use the unrounded mean

-- The mean is 750,000.5, and a source of 1,000 kWh has so many grams.
abbrev pub mean_calls : Side → List Call
mean_calls side = margins 1000001 500000 50 50 ∷ enter_source 0 (source side Combined (Measured 0) (counts Plus 0 1000000)) ∷ report ∷ []

pub project-takes-mean-up : run (mean_calls Project)
    ≡ ok ∷ ok ∷ reported (record { project = totals 1 750001 1; leakage = zeros; baseline = zeros; reduction = negsuc 0 }) ∷ []
unfolding run
project-takes-mean-up = refl

pub baseline-takes-mean-down : run (mean_calls Baseline)
    ≡ ok ∷ ok ∷ reported (record { project = zeros; leakage = zeros; baseline = totals 0 750000 1; reduction = pos 0 }) ∷ []
unfolding run
baseline-takes-mean-down = refl

-- 750,000.5 grams on either side.
pub exact-mean-of-project : Is (exact_side (stands (mean_calls Project)) Project) 7500005 10000000
unfolding stands
exact-mean-of-project = (refl, refl)

pub exact-mean-of-baseline : Is (exact_side (stands (mean_calls Baseline)) Baseline) 7500005 10000000
unfolding stands
exact-mean-of-baseline = (refl, refl)

-- The weights go with their margins: (1 × 30 + 2 × 70) ÷ 100 = 1.7 mg/kWh, over 1,000 kWh.
pub exact-weights : Is (exact_side (stands (margins 1 2 30 70 ∷ enter_source 0 (source Project Combined (Measured 0) (counts Plus 0 1000000)) ∷ [])) Project)
    17 10000000
unfolding stands
exact-weights = (refl, refl)

-- The mean is 600,000.5. Rounded each way it equals the captive factor rounded so, 600,001 and 600,000: combined is
-- taken, and the exact figure is the mean's. Rounded the other way captive would be taken, whose exact figure is
-- 600,000.000001 grams.
abbrev pub near_captive : Call
near_captive = margins 600000 600001 50 50

pub equal-mean-takes-combined : Is (exact_side (stands (choosing_at Project near_captive)) Project) 6000005 10000000
    × Is (exact_side (stands (choosing_at Baseline near_captive)) Baseline) 6000005 10000000
unfolding stands
equal-mean-takes-combined = ((refl, refl), (refl, refl))

-- "A margin above its limit is refused 2, then weights that don't sum to 100 are refused 15", whatever the weight of
-- the margin.
pub two-before-fifteen : run (
    margins 10000001 0 60 60
    ∷ margins 0 10000001 100 0
    ∷ margins 10000000 10000000 60 60
    ∷ margins 10000000 10000000 49 50
    ∷ margins 10000000 10000000 0 100
    ∷ []
    )
    ≡ refused_with 2 ∷ refused_with 2 ∷ refused_with 15 ∷ refused_with 15 ∷ ok ∷ []
unfolding run
two-before-fifteen = refl

-- A refused entry leaves the grid that stood; an accepted one is in its place, of either form.
pub grid-replaced : run (
    margins 1000000 1000000 50 50
    ∷ enter_source 0 (source Project Combined (Measured 0) (counts Plus 0 1000000))
    ∷ margins 5000000 5000000 50 51
    ∷ report
    ∷ thermal 3000000
    ∷ report
    ∷ []
    )
    ≡ ok ∷ ok ∷ refused_with 15
    ∷ reported (record { project = totals 1 1000000 1; leakage = zeros; baseline = zeros; reduction = negsuc 0 })
    ∷ ok
    ∷ reported (record { project = totals 3 3000000 1; leakage = zeros; baseline = zeros; reduction = negsuc 2 }) ∷ []
unfolding run
grid-replaced = refl

-- ---- heat: the part of a plant's milligrams that goes with it counts for project and leakage, not for baseline

-- A project and a baseline source on one site, each of 1,000 kWh, so that its grams are its factor.
abbrev pub on_one_site : Plant → List Call
on_one_site p =
    enter_plant 0 p
    ∷ enter_source 0 (source Project (Captive 0) Nothing (counts Plus 0 1000000))
    ∷ enter_source 1 (source Baseline (Captive 0) Nothing (counts Plus 0 1000000))
    ∷ report
    ∷ []

-- 3 mg from 3 kJ and 0.004 mg from 4 kJ, over 1,000 kWh, with so much heat.
abbrev pub seven_kilojoules : ℕ → List Call
seven_kilojoules H = on_one_site (heated 0 1000 H (fuel 1 3 1000) (fuel 1 4 1))

-- With 1 kJ of heat A is 3,000 ÷ 7 down, 428, and 6 × 428 ÷ 1,000 down is 2; without heat the lines' 3 mg stay. Rounded
-- up they are 4, heat or not.
pub heat-rounded : ((sites_of (stands (seven_kilojoules 1)) 0).milligrams Down ≡ 2)
    × ((sites_of (stands (seven_kilojoules 0)) 0).milligrams Down ≡ 3)
    × ((sites_of (stands (seven_kilojoules 1)) 0).milligrams Up ≡ 4)
unfolding stands
heat-rounded = (refl, refl, refl)

-- Exactly 6 × 3.004 ÷ 7 mg for baseline, and 3.004 mg for project and without heat: in tonnes over 1,000 kWh.
pub exact-heat : Is (exact_side (stands (seven_kilojoules 1)) Baseline) 18024 7000000000000
    × Is (exact_side (stands (seven_kilojoules 1)) Project) 3004 1000000000000
    × Is (exact_side (stands (seven_kilojoules 0)) Baseline) 3004 1000000000000
unfolding stands
exact-heat = ((refl, refl), (refl, refl), (refl, refl))

-- Beside it a plant without heat, 5.001 mg over 500 kWh: each plant is allocated by itself, and K is the 7 kJ of the
-- one over the site's 1,500 kWh.
abbrev pub beside_heat : List Call
beside_heat =
    enter_plant 0 (heated 0 1000 1 (fuel 1 3 1000) (fuel 1 4 1))
    ∷ enter_plant 1 (plant 0 500 (fuel 1 5 1000) (fuel 1 1 1))
    ∷ enter_source 0 (source Baseline (Captive 0) Nothing (counts Plus 0 1000000))
    ∷ []

pub heat-by-plant : ((sites_of (stands beside_heat) 0).milligrams Down ≡ 7)
    × Is (exact_side (stands beside_heat) Baseline) 53031 10500000000000
    × (heat_ratio (sites_of (stands beside_heat) 0) ≡ Some (7 ÷ 1500000))
unfolding stands
heat-by-plant = (refl, (refl, refl), refl)

-- Half of 43,000,000 kJ is heat: the baseline source has half the factor of the project source.
abbrev pub half_heat : Plant
half_heat = heated_by 1 0 1000 21500000 (fuel 1000 43000 74100) (mass 1 1)

pub heat-for-baseline : run (on_one_site half_heat)
    ≡ ok ∷ ok ∷ ok ∷ reported (record { project = totals 4 3186300 1; leakage = zeros; baseline = totals 1 1593150 1; reduction = negsuc 2 }) ∷ []
unfolding run
heat-for-baseline = refl

-- K is 43. The limit with K, 1 + (13 × (1,593,150 + 2 + 43) + (2 + 43) × 1,000,000) ÷ 1,000,000 = 66.711535 g, stands
-- in place of 200 kilograms, where it is the smaller too; the project source has no K.
pub heat-allowances : Is (side_allowance (stands (on_one_site half_heat)) Baseline) 1000066711535 1000000000000
    × Is (side_allowance (stands (on_one_site half_heat)) Project) 1200 1000
    × Is (reduction_allowance (stands (on_one_site half_heat))) 3200066711535 1000000000000
unfolding stands
heat-allowances = ((refl, refl), (refl, refl), (refl, refl))

-- "baseline sources that name the site" have K, also one that takes combined there: 1 + (13 × (500,000 + 2 + 43) + (2 +
-- 43) × 1,000,000) ÷ 1,000,000.
abbrev pub either_with_heat : List Call
either_with_heat =
    thermal 500000 ∷ enter_plant 0 half_heat ∷ enter_source 0 (source Baseline (Either 0) (Measured 0) (counts Plus 0 1000000)) ∷ []

abbrev pub either_figure : Figured
either_figure =
    record { number = 0; side = Baseline; figure = record { choice = combined; loss = 0; factor = 500000; energy = 1000000; grams = 500000 } }

pub combined-with-heat : (figures_of (stands either_with_heat) ≡ either_figure ∷ []) × Is (limit_of (stands either_with_heat) either_figure) 52500585 1000000
unfolding stands
combined-with-heat = (refl, (refl, refl))

-- "Heat above 0 beside a carbon line is refused 16, then heat above J is refused 17, both after 2." Heat of all of J,
-- heat 0 beside a carbon line and a carbon line that does not count are accepted; without fuel lines J is 0.
pub heat-refusals : run (
    enter_plant 8 (heated 0 1000 9 (mass 1 1) (fuel 1 0 1))
    ∷ enter_plant 0 (heated 0 1000 9 (mass 1 1) (fuel 1 0 1))
    ∷ enter_plant 0 (heated 0 1000 9 (mass 1 1) (fuel 1 7 1))
    ∷ enter_plant 0 (heated 0 1000 1 (fuel 1 7 1) (volume 1 1 1))
    ∷ enter_plant 0 (heated 0 1000 8 (fuel 1 3 1000) (fuel 1 4 1))
    ∷ enter_plant 0 (heated_by 0 0 1000 1 (fuel 1 3 1000) (fuel 1 4 1))
    ∷ enter_plant 0 (heated 0 1000 7 (fuel 1 3 1000) (fuel 1 4 1))
    ∷ enter_plant 0 (heated 0 1000 0 (mass 1 1) (fuel 1 7 1))
    ∷ enter_plant 0 (heated_by 1 0 1000 3 (fuel 1 3 1000) (mass 1 1))
    ∷ []
    )
    ≡ refused_with 1 ∷ refused_with 2 ∷ refused_with 16 ∷ refused_with 16 ∷ refused_with 17 ∷ refused_with 17 ∷ ok ∷ ok ∷ ok ∷ []
unfolding run
heat-refusals = refl

-- ---- what stands

-- A dropped source counts no more, and a second drop finds nothing.
pub dropped : run (
    enter_source 1 (captive_source Project 1000000)
    ∷ enter_source 6 (captive_source Project 1000000)
    ∷ enter_source 9 (captive_source Leakage 1000000)
    ∷ drop_source 6
    ∷ drop_source 6
    ∷ report
    ∷ []
    )
    ≡ ok ∷ ok ∷ ok ∷ ok ∷ refused_with 7
    ∷ reported (record { project = totals 2 1300000 1; leakage = totals 2 1300000 1; baseline = zeros; reduction = negsuc 3 }) ∷ []
unfolding run
dropped = refl

-- The last accepted entry under a number counts, on its own side; a refused one replaces nothing.
pub replaced : run (
    enter_source 5 (captive_source Project 1000000)
    ∷ enter_source 5 (captive_source Project 3000000)
    ∷ enter_source 5 (source Project CaptiveDefault (Measured 0) (counts Plus 0 9000000))
    ∷ report
    ∷ enter_source 5 (captive_source Baseline 1000000)
    ∷ report
    ∷ []
    )
    ≡ ok ∷ ok ∷ refused_with 5
    ∷ reported (record { project = totals 4 3900000 1; leakage = zeros; baseline = zeros; reduction = negsuc 3 })
    ∷ ok
    ∷ reported (record { project = zeros; leakage = zeros; baseline = totals 0 400000 1; reduction = pos 0 }) ∷ []
unfolding run
replaced = refl

-- ---- "Each number is tested over all meters before the next"

-- The first meter runs back, 4, and the second's last register is not a number, 3: 3 comes first, and 4 before 5.
pub three-before-four : run (
    enter_source 5 (source2 Project Combined Nothing (counts Plus 7 6) (singles Plus 0x3f800000 0x7fc00000))
    ∷ enter_source 5 (source2 Project Combined Nothing (counts Plus 7 6) (singles Plus 0x3f800000 0x3f800000))
    ∷ []
    )
    ≡ refused_with 3 ∷ refused_with 4 ∷ []
unfolding run
three-before-four = refl

-- A ratio outside its range is 2, tested over all meters before 3 of any.
pub ratio-before-reading : run (
    enter_source 5 (source2 Project Combined Nothing (singles Plus 0x7fc00000 0x7fc00000) (singles_by 10001 Plus 0 0))
    ∷ enter_source 5 (source2 Project Combined Nothing (singles Plus 0x7fc00000 0x7fc00000) (singles_by 0 Plus 0 0))
    ∷ enter_source 5 (source2 Project Combined Nothing (singles Plus 0x7fc00000 0x7fc00000) (singles_by 10000 Plus 0 0))
    ∷ []
    )
    ≡ refused_with 2 ∷ refused_with 2 ∷ refused_with 3 ∷ []
unfolding run
ratio-before-reading = refl

-- ---- "A reading's exact value is multiplied by it before rounding"

-- A feeder behind a transformer of 10,000, whose register went from 0 to 8,589,935 ÷ 2^33 kWh, the next above 0.001, on
-- a grid of 10,000,000 mg/kWh.
abbrev pub behind : Side → SourceEntry
behind side = source side Combined (Measured 0) (singles_by 10000 Plus 0 0x3a83126f)

abbrev pub behind_calls : List Call
behind_calls = thermal 10000000 ∷ enter_source 0 (behind Project) ∷ enter_source 1 (behind Baseline) ∷ report ∷ []

-- E is 10,001 up and 10,000 down, where a register rounded up before the ratio would give 20,000. The exact value of a
-- side is 8,589,935 ÷ 2^33 kWh × 10,000 × 10 kg/kWh.
pub ratio-before-rounding : (energy_of (behind Project) ≡ 10001)
    × (energy_of (behind Baseline) ≡ 10000)
    × Is (exact_side (stands behind_calls) Project) 858993500 (2 ^ 33)
    × Is (exact_side (stands behind_calls) Baseline) 858993500 (2 ^ 33)
    × (run behind_calls
    ≡ ok ∷ ok ∷ ok ∷ reported (record { project = totals 1 100010 1; leakage = zeros; baseline = totals 0 100000 1; reduction = negsuc 0 }) ∷ [])
unfolding stands
ratio-before-rounding = (refl, refl, (refl, refl), (refl, refl), refl)

-- ---- an exact value below zero

-- A + meter at rest, and a - meter that moved by less than a watt-hour.
abbrev pub creeping : SourceEntry
creeping = source2 Project Combined (Measured 0) (counts Plus 1000 1000) (singles Minus 0x3f800000 0x3f800001)

abbrev pub creeping_calls : List Call
creeping_calls = thermal 1000000 ∷ enter_source 0 creeping ∷ report ∷ []

-- E is 0 and the report says 0 tonnes, where the exact energy and the exact value of the side are below zero.
pub exact-below-zero : (energy_of creeping ≡ 0)
    × ((exact_energy (meters_of creeping)).plus < (exact_energy (meters_of creeping)).minus)
    × ((exact_side (stands creeping_calls) Project).plus < (exact_side (stands creeping_calls) Project).minus)
    × (run creeping_calls ≡ ok ∷ ok ∷ reported (record { project = totals 0 0 1; leakage = zeros; baseline = zeros; reduction = pos 0 }) ∷ [])
unfolding stands
exact-below-zero = (refl, lit< tt, lit< tt, refl)

-- ---- the constants of demand 3 cannot be 12 for 13, 10 for 11, 150 for 200 or 2 for 3

-- Four meters of two readings, each reading nearly a watt-hour off: E is 9, where the exact energy is about 1.
abbrev pub eight_readings : List Call
eight_readings =
    let m = singles Plus 0x3a83126e 0x3a83126f in
    thermal 10000000
    ∷ enter_source 0 (record { side = Project; supply = Combined; loss = Measured 5000; meters = m ∷ m ∷ m ∷ singles Plus 0x3a83126e 0x3b03126f ∷ []; count = 4 })
    ∷ report
    ∷ []

abbrev pub eight_readings_figure : Figured
eight_readings_figure =
    record { number = 0; side = Project; figure = record { choice = combined; loss = 5000; factor = 10000000; energy = 14; grams = 140 } }

-- The gap, 124.99 g, against 121.00 g.
pub not-12 : (figures_of (stands eight_readings) ≡ eight_readings_figure ∷ [])
    × (whole 1 +ᵣ ((whole (12 * (10000000 + 2)) +ᵣ (11 * 14) ÷ 10) per 1000000) ≤ᵣ gap (stands eight_readings) eight_readings_figure)
unfolding stands
not-12 = (refl, lit≤ tt)

-- 32 fuel lines, each nearly a milligram off, over 1,000 kWh: the captive factor is 999,691 up and 999,689 down, where
-- the exact one is about 999,689.97, and either takes it on every side. Each side's grams are next to a whole tonne, on
-- its worse side.
abbrev pub plant_of : FuelLine → Plant
plant_of l = plant4 0 125 (fuel 1 1 1) (fuel 1 1 1) (fuel 1 1 1) l

abbrev pub large_source : Side → ℕ → SourceEntry
large_source side E = source side (Either 0) (Measured 5000) (counts Plus 0 E)

abbrev pub many_lines : List Call
many_lines =
    thermal 999690
    ∷ enter_plant 0 (plant_of (fuel 1 1 1))
    ∷ enter_plant 1 (plant_of (fuel 1 1 1))
    ∷ enter_plant 2 (plant_of (fuel 1 1 1))
    ∷ enter_plant 3 (plant_of (fuel 1 1 1))
    ∷ enter_plant 4 (plant_of (fuel 1 1 1))
    ∷ enter_plant 5 (plant_of (fuel 1 1 1))
    ∷ enter_plant 6 (plant_of (fuel 1 1 1))
    ∷ enter_plant 7 (plant_of (fuel 99959001 10001 1))
    ∷ enter_source 0 (large_source Project 99999566534)
    ∷ enter_source 1 (large_source Leakage 99999566534)
    ∷ enter_source 2 (large_source Baseline 99999766594)
    ∷ report
    ∷ []

abbrev pub many_lines_figure : ℕ → Side → Figured
many_lines_figure n side =
    record {
      number = n;
      side = side;
      figure = record { choice = captive 0; loss = 5000; factor = 999691; energy = 149999349801; grams = 149953000002 };
    }

pub many-lines : (figures_of (stands many_lines)
    ≡ many_lines_figure 0 Project
    ∷ many_lines_figure 1 Leakage
    ∷ record { number = 2; side = Baseline; figure = record { choice = captive 0; loss = 5000; factor = 999689; energy = 149999649891; grams = 149952999999 } }
    ∷ [])
    × (report_of (input_of_standing (stands many_lines))
    ≡ reported (record { project = totals 149954 149953000002 1; leakage = totals 149954 149953000002 1; baseline = totals 149952 149952999999 1; reduction = negsuc 149955 }))
unfolding stands
many-lines = (refl, refl)

-- The gap, 154,644 g, against 150,014 g, and against 150 kilograms.
pub not-10 : whole 1 +ᵣ ((whole (13 * (999691 + 2)) +ᵣ (10 * 149999349801) ÷ 10) per 1000000) ≤ᵣ gap (stands many_lines) (many_lines_figure 0 Project)
unfolding stands
not-10 = lit≤ tt

pub not-150-a-gap : whole 150000 ≤ᵣ gap (stands many_lines) (many_lines_figure 0 Project)
unfolding stands
not-150-a-gap = lit≤ tt

-- A side of one source, 1.1546 t off, against 1.15 t; the reduction over three sources, 3.4546 t off, against 3.45 t.
pub not-150-a-side : exact_side (stands many_lines) Project +ᵣ (1000 + 150 * 1) ÷ 1000 ≤ᵣ whole 149954
unfolding stands
not-150-a-side = lit≤ tt

pub not-150-a-reduction : integer (negsuc 149955) +ᵣ (3000 + 150 * 3) ÷ 1000 ≤ᵣ exact_reduction (stands many_lines)
unfolding stands exact_reduction
not-150-a-reduction = lit≤ tt

-- 1 g, 1 g and 999,999 g: each side nearly a tonne off, and the reduction nearly three.
abbrev pub near_tonnes : List Call
near_tonnes =
    thermal 1000000
    ∷ enter_source 0 (source Project Combined (Measured 0) (counts Plus 0 1))
    ∷ enter_source 1 (source Leakage Combined (Measured 0) (counts Plus 0 1))
    ∷ enter_source 2 (source Baseline Combined (Measured 0) (counts Plus 0 999999))
    ∷ report
    ∷ []

pub not-2-tonnes : (run near_tonnes
    ≡ ok ∷ ok ∷ ok ∷ ok
    ∷ reported (record { project = totals 1 1 1; leakage = totals 1 1 1; baseline = totals 0 999999 1; reduction = negsuc 1 }) ∷ [])
    × (integer (negsuc 1) +ᵣ (2000 + 200 * 3) ÷ 1000 ≤ᵣ exact_reduction (stands near_tonnes))
unfolding stands exact_reduction
not-2-tonnes = (refl, lit≤ tt)

pub not-0-tonnes : exact_side (stands near_tonnes) Project +ᵣ (200 * 1) ÷ 1000 ≤ᵣ whole 1
unfolding stands
not-0-tonnes = lit≤ tt

-- ---- nor can those with K: 13 × (F + 2 + K), 2 + K, and the limit in place of 200 kilograms

-- A is 1.5 mg/MJ cut to 1, so that the factor is 999,999 where the exact one is nearly 1,500,000. K is 1,000,000.
abbrev pub cut_factor : SourceEntry → List Call
cut_factor e = thermal 10000000 ∷ enter_plant 0 (heated 0 1000 1 (fuel 100000000 5000 1) (fuel 100000000 5000 2)) ∷ enter_source 0 e ∷ []

abbrev pub cut_figure : ℕ → ℕ → Figured
cut_figure U g =
    record { number = 0; side = Baseline; figure = record { choice = captive 0; loss = 5000; factor = 999999; energy = U; grams = g } }

-- 1,000 MWh: the gap, 750 t, against 3,027 g with 2 for 2 + K, and against 200 kilograms.
abbrev pub cut_large : List Call
cut_large = cut_factor (large_source Baseline 1000000000)

pub not-2-without-K : (figures_of (stands cut_large) ≡ cut_figure 1500000000 1499998500 ∷ [])
    × (whole 1 +ᵣ (13 * (999999 + 2 + 1000000) + 2 * 1500000000) ÷ 1000000 ≤ᵣ gap (stands cut_large) (cut_figure 1500000000 1499998500))
unfolding stands
not-2-without-K = (refl, lit≤ tt)

pub not-200-with-K : whole 200000 ≤ᵣ gap (stands cut_large) (cut_figure 1500000000 1499998500)
unfolding stands
not-200-with-K = lit≤ tt

-- Eight readings that nearly come to 8 Wh, where E is 0: the gap, 18.0 g, against 14.0 g with 13 × (F + 2).
abbrev pub cut_nothing : List Call
cut_nothing =
    let m = singles Plus 0x3a83126f 0x3b449ba5 in
    cut_factor (record { side = Baseline; supply = Either 0; loss = Measured 5000; meters = m ∷ m ∷ m ∷ m ∷ []; count = 4 })

pub not-13-without-K : (figures_of (stands cut_nothing) ≡ cut_figure 0 0 ∷ [])
    × (whole 1 +ᵣ (13 * (999999 + 2)) ÷ 1000000 ≤ᵣ gap (stands cut_nothing) (cut_figure 0 0))
unfolding stands
not-13-without-K = (refl, lit≤ tt)

-- Eight plants with heat, each of whose roundings loses nearly what it may.
abbrev pub losing_plant : FuelLine → Plant
losing_plant l =
    record { site = 0; generation = 125; heat = 1; lines = fuel 35 18 1373 ∷ fuel 172 18 1802 ∷ fuel 99 18 1445 ∷ l ∷ []; count = 4 }

abbrev pub many_heats : List Call
many_heats =
    thermal 10000000
    ∷ enter_plant 0 (losing_plant (fuel 52 18 1797))
    ∷ enter_plant 1 (losing_plant (fuel 52 18 1797))
    ∷ enter_plant 2 (losing_plant (fuel 52 18 1797))
    ∷ enter_plant 3 (losing_plant (fuel 52 18 1797))
    ∷ enter_plant 4 (losing_plant (fuel 52 18 1797))
    ∷ enter_plant 5 (losing_plant (fuel 52 18 1797))
    ∷ enter_plant 6 (losing_plant (fuel 52 18 1797))
    ∷ enter_plant 7 (losing_plant (fuel 64675 286 1637))
    ∷ enter_source 0 (large_source Baseline 100000000000)
    ∷ []

abbrev pub many_heats_figure : Figured
many_heats_figure =
    record { number = 0; side = Baseline; figure = record { choice = captive 0; loss = 5000; factor = 30344; energy = 150000000000; grams = 4551600000 } }

-- K is 18,547,666 ÷ 1,000,000. The gap, 2,937,496 g, against 2,932,151 g with 1 + K for 2 + K at U.
pub not-1-with-K : (figures_of (stands many_heats) ≡ many_heats_figure ∷ [])
    × (heat_ratio (sites_of (stands many_heats) 0) ≡ Some (18547666 ÷ 1000000))
    × (whole 1 +ᵣ ((whole 13 *ᵣ (whole (30344 + 2) +ᵣ 18547666 ÷ 1000000) +ᵣ (whole 1 +ᵣ 18547666 ÷ 1000000) *ᵣ whole 150000000000) per 1000000)
    ≤ᵣ gap (stands many_heats) many_heats_figure)
unfolding stands
not-1-with-K = (refl, refl, lit≤ tt)

-- ---- `damaged`

report-never-damaged : (x : Figures) → reply_from x ≡ damaged → ⊥
report-never-damaged (declined n k) e = cc
report-never-damaged (figured fs) e = go (all_fit (report_from fs)) e
  where
    go : (t : Bool) → cond t (reported (report_from fs)) (refused_with 13) ≡ damaged → ⊥
    go true e = cc
    go false e = cc

entry-never-damaged : {A : Type 0} (o : Outcome A) → acknowledged o ≡ damaged → ⊥
entry-never-damaged (refused n) e = cc
entry-never-damaged (given a) e = cc

answer-never-damaged : (b : ReportInput) (c : Call) → answer b c ≡ damaged → ⊥
unfolding answer report_of
answer-never-damaged b (enter_grid g) e = entry-never-damaged (grid_judged g) e
answer-never-damaged b (enter_plant n p) e = entry-never-damaged (plant_judged n p) e
answer-never-damaged b (enter_source n a) e = entry-never-damaged (source_judged n a) e
answer-never-damaged b (drop_plant n) e = entry-never-damaged (drop_judged 7 (is_there (b.plant n)) n) e
answer-never-damaged b (drop_source n) e = entry-never-damaged (drop_judged 31 (is_there (b.source n)) n) e
answer-never-damaged b report e = report-never-damaged (figures_from b (sources_of b)) e

-- No list of calls from a new ledger is answered so at any place.
pub never-damaged : (calls : List Call) (i : ℕ) → i < length calls → get_or (answers step reply new_ledger calls) i ok ≡ damaged → ⊥
never-damaged calls i h e = answer-never-damaged _ _ (sym (claim-at calls i h report ok).answered ∙ e)

-- A ledger with a grid and nothing else.
abbrev pub grid_only : Grid → Ledger
grid_only g = record { grid = Some g; plants = new_ledger.plants; sources = new_ledger.sources }

-- A margin above the limit.
abbrev pub above_limit : Grid
above_limit = record { entry = record { margin = Stated 10000001; kind = Thermal }; up = 10000001; down = 10000001 }

-- The mean of 3 and 4, and 4 in place of 3 where it is rounded down.
abbrev pub other_rounding : Grid
other_rounding = record { entry = weighted 3 4 50 50; up = 4; down = 4 }

-- A ledger with such a grid is answered so, and no list of calls leaves it.
pub are-damaged : (reply (grid_only above_limit) report ≡ damaged) × (reply (grid_only other_rounding) report ≡ damaged)
unfolding run
are-damaged = (refl, refl)

pub no-calls-leave-it : (g : Grid) → grid_intact (Some g) ≡ false → (calls : List Call) → after_calls step new_ledger calls ≡ grid_only g → ⊥
no-calls-leave-it g d calls e =
    let h = records-show calls in
    let same = sym (ap (λ (b : ReportInput). b.grid) h.same) ∙ ap (λ (l : Ledger). l.grid) e in
    true≢false (sym (sound-intact (Some g) (subst GridSound same h.accepted.grid)) ∙ d)
