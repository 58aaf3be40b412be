-- How large an answer's numbers are: refusals and sources below 100, and a report's numbers within the paper's limits.
-- Assumes nothing.
use Rattle.std.specs.Prelude.{Option, None, Some}
use Prim.Native.Nat.{ℕ, zero, suc, ◌+◌, ◌-◌, ◌≤◌, ◌<◌}
use mathlib.Core.Path.{◌≡◌, refl}
use mathlib.Core.Bool.{Bool, true, false, not, cond, ◌&&◌, ◌||◌}
use mathlib.Core.List.{List}
use mathlib.Core.Logic.{◌⊎◌, inl, inr}
use native.Mathlib.Omega.{arith}
use lib.Dec.{leb, ltb, eqb}
use lib.IntN.{ℤ, pos, negsuc, nat_abs}
use lib.ListN.{length}
use borrow.Author.Tests.{leb-true}
use Rattle.rounding.specs.Divided.{divided}
use Rattle.rounding.specs.declared.Direction.{Direction}
use Rattle.rounding.proofs.Tests.{and_both}
use Rattle.rounding.proofs.Divided.{divided-at-most}
use Rattle.rounding.proofs.Integers.{Differ}
use Rattle.metering.specs.Reading.{limit}
use Rattle.metering.specs.Energy.{judged_readings, judged_meters, settled_energy}
use Rattle.metering.specs.declared.Meter.{Meter}
use Rattle.rounding.specs.Outcome.{Outcome, refused, given, refuse_unless, and_then}
use Rattle.emissions.specs.Factor.{factor_limit, direction, is_entered, low_default, Site, grid_default, captive_judged, at_site, chosen}
use Rattle.emissions.specs.Loss.{is_project, is_baseline, loss_of}
use Rattle.emissions.specs.Figure.{Figure}
use Rattle.emissions.specs.declared.Side.{Side}
use Rattle.emissions.specs.declared.Grid.{Grid}
use Rattle.emissions.specs.declared.GridEntry.{GridEntry}
use Rattle.emissions.specs.declared.Supply.{Supply}
use Rattle.emissions.specs.declared.Supply.TheVariants.{Combined, GridDefault, Captive, CaptiveDefault, Either}
use Rattle.emissions.specs.declared.Loss.{Loss}
use Rattle.emissions.specs.declared.Loss.TheVariants.{Nothing, Measured, Default20, Default3}
use Rattle.emissions.specs.declared.Consumption.{Consumption}
use Rattle.emissions.specs.Grid.{margin_within_limits, weights_full, entered_grid, grid_judged}
use Rattle.records.specs.Heat.{has_heat, fuel_energy, all_energy}
use Rattle.records.specs.Judging.{kept, source_judged, is_there, drop_judged, lines_of, all_within_limits, plant_judged, supply_within_limits, loss_within_limits, loss_matches}
use Rattle.report.specs.Report.{ReportInput, Numbered, prepend_standing, standing, sources_of, plants_of, site_of, source_figure, Figured, Figures, declined, figured, with_figure, prepended, figures_from, of_side, SideReport, side_fits, side_report, reduction, Report, report_from, all_fit, Reply, ok, refused_with, refused_at, reported, damaged, reply_from, report_of, checked_report_of, acknowledged, intact}
use Rattle.ledger.specs.Standing.{Call, enter_grid, enter_plant, enter_source, drop_plant, drop_source, report, answer}
use Rattle.ledger.specs.Operations.{recorded, reply}
use Rattle.records.specs.declared.Plant.{Plant}
use Rattle.records.specs.declared.SourceEntry.{SourceEntry}
use Rattle.records.specs.declared.Source.{Source}
use Rattle.ledger.specs.declared.Ledger.{Ledger}
use Rattle.report.proofs.Lists.{numbered, selected-length}
use Rattle.ledger.proofs.Sides.{reduction-differ}

-- ---- the numbers of the refusals

-- The number of a refusal; 0 where nothing was refused.
abbrev refusal : {A : Type 0} → Outcome A → ℕ
refusal (refused n) = n
refusal (given a) = 0

-- A refusal has a number below 100.
record Low {A : Type 0} (o : Outcome A) : Type 0 where
  number : refusal o < 100

refused-low : {A : Type 0} (n : ℕ) → n < 100 → Low {A = A} (refused n)
refused-low n h = record { number = h }

given-low : {A : Type 0} (a : A) → Low (given a)
given-low a = record { number = omega arith }

cond-low : {A : Type 0} (t : Bool) (o p : Outcome A) → Low o → Low p → Low (cond t o p)
cond-low true o p h k = h
cond-low false o p h k = k

unless-low : {A : Type 0} (n : ℕ) (t : Bool) (o : Outcome A) → n < 100 → Low o → Low (refuse_unless n t o)
unless-low n true o h k = k
unless-low n false o h k = refused-low n h

then-low : {A B : Type 0} (o : Outcome A) (f : A → Outcome B) → Low o → ((a : A) → Low (f a)) → Low (and_then o f)
then-low (refused n) f h k = refused-low n h.number
then-low (given a) f h k = k a

grid-low : (g : GridEntry) → Low (grid_judged g)
unfolding grid_judged
grid-low g =
    unless-low 2 (margin_within_limits g.margin) _ (omega arith) (unless-low 15 (weights_full g.margin) _ (omega arith) (given-low (entered_grid g)))

plant-low : (n : ℕ) (p : Plant) → Low (plant_judged n p)
unfolding plant_judged
plant-low n p =
    unless-low 1 (leb n 7 && leb p.site 3) _ (omega arith)
    (unless-low 2 (leb p.count 4 && leb p.generation 100000000 && all_within_limits (lines_of p)) _ (omega arith)
    (unless-low 16 (not (has_heat p.heat) || all_energy (lines_of p)) _ (omega arith)
    (unless-low 17 (leb p.heat (fuel_energy (lines_of p))) _ (omega arith)
    (given-low p))))

drop-low : (last : ℕ) (stands : Bool) (n : ℕ) → Low (drop_judged last stands n)
unfolding drop_judged
drop-low last stands n =
    unless-low 1 (leb n last) _ (omega arith) (unless-low 7 stands _ (omega arith) (given-low tt))

meters-low : (dir : Direction) (c : ℕ) (ms : List Meter) → Low (judged_meters dir c ms)
unfolding judged_meters judged_readings
meters-low dir c ms =
    unless-low 2 _ _ (omega arith) (unless-low 3 _ _ (omega arith) (unless-low 4 _ _ (omega arith) (given-low _)))

energy-low : (adds takes : ℕ) → Low (settled_energy adds takes)
unfolding settled_energy
energy-low adds takes = unless-low 6 (leb takes adds && leb adds (takes + limit)) _ (omega arith) (given-low (adds - takes))

source-low : (n : ℕ) (e : SourceEntry) → Low (source_judged n e)
unfolding source_judged
source-low n e =
    unless-low 1 (leb n 31 && supply_within_limits e.supply) _ (omega arith)
    (unless-low 2 (loss_within_limits e.loss) _ (omega arith)
    (then-low (judged_meters (direction e.side) e.count e.meters) _ (meters-low _ _ _) (λ r.
    unless-low 5 (loss_matches e.supply e.loss) _ (omega arith)
    (then-low (settled_energy r.adds r.takes) _ (energy-low r.adds r.takes) (λ E.
    given-low (kept e E))))))

-- ---- the numbers of a report's refusals

default-low : (grid : Option Grid) (c : Consumption) → Low (grid_default grid c)
unfolding grid_default
default-low grid c =
    cond-low (eqb c.baselines 0 || ltb c.baseline c.project) _ _ (given-low 1300000)
    (cond-low (eqb c.projects 0 || ltb c.project c.baseline) _ _ (given-low (low_default grid)) (refused-low 11 (omega arith)))

captive-low : (dir : Direction) (s : Site) → Low (at_site dir s)
unfolding captive_judged
captive-low dir s =
    unless-low 9 (leb 1000 s.generation) _ (omega arith)
    (unless-low 10 (leb (divided dir (s.milligrams dir) s.generation) factor_limit) _ (omega arith)
    (given-low (divided dir (s.milligrams dir) s.generation)))

chosen-low : (dir : Direction) (grid : Option Grid) (captive_at : ℕ → Outcome ℕ) (c : Consumption) → ((S : ℕ) → Low (captive_at S)) → (s : Supply)
    → Low (chosen dir grid captive_at c s)
unfolding chosen
chosen-low dir grid captive_at c h Combined = unless-low 8 (is_entered grid) _ (omega arith) (given-low _)
chosen-low dir grid captive_at c h GridDefault =
    unless-low 8 (is_entered grid) _ (omega arith) (then-low (grid_default grid c) _ (default-low grid c) (λ F. given-low _))
chosen-low dir grid captive_at c h (Captive S) = then-low (captive_at S) _ (h S) (λ F. given-low _)
chosen-low dir grid captive_at c h CaptiveDefault = given-low _
chosen-low dir grid captive_at c h (Either S) =
    unless-low 8 (is_entered grid) _ (omega arith) (then-low (captive_at S) _ (h S) (λ F. given-low _))

loss-low : (dir : Direction) (c : Consumption) (l : Loss) → Low (loss_of dir c l)
unfolding loss_of
loss-low dir c Nothing = given-low 0
loss-low dir c (Measured T) = given-low T
loss-low dir c Default20 = unless-low 12 (is_project dir || ltb c.baseline c.project) _ (omega arith) (given-low 2000)
loss-low dir c Default3 = unless-low 12 (is_baseline dir || ltb c.project c.baseline) _ (omega arith) (given-low 300)

figure-low : (b : ReportInput) (s : Source) → Low (source_figure b s)
unfolding source_figure
figure-low b s =
    then-low _ _ (chosen-low (direction s.side) b.grid _ _ (λ S. captive-low (direction s.side) (site_of (plants_of b) S)) s.supply) (λ x.
    then-low _ _ (loss-low (direction s.side) _ s.loss) (λ T. given-low _))

-- A refusal at a source, both numbers below 100, or at most so many figures.
abbrev Counted : ℕ → Figures → Type 0
Counted count (declined n k) = (n < 100) × (k < 100)
Counted count (figured fs) = length fs ≤ count

counted-more : (count : ℕ) (fs : Figures) → Counted count fs → Counted (suc count) fs
counted-more count (declined n k) h = h
counted-more count (figured fs) h = omega arith

prepended-counted : (count : ℕ) (f : Figured) (fs : Figures) → Counted count fs → Counted (suc count) (prepended f fs)
prepended-counted count f (declined n k) h = h
prepended-counted count f (figured fs) h = omega arith

with-counted : (count : ℕ) (x : Numbered Source) (o : Outcome Figure) (rest : Figures) → x.number < 100 → Low o → Counted count rest
    → Counted (suc count) (with_figure x o rest)
with-counted count x (refused n) rest h low k = (low.number, h)
with-counted count x (given f) rest h low k = prepended-counted count _ rest k

figures-counted : (b : ReportInput) (place : ℕ → Option Source) (from count : ℕ) → from + count ≤ 100
    → Counted count (figures_from b (standing place from count))
unfolding figures_from standing
figures-counted b place from zero h = omega arith
figures-counted b place from (suc count) h = go (place from) (figures-counted b place (suc from) count (omega arith))
  where
    go : (o : Option Source) → Counted count (figures_from b (standing place (suc from) count))
        → Counted (suc count) (figures_from b (prepend_standing from o (standing place (suc from) count)))
    go None k = counted-more count (figures_from b (standing place (suc from) count)) k
    go (Some s) k =
        with-counted count (numbered from s) (source_figure b s) (figures_from b (standing place (suc from) count)) (omega arith) (figure-low b s) k

-- ---- the numbers of a report

pub record SideWithin (s : SideReport) : Type 0 where
  pub tonnes : s.tonnes ≤ 1000000000
  pub grams : s.grams ≤ 1000000000000000
  pub sources : s.sources ≤ 32

pub record ReportWithin (r : Report) : Type 0 where
  pub project : SideWithin r.project
  pub leakage : SideWithin r.leakage
  pub baseline : SideWithin r.baseline
  pub reduction : nat_abs r.reduction ≤ 3000000000

side-within : (side : Side) (fs : List Figured) → length fs ≤ 32 → side_fits (side_report side fs) ≡ true → SideWithin (side_report side fs)
unfolding side_report of_side
side-within side fs h fits =
    let g = leb-true _ 1000000000000000 fits in
    let k : length (of_side side fs) ≤ length fs = selected-length _ fs in
    record {
      tonnes = divided-at-most _ _ 1000000 1000000000 (omega arith) g;
      grams = g;
      sources = omega arith;
    }

-- A difference is no further from 0 than its two numbers together.
differ-size : (z : ℤ) (a b : ℕ) → Differ z a b → nat_abs z ≤ a + b
differ-size (pos n) a b h = omega arith
differ-size (negsuc n) a b h = omega arith

reduction-size : (b p l : ℕ) → nat_abs (reduction b p l) ≤ b + (p + l)
reduction-size b p l = differ-size (reduction b p l) b (p + l) (reduction-differ b p l)

report-within : (fs : List Figured) → length fs ≤ 32 → all_fit (report_from fs) ≡ true → ReportWithin (report_from fs)
unfolding report_from
report-within fs h fits =
    let p = and_both (side_fits (report_from fs).project && side_fits (report_from fs).leakage) _ fits in
    let q = and_both (side_fits (report_from fs).project) _ p.0 in
    let project = side-within _ fs h q.0 in
    let leakage = side-within _ fs h q.1 in
    let baseline = side-within _ fs h p.1 in
    record {
      project = project;
      leakage = leakage;
      baseline = baseline;
      reduction = omega (arith, reduction-size (report_from fs).baseline.tonnes (report_from fs).project.tonnes (report_from fs).leakage.tonnes);
    }

-- ---- the answers

abbrev pub ReplyWithin : Reply → Type 0
ReplyWithin ok = Unit {0}
ReplyWithin (refused_with n) = n < 100
ReplyWithin (refused_at n k) = (n < 100) × (k < 100)
ReplyWithin (reported r) = ReportWithin r
ReplyWithin damaged = Unit {0}

-- An answer that is no report's: accepted, or refused with a number.
abbrev pub Plain : Reply → Type 0
Plain ok = Unit {0}
Plain (refused_with n) = n < 100
Plain (refused_at n k) = ⊥
Plain (reported r) = ⊥
Plain damaged = ⊥

acknowledged-plain : {A : Type 0} (o : Outcome A) → Low o → Plain (acknowledged o)
acknowledged-plain (refused n) h = h.number
acknowledged-plain (given a) h = tt

-- Only a report is answered otherwise.
pub reply-plain : (l : Ledger) (c : Call) → (c ≡ report) ⊎ Plain (reply l c)
unfolding reply answer
reply-plain l (enter_grid g) = inr (acknowledged-plain _ (grid-low g))
reply-plain l (enter_plant n p) = inr (acknowledged-plain _ (plant-low n p))
reply-plain l (enter_source n e) = inr (acknowledged-plain _ (source-low n e))
reply-plain l (drop_plant n) = inr (acknowledged-plain _ (drop-low 7 (is_there ((recorded l).plant n)) n))
reply-plain l (drop_source n) = inr (acknowledged-plain _ (drop-low 31 (is_there ((recorded l).source n)) n))
reply-plain l report = inl refl

report-of-within : (b : ReportInput) → ReplyWithin (report_of b)
unfolding report_of
report-of-within b = go (figures_from b (sources_of b)) (figures-counted b b.source 0 32 (omega arith))
  where
    by-fit : (fs : List Figured) (t : Bool) → length fs ≤ 32 → all_fit (report_from fs) ≡ t
        → ReplyWithin (cond t (reported (report_from fs)) (refused_with 13))
    by-fit fs true k e = report-within fs k e
    by-fit fs false k e = omega arith

    go : (fs : Figures) → Counted 32 fs → ReplyWithin (reply_from fs)
    go (declined n k) h = h
    go (figured fs) h = by-fit fs (all_fit (report_from fs)) h refl

plain-within : (r : Reply) → Plain r → ReplyWithin r
plain-within ok h = tt
plain-within (refused_with n) h = h
plain-within (refused_at n k) h = absurd h
plain-within (reported r) h = absurd h
plain-within damaged h = tt

report-within-reply : (l : Ledger) → ReplyWithin (reply l report)
unfolding reply checked_report_of
report-within-reply l = go (intact (recorded l))
  where
    go : (t : Bool) → ReplyWithin (cond t (report_of (recorded l)) damaged)
    go true = report-of-within (recorded l)
    go false = tt

pub reply-within : (l : Ledger) (c : Call) → ReplyWithin (reply l c)
reply-within l c = elim (reply-plain l c) [
  | inl e ↦ rw e (report-within-reply l)
  | inr p ↦ plain-within (reply l c) p
]
