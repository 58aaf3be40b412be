-- Each standing source's figure stands on the safe side of its exact figure, and so do the sides and the reduction.
-- Assumes nothing.
use Rattle.std.specs.Prelude.{Option, None, Some}
use Prim.Native.Nat.{ℕ, ◌<◌, ◌≤◌, zero-le}
use mathlib.Core.Path.{◌≡◌, refl, sym, ap, subst, ◌∙◌}
use mathlib.Core.Bool.{Bool, true, false, cond}
use mathlib.Core.List.{List, [], ◌∷◌, map}
use native.Mathlib.Omega.{arith}
use native.Mathlib.Nat.{mul-pos}
use lib.Dec.{eqb}
use Rattle.rounding.specs.Ratio.{Ratio, sumᵣ, Conservative}
use Rattle.rounding.specs.declared.Direction.{Direction}
use Rattle.rounding.specs.Lists.{All}
use Rattle.rounding.proofs.Ratio.{Within, all_then, sum_over, conservative-within, conservative-distance}
use Rattle.metering.specs.Energy.{exact_energy}
use Rattle.metering.proofs.Readings.{unit-above-zero}
use Rattle.rounding.specs.Outcome.{Outcome, refused, given}
use Rattle.emissions.specs.Factor.{direction, site_named, Chosen, chosen, exact_factor_of}
use Rattle.emissions.specs.Loss.{loss_of}
use Rattle.emissions.specs.Figure.{Figure, figure_of, energy_with_losses, grams_of, exact_grams, heat_for, gap_limit, gap_allowance}
use Rattle.emissions.specs.declared.Side.{Side}
use Rattle.emissions.specs.declared.Side.TheVariants.{Project, Leakage, Baseline}
use Rattle.rounding.proofs.Outcomes.{given_is, then-given}
use Rattle.emissions.proofs.Grids.{GridSound}
use Rattle.emissions.proofs.Factors.{FactorSound, chosen-sound}
use Rattle.emissions.proofs.Losses.{loss-limit}
use Rattle.emissions.proofs.Figures.{figure-conservative, figure-within-allowance, figure-over, limit-over, allowance-over}
use Rattle.records.specs.Judging.{meters_of, kept}
use Rattle.report.specs.Report.{Numbered, sources_of, plants_of, consumption, compares_factor, compares_loss, captive_at, source_figure, Figured, Figures, declined, figured, with_figure, figures_from, side_index, of_side, grams_in, side_report, Report, report_from, refused_with, reported, all_fit, reply_from, report_of}
use Rattle.ledger.specs.Standing.{Standing, energy_of, kept_of, grid_of, input_of_standing}
use Rattle.ledger.specs.Exact.{figured_at, exact_energy_of, sites_of, exact_figure, gap, list_of, figures_of, exact_side, exact_reduction, heat_ratio_of, limit_of, allowance_of, side_allowance, reduction_allowance}
use Rattle.ledger.specs.Claim.{SourceSafe, SideSafe, ReportSafe}
use Rattle.records.specs.declared.Plant.{Plant}
use Rattle.records.specs.declared.SourceEntry.{SourceEntry}
use Rattle.records.specs.declared.Source.{Source}
use Rattle.ledger.proofs.Entries.{PlantFacts, SourceFacts}
use Rattle.report.proofs.Sites.{site-sound}
use Rattle.ledger.proofs.Sides.{side-conservative, reduction-safe, reduction-near, reduction-over}
use Rattle.report.proofs.Lists.{numbered, never-some, standing-all, standing-at, selected-all}

-- Everything that stands was accepted.
pub record Accepted (s : Standing) : Type 0 where
  pub grid : GridSound (grid_of s.grid)
  pub plant : (n : ℕ) (p : Plant) → s.plant n ≡ Some p → PlantFacts n p
  pub source : (n : ℕ) (e : SourceEntry) → s.source n ≡ Some e → SourceFacts n e

-- Grams g on the safe side of an exact figure x, within a limit l and an allowance a.
pub record GramsSafe (dir : Direction) (g : ℕ) (x l a : Ratio) : Type 0 where
  pub fraction : 0 < x.over
  pub limit_fraction : 0 < l.over
  pub allowance_fraction : 0 < a.over
  pub near : Conservative dir g x l
  pub small : Conservative dir g x a

abbrev pub FiguredSafe : Standing → Figured → Type 0
FiguredSafe s f = GramsSafe (direction f.side) f.figure.grams (exact_figure s f) (limit_of s f) (allowance_of s f)

energy-over : (e : SourceEntry) → 0 < (exact_energy (meters_of e)).over
unfolding exact_energy
energy-over e = unit-above-zero

-- ---- one source

-- The figure by its option and its loss.
module _ (s : Standing) (h : Accepted s) (n : ℕ) (e : SourceEntry) (at : s.source n ≡ Some e) (x : Chosen) (T : ℕ)
    (hc : chosen (direction e.side) (grid_of s.grid) (captive_at (direction e.side) (plants_of (input_of_standing s))) (consumption compares_factor (sources_of (input_of_standing s))) e.supply
    ≡ given x)
    (hT : loss_of (direction e.side) (consumption compares_loss (sources_of (input_of_standing s))) e.loss ≡ given T) where
  abbrev dir : Direction
  dir = direction e.side

  abbrev F : ℕ
  F = x.factor

  abbrev U : ℕ
  U = energy_with_losses dir (energy_of e) T

  abbrev exact_f : Ratio
  exact_f = exact_factor_of dir (grid_of s.grid) (sites_of s) x.choice

  -- Its K.
  abbrev heat : Option Ratio
  heat = heat_for dir (sites_of s) (site_named e.supply)

  factor : FactorSound dir F exact_f heat
  factor =
      chosen-sound dir (grid_of s.grid) (sites_of s) (consumption compares_factor (sources_of (input_of_standing s))) h.grid
      (site-sound s.plant (λ k p q. ((h.plant k p q).lines, (h.plant k p q).heat))) e.supply x hc

  loss : T ≤ 5000
  loss = loss-limit dir (consumption compares_loss (sources_of (input_of_standing s))) e.loss T (h.source n e at).loss hT

  -- By the entry itself,
  entry-safe : GramsSafe dir (grams_of dir U F) (exact_grams (exact_energy (meters_of e)) T exact_f) (gap_limit heat F U) (gap_allowance heat F U)
  entry-safe =
      let facts = h.source n e at in
      let energy = exact_energy (meters_of e) in
      record {
        fraction = figure-over energy T exact_f (energy-over e) factor.over;
        limit_fraction = limit-over heat factor.heat F U;
        allowance_fraction = allowance-over heat factor.heat F U;
        near = figure-conservative dir (energy_of e) T F energy exact_f heat (energy-over e) factor.over factor.unsigned factor.heat loss facts.near
            factor.near;
        small = figure-within-allowance dir (energy_of e) T F energy exact_f heat (energy-over e) factor.over factor.unsigned factor.heat loss
            facts.near factor.near facts.limit factor.limit;
      }

  -- and as what stands under its number.
  option-safe : FiguredSafe s (figured_at n e (figure_of dir (energy_of e) x.choice T F))
  unfolding figure_of exact_figure limit_of allowance_of
  option-safe =
      subst (λ (o : Option SourceEntry). GramsSafe dir (grams_of dir U F) (exact_grams (exact_energy_of o) T exact_f) (gap_limit (heat_ratio_of (sites_of s) o) F U)
      (gap_allowance (heat_ratio_of (sites_of s) o) F U)) (sym at) entry-safe

pub source-safe : (s : Standing) → Accepted s → (n : ℕ) (e : SourceEntry) → s.source n ≡ Some e → (f : Figure)
    → source_figure (input_of_standing s) (kept e (energy_of e)) ≡ given f → FiguredSafe s (figured_at n e f)
unfolding source_figure
source-safe s h n e at f q =
    let dir = direction e.side in
    let a = then-given (chosen dir (grid_of s.grid) (captive_at dir (plants_of (input_of_standing s))) (consumption compares_factor (sources_of (input_of_standing s))) e.supply) _ q in
    let b = then-given (loss_of (direction e.side) (consumption compares_loss (sources_of (input_of_standing s))) e.loss) _ a.2 in
    subst (λ (g : Figure). FiguredSafe s (figured_at n e g)) (given_is b.2) (option-safe s h n e at a.0 b.0 a.1 b.1)

-- ---- the list of figures

-- A source that a report reads is that of a standing entry.
abbrev pub Shown : Standing → Numbered Source → Type 0
Shown s x = (e : SourceEntry) × (s.source x.number ≡ Some e) × (x.item ≡ kept e (energy_of e))

shown : (s : Standing) (n : ℕ) (a : Source) (o : Option SourceEntry) → s.source n ≡ o → kept_of o ≡ Some a → Shown s (numbered n a)
shown s n a None p q = absurd (never-some q)
shown s n a (Some e) p q = (e, p, cc)

pub all_shown : (s : Standing) → All (Shown s) (sources_of (input_of_standing s))
all_shown s = standing-all (input_of_standing s).source (Shown s) 0 32 (λ n a q l u. shown s n a (s.source n) refl q)

-- The source has a figure.
abbrev Counted : Standing → Numbered Source → Type 0
Counted s x = (f : Figure) × (source_figure (input_of_standing s) x.item ≡ given f)

-- Where no source is refused, each has a figure, and every figure is safe.
abbrev Whole : Standing → List (Numbered Source) → List Figured → Type 0
Whole s xs fs = All (Counted s) xs × All (FiguredSafe s) fs

figures-whole : (s : Standing) → Accepted s → (xs : List (Numbered Source)) → All (Shown s) xs → (fs : List Figured)
    → figures_from (input_of_standing s) xs ≡ figured fs → Whole s xs fs
unfolding figures_from
figures-whole s h [] k fs e = let z : [] ≡ fs = cc in (tt, subst (All (FiguredSafe s)) z tt)
figures-whole s h (x ∷ xs) k fs e =
    go (source_figure (input_of_standing s) x.item) (figures_from (input_of_standing s) xs) refl refl e (figures-whole s h xs k.1)
  where
    safe : (f : Figure) → source_figure (input_of_standing s) x.item ≡ given f → FiguredSafe s (record { number = x.number; side = x.item.side; figure = f })
    safe f q =
        let e = k.0.0 in
        subst (λ (a : Source). FiguredSafe s (record { number = x.number; side = a.side; figure = f })) (sym k.0.2)
        (source-safe s h x.number e k.0.1 f (ap (source_figure (input_of_standing s)) (sym k.0.2) ∙ q))

    go : (o : Outcome Figure) (r : Figures) → source_figure (input_of_standing s) x.item ≡ o → figures_from (input_of_standing s) xs ≡ r → with_figure x o r ≡ figured fs
        → ((gs : List Figured) → figures_from (input_of_standing s) xs ≡ figured gs → Whole s xs gs) → Whole s (x ∷ xs) fs
    go (refused n) r p q w ih = absurd (cc)
    go (given f) (declined n j) p q w ih = absurd (cc)
    go (given f) (figured gs) p q w ih =
        let z : record { number = x.number; side = x.item.side; figure = f } ∷ gs ≡ fs = cc in
        (((f, p), (ih gs q).0), subst (All (FiguredSafe s)) z (safe f p, (ih gs q).1))

-- ---- a side

pub same-side : (a b : Side) → eqb (side_index a) (side_index b) ≡ true → direction a ≡ direction b
same-side Project Project e = refl
same-side Project Leakage e = refl
same-side Project Baseline e = cc
same-side Leakage Project e = refl
same-side Leakage Leakage e = refl
same-side Leakage Baseline e = cc
same-side Baseline Project e = cc
same-side Baseline Leakage e = cc
same-side Baseline Baseline e = refl

module _ (s : Standing) (side : Side) (h : All (FiguredSafe s) (figures_of s)) where
  abbrev fs : List Figured
  fs = of_side side (figures_of s)

  abbrev P : Figured → Type 0
  P f = FiguredSafe s f × (eqb (side_index f.side) (side_index side) ≡ true)

  in-side : All P fs
  unfolding of_side
  in-side = selected-all (FiguredSafe s) (λ (f : Figured). eqb (side_index f.side) (side_index side)) (figures_of s) h

  exact-over : 0 < (sumᵣ (map (exact_figure s) fs)).over
  exact-over = sum_over (exact_figure s) fs (all_then {P = P} (λ f k. k.0.fraction) fs in-side)

  allowances-over : 0 < (sumᵣ (map (allowance_of s) fs)).over
  allowances-over = sum_over (allowance_of s) fs (all_then {P = P} (λ f k. k.0.allowance_fraction) fs in-side)

  side-near : All (λ (f : Figured). Within (direction side) (grams_in f) (exact_figure s f) (allowance_of s f)) fs
  side-near =
      all_then {P = P} (λ f k. subst (λ (dir : Direction). Within dir (grams_in f) (exact_figure s f) (allowance_of s f)) (same-side f.side side k.1)
      (conservative-within (direction f.side) (grams_in f) (exact_figure s f) (allowance_of s f) k.0.small)) fs in-side

  pub side-safe : SideSafe s side (side_report side (figures_of s))
  unfolding exact_side side_allowance side_report
  side-safe =
      record {
        fraction = mul-pos exact-over (omega arith);
        allowance_fraction = mul-pos (mul-pos allowances-over (omega arith)) (omega arith);
        safe = side-conservative (direction side) grams_in (exact_figure s) (allowance_of s) fs side-near exact-over allowances-over;
      }

-- ---- the whole report

module _ (s : Standing) (h : Accepted s) (fs : List Figured) (e : figures_from (input_of_standing s) (sources_of (input_of_standing s)) ≡ figured fs) where
  all-safe : Whole s (sources_of (input_of_standing s)) fs
  all-safe = figures-whole s h (sources_of (input_of_standing s)) (all_shown s) fs e

  each-side : (side : Side) → SideSafe s side (side_report side fs)
  each-side side =
      subst (λ (gs : List Figured). SideSafe s side (side_report side gs)) (ap list_of e)
      (side-safe s side (subst (All (FiguredSafe s)) (sym (ap list_of e)) all-safe.1))

  each-source : (n : ℕ) (a : SourceEntry) → s.source n ≡ Some a → (f : Figure) × SourceSafe s n a f
  unfolding gap
  each-source n a at =
      let c = standing-at (input_of_standing s).source (Counted s) 0 32 all-safe.0 n (kept a (energy_of a)) (ap kept_of at) zero-le
      (omega (arith, (h.source n a at).number)) in
      let k = source-safe s h n a at c.0 c.1 in
      let x = figured_at n a c.0 in
      let dir = direction a.side in (
        c.0,
        record {
          counted = c.1;
          fraction = k.fraction;
          limit_fraction = k.limit_fraction;
          allowance_fraction = k.allowance_fraction;
          safe = k.near;
          gap_below = conservative-distance dir c.0.grams (exact_figure s x) (limit_of s x) k.near;
          gap_small = conservative-distance dir c.0.grams (exact_figure s x) (allowance_of s x) k.small;
        },
      )

  figures-safe : ReportSafe s (report_from fs)
  unfolding report_from exact_reduction side_allowance reduction_allowance
  figures-safe =
      let b = each-side Baseline in
      let p = each-side Project in
      let l = each-side Leakage in
      let B = exact_side s Baseline in
      let P = exact_side s Project in
      let L = exact_side s Leakage in
      record {
        sources = each-source;
        project = p;
        leakage = l;
        baseline = b;
        fraction = reduction-over B P L b.fraction p.fraction l.fraction;
        allowance_fraction = mul-pos b.allowance_fraction (mul-pos p.allowance_fraction l.allowance_fraction);
        reduction_safe = reduction-safe _ _ _ B P L _ _ _ p.fraction l.fraction p.allowance_fraction l.allowance_fraction
            b.safe p.safe l.safe;
        reduction_near = reduction-near _ _ _ B P L _ _ _ p.fraction l.fraction p.allowance_fraction l.allowance_fraction
            b.safe p.safe l.safe;
      }

-- A report that is given is safe.
pub report-safe : (s : Standing) → Accepted s → (r : Report) → report_of (input_of_standing s) ≡ reported r → ReportSafe s r
unfolding report_of
report-safe s h r q = go (figures_from (input_of_standing s) (sources_of (input_of_standing s))) refl q
  where
    fitted : (t : Bool) (r' : Report) → cond t (reported r') (refused_with 13) ≡ reported r → r' ≡ r
    fitted true r' e = cc
    fitted false r' e = cc

    go : (x : Figures) → figures_from (input_of_standing s) (sources_of (input_of_standing s)) ≡ x → reply_from x ≡ reported r → ReportSafe s r
    go (declined n k) e w = absurd (cc)
    go (figured fs) e w = subst (ReportSafe s) (fitted (all_fit (report_from fs)) (report_from fs) w) (figures-safe s h fs e)
