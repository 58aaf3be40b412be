-- The allowances where no source has K: 1 tonne a side and 200 kilograms for each of its sources, and 3 tonnes and 200
-- kilograms for each source in the reduction, as document 01 has them. Assumes nothing.
use Rattle.std.specs.Prelude.{Option, None, Some}
use Prim.Native.Nat.{ℕ, ◌+◌, ◌*◌}
use mathlib.Core.Path.{◌≡◌, refl, sym, ap, subst, ◌∙◌}
use mathlib.Core.List.{List, [], ◌∷◌, map}
use native.Mathlib.Omega.{arith}
use lib.Dec.{eqb}
use lib.ListN.{length}
use Rattle.rounding.specs.Lists.{All}
use Rattle.rounding.specs.Outcome.{Outcome, refused, given}
use Rattle.rounding.specs.Ratio.{Ratio, ◌÷◌, whole, ◌≤ᵣ◌, ◌+ᵣ◌, ◌per◌, sumᵣ}
use Rattle.rounding.specs.declared.Direction.{Direction}
use Rattle.rounding.specs.declared.Direction.TheVariants.{Up}
use Rattle.rounding.proofs.Order.{trans_le, add-le}
use Rattle.rounding.proofs.Ratio.{all_then, sum-equal}
use Rattle.emissions.specs.Factor.{direction, site_named}
use Rattle.emissions.specs.Figure.{Figure, heat_for, gap_allowance}
use Rattle.emissions.specs.declared.Side.{Side}
use Rattle.emissions.specs.declared.Side.TheVariants.{Project, Leakage, Baseline}
use Rattle.records.specs.declared.Source.{Source}
use Rattle.records.specs.declared.SourceEntry.{SourceEntry}
use Rattle.report.specs.Report.{Numbered, sources_of, source_figure, Figured, Figures, declined, figured, with_figure, figures_from, side_index, of_side}
use Rattle.report.proofs.Lists.{selected-all}
use Rattle.ledger.specs.Standing.{Standing, input_of_standing}
use Rattle.ledger.specs.Exact.{sites_of, list_of, figures_of, heat_ratio_of, allowance_of, side_allowance, reduction_allowance}
use Rattle.ledger.proofs.Figures.{Shown, all_shown, same-side}

-- Two exact values are the same number.
abbrev pub Equal : Ratio → Ratio → Type 0
Equal x y = (x ≤ᵣ y) × (y ≤ᵣ x)

-- No source among some figures has K.
abbrev Plain : Standing → Figured → Type 0
Plain s f = heat_ratio_of (sites_of s) (s.source f.number) ≡ None

abbrev pub NoHeat : Standing → List Figured → Type 0
NoHeat s fs = All (Plain s) fs

-- ---- a side

plain-allowance : (s : Standing) (f : Figured) → Plain s f → allowance_of s f ≡ whole 200000
unfolding allowance_of gap_allowance
plain-allowance s f e = ap (λ (k : Option Ratio). gap_allowance k f.figure.factor f.figure.energy) e

each-plain : (s : Standing) (fs : List Figured) → NoHeat s fs → map (allowance_of s) fs ≡ map (λ (f : Figured). whole 200000) fs
each-plain s [] h = refl
each-plain s (f ∷ fs) h = rw (plain-allowance s f h.0, each-plain s fs h.1)

-- 1 tonne and 200 kilograms for each source of the side.
pub allowance-counted : (s : Standing) (side : Side) → NoHeat s (of_side side (figures_of s))
    → Equal (side_allowance s side) ((1000 + 200 * length (of_side side (figures_of s))) ÷ 1000)
unfolding side_allowance
allowance-counted s side h =
    let fs = of_side side (figures_of s) in
    subst (λ (x : Ratio). Equal (x per 1000000 +ᵣ whole 1) ((1000 + 200 * length fs) ÷ 1000)) (sym (ap sumᵣ (each-plain s fs h) ∙ sum-equal 200000 fs))
    (counted (length fs))
  where
    counted : (n : ℕ) → Equal (whole (n * 200000) per 1000000 +ᵣ whole 1) ((1000 + 200 * n) ÷ 1000)
    counted n = (omega arith, omega arith)

-- ---- project and leakage: none of their sources has K

-- A figure is that of a standing entry, on the entry's side.
abbrev OfEntry : Standing → Figured → Type 0
OfEntry s f = (e : SourceEntry) × (s.source f.number ≡ Some e) × (f.side ≡ e.side)

figures-entered : (s : Standing) (xs : List (Numbered Source)) → All (Shown s) xs → All (OfEntry s) (list_of (figures_from (input_of_standing s) xs))
unfolding figures_from
figures-entered s [] h = tt
figures-entered s (x ∷ xs) h = go (source_figure (input_of_standing s) x.item) (figures_from (input_of_standing s) xs) (figures-entered s xs h.1)
  where
    go : (o : Outcome Figure) (r : Figures) → All (OfEntry s) (list_of r) → All (OfEntry s) (list_of (with_figure x o r))
    go (refused n) r k = tt
    go (given f) (declined n j) k = tt
    go (given f) (figured fs) k = ((h.0.0, h.0.1, ap (λ (a : Source). a.side) h.0.2), k)

upward-plain : (s : Standing) (f : Figured) → OfEntry s f → direction f.side ≡ Up → Plain s f
upward-plain s f k up =
    let e = k.0 in
    ap (heat_ratio_of (sites_of s)) k.1
    ∙ ap (λ (dir : Direction). heat_for dir (sites_of s) (site_named e.supply)) (sym (ap direction k.2) ∙ up)

pub upward-allowance-counted : (s : Standing) (side : Side) → direction side ≡ Up
    → Equal (side_allowance s side) ((1000 + 200 * length (of_side side (figures_of s))) ÷ 1000)
unfolding of_side
upward-allowance-counted s side up =
    allowance-counted s side
    (all_then (λ f k. upward-plain s f k.0 (same-side f.side side k.1 ∙ up)) (of_side side (figures_of s))
    (selected-all (OfEntry s) (λ (f : Figured). eqb (side_index f.side) (side_index side)) (figures_of s)
    (figures-entered s (sources_of (input_of_standing s)) (all_shown s))))

-- ---- the reduction

abbrev side_of : ℕ → Ratio
side_of n = (1000 + 200 * n) ÷ 1000

three-sides : (i j k : ℕ) (w u v : Ratio) → Equal w (side_of i) → Equal u (side_of j) → Equal v (side_of k)
    → Equal (w +ᵣ (u +ᵣ v)) ((3000 + 200 * (j + k + i)) ÷ 1000)
three-sides i j k w u v b p l =
    let sums = side_of i +ᵣ (side_of j +ᵣ side_of k) in
    let total = (3000 + 200 * (j + k + i)) ÷ 1000 in (
      trans_le (w +ᵣ (u +ᵣ v)) sums total (omega arith)
          (add-le w (side_of i) (u +ᵣ v) (side_of j +ᵣ side_of k) b.0 (add-le u (side_of j) v (side_of k) p.0 l.0)) (omega arith),
      trans_le total sums (w +ᵣ (u +ᵣ v)) (omega arith) (omega arith)
          (add-le (side_of i) w (side_of j +ᵣ side_of k) (u +ᵣ v) b.1 (add-le (side_of j) u (side_of k) v p.1 l.1)),
    )

-- 3 tonnes and 200 kilograms for each source.
pub reduction-allowance-counted : (s : Standing) → NoHeat s (figures_of s)
    → Equal (reduction_allowance s)
    ((3000 + 200 * (length (of_side Project (figures_of s)) + length (of_side Leakage (figures_of s)) + length (of_side Baseline (figures_of s)))) ÷ 1000)
unfolding reduction_allowance of_side
reduction-allowance-counted s h =
    three-sides _ _ _ (side_allowance s Baseline) (side_allowance s Project) (side_allowance s Leakage) (by Baseline) (by Project) (by Leakage)
  where
    by : (side : Side) → Equal (side_allowance s side) (side_of (length (of_side side (figures_of s))))
    by side =
        allowance-counted s side
        (all_then (λ f k. k.0) (of_side side (figures_of s)) (selected-all (Plain s) (λ (f : Figured). eqb (side_index f.side) (side_index side)) (figures_of s) h))
