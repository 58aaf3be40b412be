-- The combined margin of a grid that an entry leaves: its roundings stand on their sides of the unrounded mean, less
-- than 1 mg/kWh off, and are at most 10,000,000. Assumes nothing.
use Rattle.std.specs.Prelude.{Option, None, Some}
use Prim.Native.Nat.{◌+◌, ◌*◌, ◌<◌, ◌≤◌}
use mathlib.Core.Path.{◌≡◌, refl, sym, ap}
use mathlib.Core.Bool.{true, ◌&&◌, true≢false}
use native.Mathlib.Omega.{arith}
use native.Mathlib.Nat.{mul-le-mul_right}
use lib.Dec.{leb, eqb}
use borrow.Author.Tests.{leb-true, eqb-true, eq-eqb}
use Rattle.rounding.specs.Outcome.{Outcome, refused, given}
use Rattle.rounding.specs.Ratio.{whole, Conservative}
use Rattle.rounding.specs.declared.Direction.{Direction}
use Rattle.rounding.specs.declared.Direction.TheVariants.{Up, Down}
use Rattle.rounding.proofs.Divided.{rounds, divided-at-most}
use Rattle.rounding.proofs.Outcomes.{given_is, test-held}
use Rattle.rounding.proofs.Ratio.{whole-conservative, rounds-conservative}
use Rattle.rounding.proofs.Tests.{and_both}
use Rattle.emissions.specs.Factor.{factor_limit, weighted_sum, exact_combined, rounded_combined, margin}
use Rattle.emissions.specs.Grid.{margin_within_limits, weights_full, entered_grid, grid_judged, same_roundings}
use Rattle.emissions.specs.Grid.{grid_intact}
use Rattle.emissions.specs.declared.Margins.{Margins}
use Rattle.emissions.specs.declared.CombinedMargin.{CombinedMargin}
use Rattle.emissions.specs.declared.CombinedMargin.TheVariants.{Stated, Mean}
use Rattle.emissions.specs.declared.GridEntry.{GridEntry}
use Rattle.emissions.specs.declared.Grid.{Grid}

-- ---- the combined margin, exact and rounded

pub combined-over : (m : CombinedMargin) → 0 < (exact_combined m).over
unfolding exact_combined
combined-over (Stated F) = omega arith
combined-over (Mean m) = omega arith

pub combined-unsigned : (m : CombinedMargin) → (exact_combined m).minus ≡ 0
unfolding exact_combined
combined-unsigned (Stated F) = refl
combined-unsigned (Mean m) = refl

-- Margins of at most 10,000,000 whose weights sum to 100 have a mean of at most 10,000,000.
mean-limit : (m : Margins) → margin_within_limits (Mean m) ≡ true → weights_full (Mean m) ≡ true
    → weighted_sum m ≤ factor_limit * 100
mean-limit m h k =
    let p = and_both (leb m.operating factor_limit) _ h in
    omega (
      arith,
      eqb-true (m.weights.operating + m.weights.build) 100 k,
      mul-le-mul_right m.weights.operating (leb-true m.operating factor_limit p.0),
      mul-le-mul_right m.weights.build (leb-true m.build factor_limit p.1),
    )

pub rounded-limit : (dir : Direction) (m : CombinedMargin) → margin_within_limits m ≡ true → weights_full m ≡ true
    → rounded_combined dir m ≤ factor_limit
unfolding rounded_combined
rounded-limit dir (Stated F) h k = leb-true F factor_limit h
rounded-limit dir (Mean m) h k = divided-at-most dir (weighted_sum m) 100 factor_limit (omega arith) (mean-limit m h k)

pub ruleset rounded_limits = (rounded-limit)

pub rounded-conservative : (dir : Direction) (m : CombinedMargin)
    → Conservative dir (rounded_combined dir m) (exact_combined m) (whole 1)
unfolding rounded_combined exact_combined
rounded-conservative dir (Stated F) = whole-conservative dir F (whole 1) (omega arith)
rounded-conservative dir (Mean m) = rounds-conservative dir (weighted_sum m) 100 _
    (rounds dir (weighted_sum m) 100 (omega arith))

-- ---- a grid that an entry leaves

pub margin-entered : (dir : Direction) (g : GridEntry)
    → margin dir (Some (entered_grid g)) ≡ rounded_combined dir g.margin
unfolding margin
margin-entered Up g = refl
margin-entered Down g = refl

-- What the tests of an entry leave.
pub record GridFacts (g : GridEntry) : Type 0 where
  pub limits : margin_within_limits g.margin ≡ true
  pub full : weights_full g.margin ≡ true

pub grid-facts : (g : GridEntry) (left : Grid) → grid_judged g ≡ given left → (left ≡ entered_grid g) × GridFacts g
unfolding grid_judged
grid-facts g left e =
    let p = test-held 2 (margin_within_limits g.margin) _ e in
    let q = test-held 15 (weights_full g.margin) _ p.1 in
    (sym (given_is q.1), record { limits = p.0; full = q.0 })

same_parts : {left g : Grid} → left.entry ≡ g.entry → left.up ≡ g.up → left.down ≡ g.down → left ≡ g
same_parts e u d = rw (e, u, d)

-- What the laws of factors ask of a grid: that its own entry leaves it.
abbrev pub GridSound : Option Grid → Type 0
GridSound None = Unit {0}
GridSound (Some g) = grid_judged g.entry ≡ given g

-- That is so exactly where the grid is intact.
pub intact-sound : (grid : Option Grid) → grid_intact grid ≡ true → GridSound grid
intact-sound None h = tt
intact-sound (Some g) h = go (grid_judged g.entry) refl h
  where
    same : (left : Grid) → left ≡ entered_grid g.entry → (eqb left.up g.up && eqb left.down g.down) ≡ true → left ≡ g
    same left e k =
        let p = and_both (eqb left.up g.up) _ k in
        same_parts (ap (λ (x : Grid). x.entry) e) (eqb-true _ _ p.0) (eqb-true _ _ p.1)

    go : (o : Outcome Grid) → grid_judged g.entry ≡ o → same_roundings g o ≡ true → o ≡ given g
    go (refused n) e k = absurd (true≢false (sym k))
    go (given left) e k = ap given (same left (grid-facts g.entry left e).0 k)

pub sound-intact : (grid : Option Grid) → GridSound grid → grid_intact grid ≡ true
sound-intact None h = refl
sound-intact (Some g) h = rw (h, eq-eqb g.up g.up refl, eq-eqb g.down g.down refl)
