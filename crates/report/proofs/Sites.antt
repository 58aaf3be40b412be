-- A site's rounded milligrams stand on the safe side of the exact ones, off by at most 5 mg for each of eight plants,
-- and for baseline by J ÷ 1,000 mg more for each with heat. Assumes nothing.
use Rattle.std.specs.Prelude.{Option, None, Some, option_map}
use Prim.Native.Nat.{ℕ, ◌+◌, ◌*◌, ◌<◌, ◌≤◌}
use mathlib.Core.Path.{◌≡◌, refl, subst}
use mathlib.Core.List.{List, [], ◌∷◌, map}
use Rattle.std.proofs.lemmas.Option.{same_Some}
use native.Mathlib.Omega.{arith}
use lib.ListN.{length, length-map}
use Rattle.rounding.specs.Divided.{sum}
use Rattle.rounding.specs.Ratio.{◌÷◌}
use Rattle.rounding.specs.declared.Direction.{Direction}
use Rattle.rounding.specs.declared.Direction.TheVariants.{Up, Down}
use Rattle.rounding.specs.Lists.{All}
use Rattle.rounding.proofs.Ratio.{Within, all_then, all_map, within-widen, sum-within-per, sum_over, sum-unsigned}
use Rattle.emissions.proofs.Factors.{SiteSound, heated_for}
use Rattle.records.specs.Heat.{fuel_energy}
use Rattle.records.specs.Judging.{lines_of}
use Rattle.records.specs.declared.Plant.{Plant}
use Rattle.report.specs.Report.{PlainPlant, plain_of, Numbered, plain_at, plants_in, selected, plant_milligrams}
use Rattle.report.specs.Report.{exact_plant, plant_heated, plants_at, site_of}
use Rattle.report.proofs.Heat.{heated_by, electricity-within, electricity-over, electricity-unsigned}
use Rattle.report.proofs.Lists.{never-some, standing-all, standing-length, selected-all, selected-length}

-- ---- a plant

-- What an accepted plant has: at most four fuel lines, and no more heat than their energy.
abbrev PlantSound : PlainPlant → Type 0
PlantSound p = (length p.lines ≤ 4) × (p.heat ≤ fuel_energy p.lines)

-- The energy that adds to its distance.
heated_plant : Direction → PlainPlant → ℕ
heated_plant dir p = heated_by dir p.heat p.lines

abbrev distance_of : Direction → PlainPlant → ℕ
distance_of dir p = 5000 + heated_plant dir p

plant-within : (dir : Direction) (p : PlainPlant) → PlantSound p
    → Within dir (plant_milligrams dir p) (exact_plant dir p) (distance_of dir p ÷ 1000)
unfolding plant_milligrams exact_plant heated_plant
plant-within dir p h = electricity-within p.heat p.lines h.0 h.1 dir

-- Its exact milligrams have a denominator above 0 and nothing subtracted.
plant-over : (dir : Direction) (p : PlainPlant) → PlantSound p → 0 < (exact_plant dir p).over
unfolding exact_plant
plant-over dir p h = electricity-over p.heat p.lines h.0 h.1 dir

plant-unsigned : (dir : Direction) (p : PlainPlant) → PlantSound p → (exact_plant dir p).minus ≡ 0
unfolding exact_plant
plant-unsigned dir p h = electricity-unsigned p.heat p.lines h.0 h.1 dir

-- ---- the plants of a site

-- So with the plants at a site: no more than stand, and what holds of all that stand holds of them.
at-site-length : (S : ℕ) (xs : List (Numbered PlainPlant)) → length (plants_at S xs) ≤ length xs
unfolding plants_at
at-site-length S xs = simp length-map (selected-length _ xs)

at-site : (P : PlainPlant → Type 0) (S : ℕ) (xs : List (Numbered PlainPlant))
    → All (λ (x : Numbered PlainPlant). P x.item) xs → All P (plants_at S xs)
unfolding plants_at
at-site P S xs h =
    all_map P _ (selected _ xs)
    (all_then (λ x k. k.0) (selected _ xs) (selected-all (λ (x : Numbered PlainPlant). P x.item) _ xs h))

-- What is read of a plant that stands.
read-sound : (o : Option Plant) → ((p : Plant) → o ≡ Some p → PlantSound (plain_of p)) → (p : PlainPlant)
    → option_map plain_of o ≡ Some p → PlantSound p
read-sound None h p e = absurd (never-some e)
read-sound (Some q) h p e = subst PlantSound (same_Some (plain_of q) p e) (h q refl)

-- Their distances: 5 mg each, and the energy of those with heat.
distances : (dir : Direction) (ps : List PlainPlant)
    → sum (map (distance_of dir) ps) ≡ length ps * 5000 + sum (map (heated_plant dir) ps)
unfolding sum
distances dir [] = refl
distances dir (p ∷ ps) = omega (arith, distances dir ps)

heated-is : (dir : Direction) (S : ℕ) (xs : List (Numbered PlainPlant))
    → sum (map (heated_plant dir) (plants_at S xs)) ≡ heated_for dir (site_of xs S)
unfolding site_of plant_heated heated_plant sum
heated-is Up S xs = none-heated (plants_at S xs)
  where
    none-heated : (ps : List PlainPlant) → sum (map (heated_plant Up) ps) ≡ 0
    none-heated [] = refl
    none-heated (p ∷ ps) = omega (arith, none-heated ps)
heated-is Down S xs = refl

-- At most eight plants of at most four lines.
pub site-sound : (place : ℕ → Option Plant)
    → ((n : ℕ) (p : Plant) → place n ≡ Some p → (length (lines_of p) ≤ 4) × (p.heat ≤ fuel_energy (lines_of p)))
    → (S : ℕ)
    → SiteSound (site_of (plants_in place) S)
unfolding site_of
site-sound place h S =
    let xs = plants_in place in
    let ps = plants_at S xs in
    let short : length ps ≤ 8 = omega (arith, at-site-length S xs, standing-length (plain_at place) 0 8) in
    let sound : All PlantSound ps =
    at-site PlantSound S xs
    (standing-all (plain_at place) (λ (x : Numbered PlainPlant). PlantSound x.item) 0 8
    (λ n p e l u. read-sound (place n) (h n) p e)) in
    record {
      over = λ dir. sum_over (exact_plant dir) ps (all_then (plant-over dir) ps sound);
      unsigned = λ dir. sum-unsigned (exact_plant dir) ps (all_then (plant-unsigned dir) ps sound);
      near = λ dir.
          within-widen dir (sum (map (plant_milligrams dir) ps)) _ (sum (map (distance_of dir) ps) ÷ 1000) _
          (omega arith)
          (omega (arith, short, distances dir ps, heated-is dir S xs))
          (sum-within-per (distance_of dir) 1000 dir (plant_milligrams dir) (exact_plant dir) (omega arith) ps
          (all_then (plant-within dir) ps sound));
    }
