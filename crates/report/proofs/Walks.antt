-- The report's walk over the sources: the figure of a source, and what is left of the walk at each number. Assumes
-- nothing.
use Rattle.std.specs.Prelude.{Option, None, Some, Result, Ok, Err, MatchResult, IfOk}
use Rattle.std.specs.Result.{IsErrAnd}
use Rattle.std.proofs.lemmas.Result.{IfOk-at_ok}
use Rattle.report.specs.Answers.{no_report_meaning}
use Rattle.report.specs.declared.NoReport.{NoReport}
use Rattle.report.specs.declared.NoReport.TheVariants.{RefusedAt}
use Prim.Native.Nat.{ℕ, ◌+◌, ◌-◌, ◌*◌, ◌≤◌, ◌<◌, zero-le}
use mathlib.Core.Path.{◌≡◌, refl, sym, ap, subst, ◌∙◌}
use mathlib.Core.Bool.{true, ◌&&◌}
use mathlib.Core.List.{List, [], ◌∷◌}
use Rattle.std.proofs.lemmas.List.{get_or-map}
use Rattle.std.proofs.lemmas.Option.{same_Some}
use native.Mathlib.Nat.{mul-le-mul_right}
use native.Mathlib.Omega.{arith}
use lib.ListN.{get_or, length}
use borrow.Author.Tests.{leb-true}
use Rattle.rounding.specs.Divided.{sum}
use Rattle.rounding.specs.Lists.{All}
use Rattle.rounding.specs.declared.Direction.{Direction}
use Rattle.rounding.specs.declared.Direction.TheVariants.{Up, Down}
use Rattle.rounding.proofs.Divided.{divided-at-most}
use Rattle.rounding.proofs.Tests.{and_both}
use Rattle.metering.specs.Reading.{limit}
use Rattle.rounding.specs.Outcome.{Outcome, refused, given, map_given, number_of, outcome_of}
use Rattle.rounding.specs.declared.refusal.Refusal.{Refusal}
use Rattle.emissions.specs.Factor.{direction, factor_limit, site_named, captive_judged, Site, at_site, Chosen, chosen}
use Rattle.emissions.specs.Factor.{factor_in}
use Rattle.emissions.specs.Loss.{loss_of}
use Rattle.emissions.specs.Figure.{energy_with_losses, grams_of, figure_of}
use Rattle.emissions.specs.Figure as figure
use Rattle.emissions.specs.declared.Consumption.{Consumption}
use Rattle.emissions.specs.declared.Grid.{Grid}
use Rattle.emissions.specs.declared.Loss.{Loss}
use Rattle.emissions.specs.declared.Loss.TheVariants.{Nothing, Measured, Default20, Default3}
use Rattle.emissions.specs.declared.Side.{Side}
use Rattle.emissions.specs.declared.Side.TheVariants.{Project, Leakage, Baseline}
use Rattle.emissions.specs.declared.Supply.{Supply}
use Rattle.emissions.specs.declared.Supply.TheVariants.{Combined, GridDefault, Captive, CaptiveDefault, Either}
use Rattle.rounding.proofs.Outcomes.{never-given, given_is, then-given}
use Rattle.emissions.specs.Grid.{grid_intact}
use Rattle.emissions.proofs.Grids.{intact-sound}
use Rattle.emissions.proofs.Factors.{captive-given}
use Rattle.emissions.proofs.Supplies.{chosen-same, factor-limit}
use Rattle.emissions.proofs.Losses.{LossSound, loss-limit}
use Rattle.emissions.proofs.Figures.{energy-limit}
use Rattle.report.specs.Report.{ReportInput, Numbered, prepend_standing, standing, selected, captive_at, plants_in}
use Rattle.report.specs.Report.{plants_of, sources_of, intact, source_figure, Figured, Figures, declined, figured}
use Rattle.report.specs.Report.{with_figure, figures_from, of_side, side_report, Reply, refused_at, reply_from}
use Rattle.report.specs.Report.{report_from, report_of, input_of_records}
use Rattle.records.specs.Judging.{last_site, supply_within_limits, loss_within_limits}
use Rattle.report.specs.Intact.{plant_intact, all_intact, source_intact, sources_intact}
use Rattle.records.specs.Records.{source_place}
use Rattle.report.specs.Steps.{site_plants, totals_of, no_plants, site_sums, column_for, row_for, in_row, in_table}
use Rattle.report.specs.Steps.{milligrams_in, TableOf, TableFull, CaptiveWithin, figure_at, grams_at, table_figure}
use Rattle.report.specs.Steps.{figures_by, no_sums, one_more, with_grams, SideBounded, Bounded, side_sum, sums_of}
use Rattle.report.specs.Steps.{reported_of}
use Rattle.records.specs.declared.Plant.{Plant}
use Rattle.records.specs.declared.Source.{Source}
use Rattle.report.specs.declared.SideSum.{SideSum}
use Rattle.report.specs.declared.SiteSums.{SiteSums}
use Rattle.report.specs.declared.Sums.{Sums}
use Rattle.report.specs.declared.Totals.{Totals}
use Rattle.report.proofs.Lists.{numbered, never-some, standing-all}
use Rattle.report.proofs.Summing.{intact-item, rest-next, source_fits}

-- ---- the figure of a source

-- A loss that number 2 does not refuse, and that is open, is at most one half.
pub loss-sound : (l : Loss) → loss_within_limits l ≡ true → LossSound l
loss-sound Nothing h = tt
loss-sound (Measured T) h = leb-true T 5000 h
loss-sound Default20 h = tt
loss-sound Default3 h = tt

pub open-limit : (dir : Direction) (c : Consumption) (l : Loss) (T : ℕ) → loss_within_limits l ≡ true
    → loss_of dir c l ≡ given T → T ≤ 5000
open-limit dir c l T h e = loss-limit dir c l T (loss-sound l h) e

pub grams-limit : (dir : Direction) (E T F : ℕ) → E ≤ limit → T ≤ 5000 → F ≤ factor_limit
    → grams_of dir (energy_with_losses dir E T) F ≤ 1500000000000
unfolding grams_of
grams-limit dir E T F e t f =
    let U = energy_with_losses dir E T in
    divided-at-most dir (U * F) 1000000 1500000000000 (omega arith)
    (omega (arith, mul-le-mul_right F (energy-limit dir E T e t)))

-- A supply within its limits names a site in range, if it names one.
named-site : (supply : Supply) → supply_within_limits supply ≡ true → (S : ℕ) → site_named supply ≡ Some S
    → S ≤ last_site
named-site Combined h S e = absurd (never-some e)
named-site GridDefault h S e = absurd (never-some e)
named-site (Captive N) h S e = subst (λ (n : ℕ). n ≤ last_site) (same_Some N S e) (leb-true N last_site h)
named-site CaptiveDefault h S e = absurd (never-some e)
named-site (Either N) h S e = subst (λ (n : ℕ). n ≤ last_site) (same_Some N S e) (leb-true N last_site h)

-- So its row is in the table, and so is the column of every direction.
pub row-limit : (supply : Supply) → supply_within_limits supply ≡ true → row_for (site_named supply) ≤ last_site
row-limit supply h = go (site_named supply) (named-site supply h)
  where
    go : (o : Option ℕ) → ((S : ℕ) → o ≡ Some S → S ≤ last_site) → row_for o ≤ last_site
    go None k = zero-le
    go (Some S) k = k S refl

pub column-limit : (dir : Direction) → column_for dir ≤ 1
column-limit Up = zero-le
column-limit Down = omega arith

abbrev grams_of_figure : Outcome figure.Figure → Outcome ℕ
grams_of_figure o = map_given (λ (f : figure.Figure). f.grams) o

-- The figure by two ways to judge sites is the same where they agree on the site that the source names.
pub figure-same : (grid : Option Grid) (captive_at other : ℕ → Outcome ℕ) (t : Totals) (s : Source)
    → ((S : ℕ) → site_named s.supply ≡ Some S → captive_at S ≡ other S)
    → figure_at grid captive_at t s ≡ figure_at grid other t s
figure-same grid captive_at other t s h = rw (chosen-same (direction s.side) grid t.factor captive_at other s.supply h)

-- What is read of a row with a place for each direction is its factor, or its refusal.
pub row-read : (row : List (Result ℕ Refusal)) (dir : Direction) (column : ℕ) → length row ≡ 2
    → column ≡ column_for dir
    → in_row row dir ≡ outcome_of (get_or row column (Ok 0))
row-read row dir column two c =
    rw c (get_or-map outcome_of row (column_for dir) (Ok 0) (refused 0) (omega (arith, two, column-limit dir)))

-- The grams by the one factor that is read from a table for a source are those by the whole table.
pub table-grams : (grid : Option Grid) (factors : List (List (Result ℕ Refusal))) (t : Totals) (s : Source)
    (dir : Direction) (row column : ℕ)
    → TableFull factors → source_intact (Some s) ≡ true
    → dir ≡ direction s.side → row ≡ row_for (site_named s.supply) → column ≡ column_for dir
    → grams_at grid (λ S. outcome_of (get_or (get_or factors row []) column (Ok 0))) t s
    ≡ grams_at grid (in_table factors (direction s.side)) t s
table-grams grid factors t s dir row column full intact d r c =
    ap grams_of_figure (figure-same grid _ _ t s named)
  where
    named : (S : ℕ) → site_named s.supply ≡ Some S
        → outcome_of (get_or (get_or factors row []) column (Ok 0)) ≡ in_table factors (direction s.side) S
    named S e =
        let two = full S (named-site s.supply (source_fits s intact).0 S e) in
        rw (r ∙ ap row_for e, ← d) (sym (row-read (get_or factors S []) dir column two c))

module _ (grid : Option Grid) (captive_at : ℕ → Outcome ℕ) (t : Totals) (s : Source) where
  abbrev factor_by : Direction → Outcome ℕ
  factor_by dir = factor_in (chosen dir grid captive_at t.factor s.supply)

  -- Where a factor and a loss are given, so are the grams.
  pub grams-given : (dir : Direction) → dir ≡ direction s.side → (F T : ℕ) → factor_by dir ≡ given F
      → loss_of dir t.loss s.loss ≡ given T
      → given (grams_of dir (energy_with_losses dir s.energy T) F) ≡ grams_at grid captive_at t s
  unfolding figure_of
  grams-given dir d F T f e =
      let p = then-given (chosen dir grid captive_at t.factor s.supply) _ f in
      go p.0 p.1 (given_is p.2)
    where
      go : (x : Chosen) → chosen dir grid captive_at t.factor s.supply ≡ given x → x.factor ≡ F
          → given (grams_of dir (energy_with_losses dir s.energy T) F) ≡ grams_at grid captive_at t s
      go x k l = rw (← d) (simp (k, e, l))

  -- Where the grid is intact and each captive factor is within its limit, so is the factor of every supply,
  module _ (hg : grid_intact grid ≡ true) (within : (S : ℕ) → CaptiveWithin (captive_at S)) where
    chosen-limit : (dir : Direction) (x : Chosen) → chosen dir grid captive_at t.factor s.supply ≡ given x
        → x.factor ≤ factor_limit
    chosen-limit dir x e = factor-limit dir grid captive_at t.factor (intact-sound grid hg) within s.supply x e

    pub given-limit : (dir : Direction) (F : ℕ) → factor_by dir ≡ given F → F ≤ factor_limit
    given-limit dir F e =
        let p = then-given (chosen dir grid captive_at t.factor s.supply) _ e in
        subst (λ (n : ℕ). n ≤ factor_limit) (given_is p.2) (chosen-limit dir p.0 p.1)

    -- and the figure of an intact source is at most 1,500,000,000,000 grams.
    pub figure-limit : source_intact (Some s) ≡ true → (f : figure.Figure) → figure_at grid captive_at t s ≡ given f
        → f.grams ≤ 1500000000000
    unfolding figure_of
    figure-limit hs f e =
        let dir = direction s.side in
        let p = then-given (chosen dir grid captive_at t.factor s.supply) _ e in
        let q = then-given (loss_of dir t.loss s.loss) _ p.2 in
        let fits = source_fits s hs in
        subst (λ (g : figure.Figure). g.grams ≤ 1500000000000) (given_is q.2)
        (grams-limit dir s.energy q.0 p.0.factor fits.2 (open-limit dir t.loss s.loss q.0 fits.1 q.1)
        (chosen-limit dir p.0 p.1))

-- ---- the sums

same-side : {g h k l : ℕ} → g ≡ h → k ≡ l
    → ◌≡◌ {A = SideSum} (record { grams = g; sources = k }) (record { grams = h; sources = l })
same-side e f = rw (e, f)

same-sums : {a b c x y z : SideSum} → a ≡ x → b ≡ y → c ≡ z
    → ◌≡◌ {A = Sums} (record { project = a; leakage = b; baseline = c })
    (record { project = x; leakage = y; baseline = z })
same-sums e f g = rw (e, f, g)

-- The sums of so many sources stay within their bounds.
pub none-bounded : Bounded 0 no_sums
none-bounded =
    let z : SideBounded 0 no_sums.project = record { grams = omega arith; sources = omega arith } in
    record { project = z; leakage = z; baseline = z }

side-widen : (i j : ℕ) (s : SideSum) → i ≤ j → SideBounded i s → SideBounded j s
side-widen i j s h b = record { grams = omega arith; sources = omega arith }

pub bounded-widen : (i j : ℕ) (s : Sums) → i ≤ j → Bounded i s → Bounded j s
bounded-widen i j s h b =
    record {
      project = side-widen i j s.project h b.project;
      leakage = side-widen i j s.leakage h b.leakage;
      baseline = side-widen i j s.baseline h b.baseline;
    }

side-more : (i g : ℕ) (s : SideSum) → g ≤ 1500000000000 → SideBounded i s → SideBounded (i + 1) (one_more s g)
side-more i g s h b = record { grams = omega arith; sources = omega arith }

pub bounded-more : (i g : ℕ) (side : Side) (s : Sums) → g ≤ 1500000000000 → Bounded i s
    → Bounded (i + 1) (with_grams s side g)
bounded-more i g Project s h b =
    let w = bounded-widen i (i + 1) s (omega arith) b in
    record { project = side-more i g s.project h b.project; leakage = w.leakage; baseline = w.baseline }
bounded-more i g Leakage s h b =
    let w = bounded-widen i (i + 1) s (omega arith) b in
    record { project = w.project; leakage = side-more i g s.leakage h b.leakage; baseline = w.baseline }
bounded-more i g Baseline s h b =
    let w = bounded-widen i (i + 1) s (omega arith) b in
    record { project = w.project; leakage = w.leakage; baseline = side-more i g s.baseline h b.baseline }

-- Sums with the figures of a list.
abbrev more : SideSum → SideSum → SideSum
more a b = record { grams = a.grams + b.grams; sources = a.sources + b.sources }

abbrev more_sums : Sums → List Figured → Sums
more_sums acc fs =
    record {
      project = more acc.project (side_sum Project fs);
      leakage = more acc.leakage (side_sum Leakage fs);
      baseline = more acc.baseline (side_sum Baseline fs);
    }

-- What the report answers where the walk has summed up so far and these figures are left.
abbrev pub resumed : Sums → Figures → Reply
resumed acc (declined n k) = refused_at n k
resumed acc (figured fs) = reported_of (more_sums acc fs)

more-first : (s : SideSum) → more (record { grams = 0; sources = 0 }) s ≡ s
more-first s = same-side (omega arith) (omega arith)

more-last : (s : SideSum) → more s (record { grams = 0; sources = 0 }) ≡ s
more-last s = same-side (omega arith) (omega arith)

-- What the report answers once the walk has the figures: what is summed up of them, or the first refusal.
abbrev answer_to : Figures → Reply
answer_to (declined n k) = refused_at n k
answer_to (figured fs) = reported_of (sums_of fs)

as-reported : (x : Figures) → answer_to x ≡ reply_from x
unfolding side_sum side_report report_from reported_of
as-reported (declined n k) = refl
as-reported (figured fs) = refl

-- At first nothing is summed up, and at the end nothing is left.
pub resumed-first : (x : Figures) → resumed no_sums x ≡ reply_from x
resumed-first (declined n k) = as-reported (declined n k)
resumed-first (figured fs) =
    ap reported_of (same-sums (more-first _) (more-first _) (more-first _)) ∙ as-reported (figured fs)

pub resumed-last : (acc : Sums) → resumed acc (figured []) ≡ reported_of acc
unfolding side_sum of_side selected sum
resumed-last acc = ap reported_of (same-sums (more-last _) (more-last _) (more-last _))

one_more_lem : (acc : Sums) (n : ℕ) (side : Side) (f : figure.Figure) (fs : List Figured)
    → more_sums acc (record { number = n; side = side; figure = f } ∷ fs) ≡ more_sums (with_grams acc side f.grams) fs
unfolding side_sum of_side selected sum
one_more_lem acc n Project f fs = same-sums (same-side (omega arith) (omega arith)) refl refl
one_more_lem acc n Leakage f fs = same-sums refl (same-side (omega arith) (omega arith)) refl
one_more_lem acc n Baseline f fs = same-sums refl refl (same-side (omega arith) (omega arith))

-- A source before the figures left: by its grams, or by its refusal.
module _ (acc : Sums) (x : Numbered Source) where
  with-given : (o : Outcome figure.Figure) (g : ℕ) (r : Figures) → grams_of_figure o ≡ given g
      → resumed acc (with_figure x o r) ≡ resumed (with_grams acc x.item.side g) r
  with-given (refused n) g r e = absurd (never-given e)
  with-given (given h) g r e = go r ∙ ap (λ (k : ℕ). resumed (with_grams acc x.item.side k) r) (given_is e)
    where
      go : (r : Figures) → resumed acc (with_figure x (given h) r) ≡ resumed (with_grams acc x.item.side h.grams) r
      go (declined n k) = refl
      go (figured fs) = ap reported_of (one_more_lem acc x.number x.item.side h fs)

  with-refused : (o : Outcome figure.Figure) (n : ℕ) (r : Figures) → grams_of_figure o ≡ refused n
      → resumed acc (with_figure x o r) ≡ refused_at n x.number
  with-refused (refused m) n r e = cc
  with-refused (given h) n r e = absurd (never-given (sym e))

-- What a result was before its refusal was told with the number of its source.
abbrev pub Mapped : Result ℕ Refusal → Result ℕ NoReport → ℕ → Type 0
Mapped r m i = MatchResult r (λ x. m ≡ Ok x) (λ e. IsErrAnd m (λ n. n ≡ RefusedAt e i))

mapped-ok : (r : Result ℕ Refusal) (m : Result ℕ NoReport) (i g : ℕ) → Mapped r m i → m ≡ Ok g
    → (r ≡ Ok g) × (outcome_of r ≡ given g)
mapped-ok (Ok x) m i g h k = let e : ◌≡◌ {A = Result ℕ NoReport} (Ok x) (Ok g) = sym h ∙ k in (cc, cc)
mapped-ok (Err e) m i g h k = absurd (subst (λ (t : Result ℕ NoReport). IsErrAnd t (λ n. n ≡ RefusedAt e i)) k h)

pub mapped-bound : (r : Result ℕ Refusal) (m : Result ℕ NoReport) (i g : ℕ) → Mapped r m i → m ≡ Ok g
    → IfOk r (λ x. x ≤ 1500000000000)
    → g ≤ 1500000000000
mapped-bound r m i g h k l = IfOk-at_ok (λ (x : ℕ). x ≤ 1500000000000) (mapped-ok r m i g h k).0 l

mapped-err : (r : Result ℕ Refusal) (m : Result ℕ NoReport) (i : ℕ) (n : NoReport) → Mapped r m i → m ≡ Err n
    → (e : Refusal) × (outcome_of r ≡ refused (number_of e)) × (n ≡ RefusedAt e i)
mapped-err (Ok x) m i n h k = let e : ◌≡◌ {A = Result ℕ NoReport} (Ok x) (Err n) = sym h ∙ k in cc
mapped-err (Err e) m i n h k = (e, refl, subst (λ (t : Result ℕ NoReport). IsErrAnd t (λ n. n ≡ RefusedAt e i)) k h)

-- ---- the walk at a number, whatever gives the figure of each source

abbrev pub EmptySide : SideSum → Type 0
EmptySide s = (s.grams ≡ 0) × (s.sources ≡ 0)

-- What is summed up before number i, at most so many sources: with the figures left it gives what the whole gives.
pub record WalkedBefore (figure_of : Source → Outcome figure.Figure) (place : ℕ → Option Source) (i : ℕ) (acc : Sums)
    : Type 0 where
  pub whole : resumed acc (figures_by figure_of (standing place i (32 - i)))
      ≡ reply_from (figures_by figure_of (standing place 0 32))
  pub within : Bounded i acc

module _ (figure_of : Source → Outcome figure.Figure) (place : ℕ → Option Source) where
  abbrev pub left : ℕ → Figures
  left i = figures_by figure_of (standing place i (32 - i))

  pub left-none : left 32 ≡ figured []
  unfolding standing figures_by
  left-none = refl

  pub walk-start : (acc : Sums) → EmptySide acc.project × (EmptySide acc.leakage × EmptySide acc.baseline)
      → WalkedBefore figure_of place 0 acc
  walk-start acc h =
      let e : acc ≡ no_sums =
      same-sums (same-side h.0.0 h.0.1) (same-side h.1.0.0 h.1.0.1) (same-side h.1.1.0 h.1.1.1) in
      rw e (record { whole = resumed-first (left 0); within = none-bounded })

  module _ (i : ℕ) (acc : Sums) (before : WalkedBefore figure_of place i acc) where
    module _ (h : i < 32) where
      pub walk-skip : place i ≡ None → WalkedBefore figure_of place (i + 1) acc
      walk-skip e =
          let rest : standing place i (32 - i) ≡ standing place (i + 1) (32 - (i + 1)) =
          rest-next place 32 i h ∙ ap
          (λ (o : Option Source). prepend_standing i o (standing place (i + 1) (32 - (i + 1)))) e in
          record {
            whole =
                sym (ap (λ (xs : List (Numbered Source)). resumed acc (figures_by figure_of xs)) rest) ∙ before.whole;
            within = bounded-widen i (i + 1) acc (omega arith) before.within;
          }

      module _ (s : Source) (e : place i ≡ Some s) where
        left-some : left i ≡ with_figure (numbered i s) (figure_of s) (left (i + 1))
        unfolding figures_by
        left-some = ap (figures_by figure_of) (rest-next place 32 i h) ∙ rw e

        walk-add : (g : ℕ) → grams_of_figure (figure_of s) ≡ given g → g ≤ 1500000000000
            → WalkedBefore figure_of place (i + 1) (with_grams acc s.side g)
        walk-add g k l =
            record {
              whole =
                  sym (ap (resumed acc) left-some ∙ with-given acc (numbered i s) (figure_of s) g _ k) ∙ before.whole;
              within = bounded-more i g s.side acc l before.within;
            }

        walk-stop : (n : ℕ) → grams_of_figure (figure_of s) ≡ refused n
            → refused_at n i ≡ reply_from (figures_by figure_of (standing place 0 32))
        walk-stop n k =
            sym (ap (resumed acc) left-some ∙ with-refused acc (numbered i s) (figure_of s) n _ k) ∙ before.whole

        -- By what was judged of the source, and told with its number.
        module _ (r : Result ℕ Refusal) (m : Result ℕ NoReport) (mapped : Mapped r m i)
            (j : outcome_of r ≡ grams_of_figure (figure_of s)) where
          pub walk-given : (g : ℕ) → m ≡ Ok g → IfOk r (λ x. x ≤ 1500000000000)
              → WalkedBefore figure_of place (i + 1) (with_grams acc s.side g)
          walk-given g k l = walk-add g (sym j ∙ (mapped-ok r m i g mapped k).1) (mapped-bound r m i g mapped k l)

          pub walk-refused : (n : NoReport) → m ≡ Err n
              → no_report_meaning n ≡ reply_from (figures_by figure_of (standing place 0 32))
          walk-refused n k = let p = mapped-err r m i n mapped k in rw p.2 (walk-stop (number_of p.0) (sym j ∙ p.1))

    pub walk-end : i ≡ 32 → reported_of acc ≡ reply_from (figures_by figure_of (standing place 0 32))
    walk-end e = sym (resumed-last acc) ∙ ap (resumed acc) (sym left-none) ∙ (rw e at before.whole)

-- ---- the figures of the report

figures-agree : (f g : Source → Outcome figure.Figure) (xs : List (Numbered Source))
    → All (λ (x : Numbered Source). f x.item ≡ g x.item) xs
    → figures_by f xs ≡ figures_by g xs
unfolding figures_by
figures-agree f g [] h = refl
figures-agree f g (x ∷ xs) h = rw (h.0, figures-agree f g xs h.1)

figures-by : (b : ReportInput) (xs : List (Numbered Source)) → figures_from b xs ≡ figures_by (source_figure b) xs
unfolding figures_from figures_by
figures-by b [] = refl
figures-by b (x ∷ xs) = rw (figures-by b xs)

-- The table of the sums of the sites has what the rules give for each site.
pub table_is : (site : ℕ → Site) (sites : List SiteSums) (factors : List (List (Result ℕ Refusal)))
    → ((S : ℕ) → S ≤ last_site → get_or sites S no_plants ≡ site_sums (site S)) → TableOf sites factors
    → (dir : Direction) (S : ℕ) → S ≤ last_site → in_table factors dir S ≡ at_site dir (site S)
table_is site sites factors h t dir S l =
    t S l dir ∙ ap (λ (s : SiteSums). captive_judged dir (milligrams_in dir s) s.generation) (h S l) ∙ go dir
  where
    go : (k : Direction)
        → captive_judged k (milligrams_in k (site_sums (site S))) (site S).generation ≡ at_site k (site S)
    go Up = refl
    go Down = refl

-- Figures by a table are those of the report, where the table has what the rules give for each site and the totals are
-- those of the sources.
pub report-figures : (grid : Option Grid) (plants : List (Option Plant)) (sources : List (Option Source))
    (factors : List (List (Result ℕ Refusal)))
    → ((dir : Direction) (S : ℕ) → S ≤ last_site → in_table factors dir S ≡ captive_at dir (site_plants plants) S)
    → sources_intact sources ≡ true
    → let b = input_of_records grid plants sources in
    figures_by (table_figure grid factors (totals_of (source_place sources))) (standing (source_place sources) 0 32)
    ≡ figures_from b (sources_of b)
unfolding source_figure
report-figures grid plants sources factors table h =
    figures-agree _ _ (standing (source_place sources) 0 32) (standing-all (source_place sources) _ 0 32 (λ n s e l u.
    let w = intact-item source_intact (source_place sources) 32 n s h u e in
    figure-same grid _ _ _ s (λ S q. table (direction s.side) S (named-site s.supply (source_fits s w).0 S q))))
    ∙ sym (figures-by (input_of_records grid plants sources) _)

-- A site shows in a report only by the sources that name it: with other plants, the report is the same where the sites
-- that sources name are judged the same.
pub unnamed-never-shows : (b : ReportInput) (plant : ℕ → Option Plant)
    → ((n : ℕ) (s : Source) → b.source n ≡ Some s → (S : ℕ) → site_named s.supply ≡ Some S → (dir : Direction)
    → captive_at dir (plants_of b) S ≡ captive_at dir (plants_in plant) S)
    → report_of b ≡ report_of (record { grid = b.grid; plant = plant; source = b.source })
unfolding report_of source_figure
unnamed-never-shows b plant h =
    let other : ReportInput = record { grid = b.grid; plant = plant; source = b.source } in
    ap reply_from (
    figures-by b (sources_of b)
    ∙ figures-agree (source_figure b) (source_figure other) (sources_of b) (standing-all b.source _ 0 32 (λ n s e l u.
    figure-same b.grid _ _ (totals_of b.source) s (λ S q. h n s e S q (direction s.side))))
    ∙ sym (figures-by other (sources_of b)))

-- The figure of a source of an intact ledger is at most 1,500,000,000,000 grams.
pub intact-figure-limit : (b : ReportInput) → intact b ≡ true → (n : ℕ) (s : Source) (f : figure.Figure) → n < 32
    → b.source n ≡ Some s
    → source_figure b s ≡ given f → f.grams ≤ 1500000000000
unfolding intact source_figure
intact-figure-limit b h n s f l at e =
    let p = and_both (grid_intact b.grid && all_intact plant_intact b.plant 8) _ h in
    let q = and_both (grid_intact b.grid) _ p.0 in
    let dir = direction s.side in
    figure-limit b.grid (captive_at dir (plants_of b)) (totals_of b.source) s q.0
    (λ S F k. (captive-given dir _ _ F k).2)
    (intact-item source_intact b.source 32 n s p.1 l at) f e
