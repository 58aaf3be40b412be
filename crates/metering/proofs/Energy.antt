-- A source's meters: what one meter and a list of them give, and how near the energy is to the exact one. Assumes
-- nothing.
use mathlib.Core.Path.{◌≡◌, refl, sym, ap, ◌∙◌, subst}
use mathlib.Core.Bool.{Bool, true, false, not, ◌&&◌, ◌||◌, true≢false}
use mathlib.Core.List.{List, [], ◌∷◌, map}
use Prim.Native.Nat.{ℕ, zero, suc, ◌+◌, ◌-◌, ◌*◌, ◌≤◌, ◌<◌}
use native.Mathlib.Nat.{mul-lt-mul_of_pos_right}
use native.Mathlib.Numerals.{add-one}
use native.Mathlib.Omega.{arith}
use lib.Dec.{leb, ltb}
use lib.ListN.{length, take, get_or, length-take}
use borrow.Author.Tests.{leb-true}
use Rattle.std.specs.List.{list_all, list_any}
use Rattle.std.proofs.lemmas.List.Folds.{list_all_at, list_all_more, list_any_more}
use Rattle.rounding.specs.declared.Direction.{Direction}
use Rattle.rounding.specs.Outcome.{Outcome, refused, given, refuse_unless}
use Rattle.rounding.specs.Divided.{divided, opposite, sum}
use Rattle.rounding.specs.Ratio.{◌÷◌, whole, Conservative}
use Rattle.rounding.proofs.Ratio.{all_of, sum-conservative, less-conservative}
use Rattle.rounding.proofs.Outcomes.{never-given, given_is, test-held}
use Rattle.rounding.proofs.Tests.{and_both, ltb-kept}
use Rattle.metering.specs.Reading.{unit, limit, exact_by, accepted, watt_hours}
use Rattle.metering.specs.Energy.{first_of, last_of, adding_of, taking_of, adding, taking, has_ratio, is_accepted}
use Rattle.metering.specs.Energy.{runs_back}
use Rattle.metering.specs.Energy.{exact_energy, rounded_adding, rounded_taking, judged_readings, judged_meters}
use Rattle.metering.specs.Energy.{settled_energy}
use Rattle.metering.specs.Steps.{is_read, meter_moved, meter_read, meters_moved, meters_read}
use Rattle.metering.specs.declared.Reading.{Reading}
use Rattle.metering.specs.declared.Sign.{Sign}
use Rattle.metering.specs.declared.Sign.TheVariants.{Plus, Minus}
use Rattle.metering.specs.declared.Meter.{Meter}
use Rattle.metering.specs.declared.Moved.{Moved}
use Rattle.metering.specs.declared.RoundedReadings.{RoundedReadings}
use Rattle.metering.proofs.Readings.{unit-above-zero, ratio-above-zero, rounded-within, reading-conservative}

and-swap : (a b : Bool) → (a && b) ≡ (b && a)
and-swap true true = refl
and-swap true false = refl
and-swap false true = refl
and-swap false false = refl

-- ---- one meter

-- One factor that is not 0 keeps the order of two values.
pub order-by : (k l f : ℕ) → 0 < k → ltb l f ≡ ltb (l * k) (f * k)
order-by k l f p = ltb-kept (λ (n : ℕ). n * k) (λ a b h. mul-lt-mul_of_pos_right h p) l f

-- Of whole readings the order is that of the counts.
pub counts-order : (l f : ℕ) → ltb l f ≡ ltb (l * unit) (f * unit)
counts-order l f = order-by unit l f unit-above-zero

-- Both readings of a meter are accepted where the one that adds and the one that is taken are.
accepted-both : (m : Meter) → is_accepted m ≡ (accepted m.ratio (adding m) && accepted m.ratio (taking m))
accepted-both m = go m.sign (accepted m.ratio (first_of m.interval)) (accepted m.ratio (last_of m.interval)) refl refl
  where
    go : (s : Sign) (f l : Bool) → accepted m.ratio (first_of m.interval) ≡ f
        → accepted m.ratio (last_of m.interval) ≡ l
        → (f && l) ≡ (accepted m.ratio (adding_of s m.interval) && accepted m.ratio (taking_of s m.interval))
    go Plus f l p q = and-swap f l ∙ sym (rw (p, q))
    go Minus f l p q = sym (rw (p, q))

pub both-accepted : (m : Meter) → is_accepted m ≡ true
    → (accepted m.ratio (adding m) ≡ true) × (accepted m.ratio (taking m) ≡ true)
both-accepted m h = and_both (accepted m.ratio (adding m)) (accepted m.ratio (taking m)) (sym (accepted-both m) ∙ h)

-- The ratio of a meter that is read is not 0.
pub read-ratio : (m : Meter) → is_read m ≡ true → 0 < m.ratio
read-ratio m h = ratio-above-zero m.ratio (and_both (has_ratio m) (is_accepted m) h).0

module _ (dir : Direction) (m : Meter) where
  -- What a meter gave is its rounded readings, and the meter is read.
  pub was-moved : (x : Moved) → given x ≡ meter_read dir m → (is_read m ≡ true) × (x ≡ meter_moved dir m)
  was-moved x e =
      let h = test-held 3 (is_read m) (given (meter_moved dir m)) (sym e) in
      (h.0, sym (given_is h.1))

  pub was-refused : (n : ℕ) → refused n ≡ meter_read dir m → (is_read m ≡ false) × (n ≡ 3)
  was-refused n e = go (is_read m) e
    where
      go : (t : Bool) → refused n ≡ refuse_unless 3 t (given (meter_moved dir m)) → (t ≡ false) × (n ≡ 3)
      go true h = absurd (never-given h)
      go false h = (refl, cc)

  -- A reading that is accepted where the meter is, and is refused.
  pub reading-refused : (d : Direction) (r : Reading) (n : ℕ) → has_ratio m ≡ true
      → (is_accepted m ≡ true → accepted m.ratio r ≡ true)
      → refused n ≡ watt_hours d m.ratio r → refused n ≡ meter_read dir m
  reading-refused d r n f k e =
      let w : refused n ≡ refuse_unless 3 (accepted m.ratio r) (given (divided d (exact_by m.ratio r) unit)) =
      rw f at e in
      rw f (go (is_accepted m) (accepted m.ratio r) k w)
    where
      go : (s t : Bool) → (s ≡ true → t ≡ true)
          → refused n ≡ refuse_unless 3 t (given (divided d (exact_by m.ratio r) unit))
          → refused n ≡ refuse_unless 3 s (given (meter_moved dir m))
      go s true k w = absurd (never-given w)
      go true false k w = absurd (true≢false (sym (k refl)))
      go false false k w = let z : n ≡ 3 = cc in rw z refl

  -- Each of the two is within the limit.
  pub meter-within : is_accepted m ≡ true
      → ((meter_moved dir m).readings.adds ≤ limit) × ((meter_moved dir m).readings.takes ≤ limit)
  meter-within h =
      let p = both-accepted m h in
      (rounded-within dir m.ratio (adding m) p.0, rounded-within (opposite dir) m.ratio (taking m) p.1)

-- ---- a list of meters

-- Two parts of a list, put together.
abbrev pub joined : Outcome Moved → Outcome Moved → Outcome Moved
joined (given x) (given y) =
    given record {
      readings = record {
        adds = x.readings.adds + y.readings.adds;
        takes = x.readings.takes + y.readings.takes;
      };
      back = x.back || y.back;
    }
joined (given x) (refused n) = refused n
joined (refused n) o = refused n

-- A list gives what its first meter and the others give, put together.
meters-cons : (dir : Direction) (m : Meter) (ms : List Meter)
    → meters_read dir (m ∷ ms) ≡ joined (meter_read dir m) (meters_read dir ms)
unfolding rounded_adding rounded_taking sum
meters-cons dir m ms = go (is_read m) (list_all is_read ms) (meter_moved dir m) (meters_moved dir ms)
  where
    go : (s u : Bool) (x y : Moved)
        → refuse_unless 3 (s && u) (joined (given x) (given y))
        ≡ joined (refuse_unless 3 s (given x)) (refuse_unless 3 u (given y))
    go true true x y = refl
    go true false x y = refl
    go false u x y = refl

-- ---- one more meter of a list

sum-suc : {A : Type 0} (f : A → ℕ) (xs : List A) (i : ℕ) (d : A) → i < length xs
    → sum (map f (take (suc i) xs)) ≡ sum (map f (take i xs)) + f (get_or xs i d)
unfolding sum
sum-suc f [] i d h = absurd (omega arith)
sum-suc f (x ∷ xs) zero d h = omega arith
sum-suc f (x ∷ xs) (suc i) d h = omega (arith, sum-suc f xs i d (omega arith))

sum-more : {A : Type 0} (f : A → ℕ) (xs : List A) (i : ℕ) (d : A) → i < length xs
    → sum (map f (take (i + 1) xs)) ≡ sum (map f (take i xs)) + f (get_or xs i d)
sum-more f xs i d h = rw add-one (sum-suc f xs i d h)

-- One more meter, the one at i, gave x.
module _
    (dir : Direction)
    (ms : List Meter)
    (i : ℕ)
    (d : Meter)
    (x : Moved)
    (h : i < length ms)
    (gave : given x ≡ meter_read dir (get_or ms i d))
  where
    pub next-within : (x.readings.adds ≤ limit) × (x.readings.takes ≤ limit)
    next-within =
        let w = was-moved dir (get_or ms i d) x gave in
        rw w.1 (meter-within dir (get_or ms i d) (and_both _ (is_accepted (get_or ms i d)) w.0).1)

    pub next-read : list_all is_read (take i ms) ≡ true → list_all is_read (take (i + 1) ms) ≡ true
    next-read a = rw (list_all_more is_read ms i d h, a) (was-moved dir (get_or ms i d) x gave).0

    pub next-adds : rounded_adding dir (take (i + 1) ms) ≡ rounded_adding dir (take i ms) + x.readings.adds
    unfolding rounded_adding
    next-adds =
        rw (was-moved dir (get_or ms i d) x gave).1
        (sum-more (λ (m : Meter). (meter_moved dir m).readings.adds) ms i d h)

    pub next-takes : rounded_taking dir (take (i + 1) ms) ≡ rounded_taking dir (take i ms) + x.readings.takes
    unfolding rounded_taking
    next-takes =
        rw (was-moved dir (get_or ms i d) x gave).1
        (sum-more (λ (m : Meter). (meter_moved dir m).readings.takes) ms i d h)

    pub next-back : list_any runs_back (take (i + 1) ms) ≡ (list_any runs_back (take i ms) || x.back)
    next-back = rw (was-moved dir (get_or ms i d) x gave).1 (list_any_more runs_back ms i d h)

-- Meters whose ratios are in their range are read where they are accepted.
pub all_read : (ms : List Meter) → list_all has_ratio ms ≡ true → list_all is_read ms ≡ list_all is_accepted ms
all_read [] h = refl
all_read (m ∷ ms) h =
    let p = and_both (has_ratio m) (list_all has_ratio ms) h in
    rw (p.0, all_read ms p.1) refl

-- A meter that is refused refuses all.
pub meters-refused : (dir : Direction) (ms : List Meter) (i : ℕ) (d : Meter) (n : ℕ) → i < length ms
    → refused n ≡ meter_read dir (get_or ms i d) → refused n ≡ meters_read dir ms
meters-refused dir ms i d n h e =
    let w = was-refused dir (get_or ms i d) n e in
    rw (list_all_at is_read ms i d h w.0, w.1) refl

-- ---- the energy

-- Where sums are read, there are at most four meters, and the sums are those of the first n.
pub was_read : (dir : Direction) (n : ℕ) (ms : List Meter) (r : RoundedReadings) → judged_meters dir n ms ≡ given r
    → (leb n 4 ≡ true) × (rounded_adding dir (take n ms) ≡ r.adds) × (rounded_taking dir (take n ms) ≡ r.takes)
unfolding judged_meters judged_readings
was_read dir n ms r e =
    let counted = test-held 2 (leb 1 n && leb n 4 && list_all has_ratio (take n ms)) _ e in
    let readable = test-held 3 (list_all is_accepted (take n ms)) _ counted.1 in
    let forward = test-held 4 (not (list_any runs_back (take n ms))) _ readable.1 in
    let is = given_is forward.1 in
    let few = (and_both (leb 1 n && leb n 4) _ counted.0).0 in (
      (and_both (leb 1 n) (leb n 4) few).1,
      ap (λ (x : RoundedReadings). x.adds) is,
      ap (λ (x : RoundedReadings). x.takes) is,
    )

-- Where an energy is accepted, it is the difference of the sums, within its limit.
pub was_settled : (a t E : ℕ) → settled_energy a t ≡ given E → (E + t ≡ a) × (E ≤ limit)
unfolding settled_energy
was_settled a t E e =
    let w = test-held 6 (leb t a && leb a (t + limit)) (given (a - t)) e in
    let p = and_both (leb t a) (leb a (t + limit)) w.0 in
    difference (leb-true t a p.0) (leb-true a (t + limit) p.1) (given_is w.1)
  where
    difference : t ≤ a → a ≤ t + limit → a - t ≡ E → (E + t ≡ a) × (E ≤ limit)
    difference h k d = omega arith

-- An accepted energy is within its limit.
pub energy-limit : (a t E : ℕ) → settled_energy a t ≡ given E → E ≤ limit
energy-limit a t E e = (was_settled a t E e).1

-- The first n of a list are at most n.
pub taken-length : {A : Type 0} (n k : ℕ) (xs : List A) → n ≤ k → length (take n xs) ≤ k
taken-length n k xs h = simp length-take (omega arith)

-- ---- how near the energy is

-- One reading of each of at most four meters, each less than 1 Wh off: their sum is less than 4 Wh off.
readings-conservative : (dir : Direction) (reading : Meter → Reading) (ms : List Meter) → length ms ≤ 4
    → Conservative dir (sum (map (λ (m : Meter). divided dir (exact_by m.ratio (reading m)) unit) ms))
    (sum (map (λ (m : Meter). exact_by m.ratio (reading m)) ms) ÷ unit) (whole 4)
readings-conservative dir reading ms few =
    sum-conservative dir unit 4 unit-above-zero (omega arith)
    (λ (m : Meter). divided dir (exact_by m.ratio (reading m)) unit)
    (λ (m : Meter). exact_by m.ratio (reading m)) ms few
    (all_of (λ (m : Meter). reading-conservative dir m.ratio (reading m)) ms)

-- An accepted energy stands on the safe side of the exact one, and is off by less than 8 Wh: 4 by what adds and 4 by
-- what is taken.
pub energy-conservative : (dir : Direction) (n : ℕ) (ms : List Meter) (r : RoundedReadings) (E : ℕ)
    → judged_meters dir n ms ≡ given r → settled_energy r.adds r.takes ≡ given E
    → Conservative dir E (exact_energy (take n ms)) (8 ÷ 1)
unfolding exact_energy rounded_adding rounded_taking
energy-conservative dir n ms r E e s =
    let w = was_read dir n ms r e in
    let few = taken-length n 4 ms (leb-true n 4 w.0) in
    let x = sum (map (λ (m : Meter). exact_by m.ratio (adding m)) (take n ms)) in
    let y = sum (map (λ (m : Meter). exact_by m.ratio (taking m)) (take n ms)) in
    less-conservative dir E r.adds r.takes x y unit 4 4 (was_settled r.adds r.takes E s).0
    (subst (λ (v : ℕ). Conservative dir v (x ÷ unit) (whole 4)) w.1 (readings-conservative dir adding (take n ms) few))
    (subst (λ (v : ℕ). Conservative (opposite dir) v (y ÷ unit) (whole 4)) w.2
    (readings-conservative (opposite dir) taking (take n ms) few))
