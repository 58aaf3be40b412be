-- Energies at the ends of their range, and with ratios (document 01, "From register to watt-hours"; document 02, wish
-- 4). Assumes nothing.
use mathlib.Core.Path.{◌≡◌, refl, sym, ap, ◌∙◌}
use mathlib.Core.Logic.{◌≢◌}
use mathlib.Core.Bool.{Bool, true, false, not, ◌&&◌, ◌||◌}
use mathlib.Core.List.{List, [], ◌∷◌}
use Prim.Native.Nat.{ℕ, ◌+◌, ◌*◌, ◌%◌, ◌^◌, ◌<◌}
use native.Mathlib.Nat.{add-zero}
use native.Mathlib.Omega.{arith}
use lib.Dec.{ltb, lit<}
use lib.Ieee.{Float, binary32, of_bits}
use borrow.Author.Tests.{le-ltb, lt-leb}
use Rattle.rounding.specs.declared.Direction.TheVariants.{Up, Down}
use Rattle.rounding.specs.Outcome.{Outcome, refused, given, refuse_unless}
use Rattle.rounding.specs.Divided.{divided, sum}
use Rattle.rounding.proofs.Divided.{up-odd, down_is}
use Rattle.metering.specs.Reading.{unit, exact_by, exact_register, is_readable_register, ratio_fits, accepted}
use Rattle.metering.specs.Energy.{exact_energy, rounded_adding, rounded_taking, judged_readings, judged_meters}
use Rattle.metering.specs.Energy.{settled_energy}
use Rattle.metering.specs.declared.Reading.TheVariants.{Single}
use Rattle.metering.specs.declared.Sign.{Sign}
use Rattle.metering.specs.declared.Sign.TheVariants.{Plus, Minus}
use Rattle.metering.specs.declared.Interval.TheVariants.{Counts, Singles}
use Rattle.metering.specs.declared.Meter.{Meter}
use Rattle.metering.specs.declared.RoundedReadings.{RoundedReadings}
use Rattle.metering.proofs.Readings.{unit-above-zero}

-- ---- an accepted energy of 0 whose exact energy is below zero

-- A single meter by its ratio, its sign and the bits of its registers.
abbrev single : ℕ → Sign → ℕ → ℕ → Meter
single ratio s first last =
    record {
      ratio = ratio;
      sign = s;
      interval = Singles record { first = of_bits binary32 first; last = of_bits binary32 last };
    }

-- A + meter at rest at 1,000 Wh, and a - meter that moved from 1 kWh to the next register above it, less than a
-- watt-hour.
abbrev resting : Meter
resting = record { ratio = 1; sign = Plus; interval = Counts 1000 1000 }

abbrev creeping : Meter
creeping = single 1 Minus 0x3f800000 0x3f800001

pub zero-below-zero : (judged_meters Up 2 (resting ∷ creeping ∷ []) ≡ given record { adds = 2000; takes = 2000 })
    × (settled_energy 2000 2000 ≡ given 0)
    × ((exact_energy (resting ∷ creeping ∷ [])).plus < (exact_energy (resting ∷ creeping ∷ [])).minus)
unfolding judged_meters judged_readings rounded_adding rounded_taking sum divided settled_energy exact_energy
    exact_register is_readable_register of_bits
zero-below-zero = (refl, refl, lit< tt)

-- ---- "a baseline source whose only meter is an unmoved register that is no whole Wh has E = -1 and is refused 6"

abbrev unmoved : ℕ → Sign → Float → Meter
unmoved ratio s x = record { ratio = ratio; sign = s; interval = Singles record { first = x; last = x } }

-- Rounded up it is one watt-hour more than rounded down.
one_more_lem : (x : ℕ) → x % unit ≢ 0 → divided Up x unit ≡ divided Down x unit + 1
one_more_lem x h = sym (up-odd x unit unit-above-zero h) ∙ ap (λ (q : ℕ). q + 1) (down_is x unit)

below-zero : (q : ℕ) → settled_energy q (q + 1) ≡ refused 6
unfolding settled_energy
below-zero q = simp (lt-leb (q + 1) q (omega arith))

only : (f a b : Bool) (p q : ℕ) → a ≡ true → b ≡ false → f ≡ true
    → ◌≡◌ {A = Outcome RoundedReadings}
    (refuse_unless 2 (f && true)
    (refuse_unless 3 ((a && a) && true)
    (refuse_unless 4 (not (b || false)) (given record { adds = p + 0; takes = q + 0 }))))
    (given record { adds = p; takes = q })
only f a b p q h k l = simp (h, k, l, add-zero)

-- The same by any ratio: the product is no whole Wh.
pub unmoved-refused : (ratio : ℕ) (s : Sign) (x : Float) (ms : List Meter) → ratio_fits ratio ≡ true
    → accepted ratio (Single x) ≡ true
    → exact_by ratio (Single x) % unit ≢ 0
    → let q = divided Down (exact_by ratio (Single x)) unit in
    (judged_meters Down 1 (unmoved ratio s x ∷ ms) ≡ given record { adds = q; takes = q + 1 })
    × (settled_energy q (q + 1) ≡ refused 6)
unfolding judged_meters judged_readings rounded_adding rounded_taking sum
unmoved-refused ratio s x ms f h k =
    let q = divided Down (exact_by ratio (Single x)) unit in (
      go s ∙ ap (λ (t : ℕ). given record { adds = q; takes = t }) (one_more_lem (exact_by ratio (Single x)) k),
      below-zero q,
    )
  where
    same : (n : ℕ) → ltb n n ≡ false
    same n = le-ltb n n (omega arith)

    go : (s : Sign) → judged_meters Down 1 (unmoved ratio s x ∷ ms)
        ≡ given record {
          adds = divided Down (exact_by ratio (Single x)) unit;
          takes = divided Up (exact_by ratio (Single x)) unit;
        }
    go Plus = only (ratio_fits ratio) (accepted ratio (Single x)) _ _ _ h (same (exact_by ratio (Single x))) f
    go Minus = only (ratio_fits ratio) (accepted ratio (Single x)) _ _ _ h (same (exact_by ratio (Single x))) f

-- ---- "A reading's exact value is multiplied by it before rounding"

-- A + meter from 0 to 123.456 kWh, or near it, behind a ratio of 1,000, and a - meter from 1 kWh to the next register
-- above it behind one of 3. What adds is 123,459,001 and 577/2,048 Wh, what is taken 3,000 and 3,000/2^23 Wh.
abbrev behind : List Meter
behind = single 1000 Plus 0 0x42f6e979 ∷ single 3 Minus 0x3f800000 0x3f800001 ∷ []

pub ratios-in-energy : (exact_energy behind
    ≡ record { plus = (123459001 * 2048 + 577) * 2 ^ 138; minus = 3000 * (2 ^ 23 + 1) * 2 ^ 126; over = 2 ^ 149 })
    × (judged_meters Up 2 behind ≡ given record { adds = 123459002; takes = 3000 })
    × (settled_energy 123459002 3000 ≡ given 123456002)
    × (judged_meters Down 2 behind ≡ given record { adds = 123459001; takes = 3001 })
    × (settled_energy 123459001 3001 ≡ given 123456000)
unfolding judged_meters judged_readings rounded_adding rounded_taking sum divided settled_energy exact_energy
    exact_register is_readable_register of_bits
ratios-in-energy = (refl, refl, refl, refl, refl)

-- At rest on a fraction a baseline source with a ratio of 10,000 is 1 Wh below zero, not 10,000.
pub at-rest-behind : (judged_meters Down 1 (single 10000 Plus 0x42f6e979 0x42f6e979 ∷ [])
    ≡ given record { adds = 1234560012; takes = 1234560013 })
    × (settled_energy 1234560012 1234560013 ≡ refused 6)
unfolding judged_meters judged_readings rounded_adding rounded_taking sum divided settled_energy
    exact_register is_readable_register of_bits
at-rest-behind = (refl, refl)
