-- `metering::register` meets its contract: the test finds the NaN patterns. Assumes nothing.
use mathlib.Core.Path.{◌≡◌, refl, sym, ◌∙◌, subst}
use mathlib.Core.Bool.{Bool, true, not}
use lib.Dec.{T}
use lib.Ieee.{Float, nan, inf, fin, binary32, is_nan, of_bits}
use lib.Ieee.Bits.{nan_bits_is, nan_bits_above}
use borrow.Author.Tests.{lt-ltb, le-ltb}
use Rattle.metering.proofs.register.Goals as goal

-- The pattern of `f32::NAN`.
nan-pattern : of_bits binary32 0x7fc00000 ≡ nan
unfolding of_bits
nan-pattern = refl

is-nan : (x : Float) → is_nan x ≡ true → nan ≡ x
unfolding is_nan
is-nan nan h = refl
is-nan (inf s) h = cc
is-nan (fin s m e) h = cc

pub returns-then-bits-gt-INFINITY : goal.returns-then-bits-gt-INFINITY
returns-then-bits-gt-INFINITY c =
    let b = c.args.bits in
    nan-pattern
    ∙ is-nan (of_bits binary32 b)
    (sym (nan_bits_is binary32 b) ∙ nan_bits_above binary32 b ∙ lt-ltb _ _ c.if-bits-gt-INFINITY.true)

pub float_from_bits-result : goal.float_from_bits-result
float_from_bits-result c =
    subst (λ (t : Bool). T (not t))
    (sym (nan_bits_above binary32 c.args.bits ∙ le-ltb _ _ c.if-bits-gt-INFINITY.false)) tt
