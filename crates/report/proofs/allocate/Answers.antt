-- `report::allocate` meets its contract: 64 bits hold both products. Assumes nothing.
use mathlib.Core.Path.{◌≡◌, ◌∙◌}
use native.Mathlib.Omega.{arith}
use Rattle.report.specs.Heat.{allocated}
use Rattle.report.proofs.Heat.{products-fit, allocated-most}
use Rattle.report.proofs.allocate.Goals as goal

pub overflow_mul-milligrams : goal.overflow_mul-milligrams
overflow_mul-milligrams c =
    let a = c.args in
    record { fits = omega (arith, (products-fit a.energy a.heat a.milligrams (omega arith) c.requires.2).0) }

pub overflow_mul-energy : goal.overflow_mul-energy
overflow_mul-energy c =
    let a = c.args in
    record {
      fits = rw c.divide-factor.ensures
          (omega (arith, (products-fit a.energy a.heat a.milligrams (omega arith) c.requires.2).1));
    }

pub returns : goal.returns
unfolding allocated
returns c =
    let a = c.args in
    let e : c.divide.result ≡ allocated a.energy a.heat a.milligrams = c.divide.ensures ∙ rw c.divide-factor.ensures in
    (e, rw e (allocated-most a.energy a.heat a.milligrams (omega arith)))
