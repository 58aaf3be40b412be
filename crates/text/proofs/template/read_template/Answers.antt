-- `text::template::read_template` meets its contract: what is left of the template gives what the whole gives. Assumes
-- nothing.
use mathlib.Core.Path.{ap, ◌∙◌}
use native.Mathlib.Omega.{arith}
use Rattle.text.specs.Read.{read_meaning}
use Rattle.text.proofs.Pieces.{whole-left, passed, nothing_left, left-none, left-number, left-byte}
use Rattle.text.proofs.template.read_template.Goals as goal

pub loop-byte-init : goal.loop-byte-init
loop-byte-init c = record { few = omega arith; whole = whole-left c.args.template.now c.args.text.now }

pub returns-in_default : goal.returns-in_default
returns-in_default c =
    let l = c.loop-byte in
    nothing_left c.pass_plain.result.1.now c.pass_plain.result.0.now l.places l.numbers c.in_default.ensures.cases ∙ passed l.places l.numbers c.pass_plain.ensures.same l.invariant.whole

pub returns-in_err-number : goal.returns-in_err-number
returns-in_err-number c =
    let l = c.loop-byte in
    ap read_meaning c.from_residual.ensures
    ∙ left-none _ c.in-Some.byte.now _ _ l.places l.numbers c.in-Some.ensures.cases.0 c.in_err-number.ensures
    ∙ passed l.places l.numbers c.pass_plain.ensures.same l.invariant.whole

pub loop-byte-preserved-in-Some-number : goal.loop-byte-preserved-in-Some-number
loop-byte-preserved-in-Some-number c =
    let l = c.loop-byte in
    let v = c.in-Some.ensures.cases in
    record {
      few = omega arith;
      whole =
          left-number _ c.in-Some.byte.now _ _ l.places l.numbers v.0 c.in_ok-number.next.now c.in_ok-number.number c.in_ok-number.ensures
          c.in-Some-number.number c.in-Some-number.is c.store.ensures
          ∙ passed l.places l.numbers c.pass_plain.ensures.same l.invariant.whole;
    }

pub loop-byte-preserved : goal.loop-byte-preserved
loop-byte-preserved c =
    let l = c.loop-byte in
    let v = c.in-Some.ensures.cases in
    record {
      few = omega arith;
      whole =
          left-byte _ c.in-Some.byte.now _ _ l.places l.numbers v.0 c.in_ok-number.next.now c.in_ok-number.number c.in_ok-number.ensures
          c.in_default-number.is
          ∙ passed l.places l.numbers c.pass_plain.ensures.same l.invariant.whole;
    }
