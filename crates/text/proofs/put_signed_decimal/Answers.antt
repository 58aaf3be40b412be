-- `text::put_signed_decimal` meets its contract. Assumes nothing.
use mathlib.Core.Path.{ap, ◌∙◌}
use mathlib.Core.List.{◌∷◌}
use native.Mathlib.Omega.{arith}
use lib.IntN.{nat_abs}
use mir.Syntax.{w64}
use mir.ValLaws.{to_z-of_z}
use Rattle.text.specs.Decimal.{decimal}
use Rattle.text.proofs.Signed.{signed-at-least-zero, signed-below-zero}
use Rattle.text.proofs.Buffer.{put-none, put-before, put-before-none}
use Rattle.text.proofs.put_signed_decimal.Goals as goal

pub returns-then-number-ge0 : goal.returns-then-number-ge0
returns-then-number-ge0 c =
    let m = c.magnitude.ensures ∙ ap nat_abs (to_z-of_z w64 c.args.number c.ranges.number) in
    rw (signed-at-least-zero c.args.number c.ranges.number c.if-number-ge0.true, ← m)
    c.put_decimal.ensures

pub returns-then-at-buffer : goal.returns-then-at-buffer
returns-then-at-buffer c =
    let both = put-none c.args.buffer.now c.args.at (45 ∷ decimal (nat_abs c.args.number)) (omega arith) in
    rw (signed-below-zero c.args.number c.ranges.number c.if-number-ge0.false)
    (record { value = both.0; buffer_after = both.1 })

pub returns-in_err-next : goal.returns-in_err-next
returns-in_err-next c =
    let m = c.magnitude-2.ensures ∙ ap nat_abs (to_z-of_z w64 c.args.number c.ranges.number) in
    let p = c.in_err-next.ensures in
    let both = put-before-none c.args.buffer.now c.args.at 45 (decimal c.magnitude-2.result) p.value p.buffer_after in
    rw (signed-below-zero c.args.number c.ranges.number c.if-number-ge0.false, ← m)
    (record { value = c.from_residual.ensures ∙ both.0; buffer_after = both.1 })

pub returns : goal.returns
returns c =
    let m = c.magnitude-2.ensures ∙ ap nat_abs (to_z-of_z w64 c.args.number c.ranges.number) in
    let p = c.in_ok-next.ensures in
    let both = put-before c.args.buffer.now c.args.at 45 (decimal c.magnitude-2.result) p.value p.buffer_after in
    rw (signed-below-zero c.args.number c.ranges.number c.if-number-ge0.false, ← m)
    (record { value = both.0; buffer_after = both.1 })
