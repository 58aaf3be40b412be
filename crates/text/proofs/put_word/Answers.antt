-- `text::put_word` meets its contract. Assumes nothing.
use mathlib.Core.Path.{◌≡◌, ◌∙◌}
use mathlib.Core.List.{append_assoc}
use Prim.Native.Nat.{◌+◌}
use native.Mathlib.Omega.{arith}
use native.Mathlib.Numerals.{add-one}
use lib.ListN.{length, take, drop}
use lib.Seq.{paste-suc, take_all}
use Rattle.text.proofs.Buffer.{put_whole, put-none}
use Rattle.text.proofs.put_word.Goals as goal

pub returns-in_err-end : goal.returns-in_err-end
returns-in_err-end c =
    let both = put-none c.args.buffer.now c.args.at c.args.word.now (omega (arith, c.in_err-end.ensures)) in
    record { value = c.from_residual.ensures ∙ both.0; buffer_after = both.1 }

pub loop-i-preserved : goal.loop-i-preserved
loop-i-preserved c =
    let a = c.args in
    let l = c.loop-i in
    let p = c.in_ok-end.ensures in
    rw (add-one, l.invariant) (paste-suc a.buffer.now a.at a.word.now l.i 0 (omega arith) (omega (arith, p)))

pub returns : goal.returns
returns c =
    let a = c.args in
    let l = c.loop-i in
    let p = c.in_ok-end.ensures in
    let w = a.word.now in
    let i : l.i ≡ length w = omega arith in
    let both = put_whole a.buffer.now a.at w (omega (arith, p)) (omega (arith, p))
    (l.invariant ∙ rw (i, take_all (length w) w (omega arith)) (append_assoc (take a.at a.buffer.now) w (drop (a.at + length w) a.buffer.now))) in
    record { value = both.0; buffer_after = both.1 }
