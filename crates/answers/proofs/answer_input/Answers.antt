-- `answers::answer_input` meets its contract: the refusal of a longer input is put where it fits. Assumes nothing.
use Rattle.std.proofs.Common.{◌≡◌, ◌∙◌, refl, sym, true, length, leb, arith}
use Rattle.std.proofs.lemmas.Bool.{le-leb, lt-leb}
use Rattle.text.specs.Buffer.{after_put}
use Rattle.answers.specs.Input.{output}
use Rattle.answers.proofs.answer_input.Goals as goal

pub unwrap-requires : goal.unwrap-requires
unfolding after_put
unwrap-requires c =
    let room : leb 11 (length c.args.buffer.now) ≡ true = le-leb 11 _ (omega (arith, c.if-buffer-lt-BYTES_OF_REFUSAL.false)) in
    rw (c.put_word.ensures.value, room) refl

pub returns-then-input-gt-INPUT_LIMIT-clause-value : goal.returns-then-input-gt-INPUT_LIMIT-clause-value
unfolding output after_put
returns-then-input-gt-INPUT_LIMIT-clause-value c =
    rw (lt-leb _ 65536 c.if-input-gt-INPUT_LIMIT.true)
    (sym c.unwrap.ensures ∙ c.put_word.ensures.value)

pub returns-then-input-gt-INPUT_LIMIT-clause-buffer_after : goal.returns-then-input-gt-INPUT_LIMIT-clause-buffer_after
unfolding output
returns-then-input-gt-INPUT_LIMIT-clause-buffer_after c =
    let room : leb 11 (length c.args.buffer.now) ≡ true = le-leb 11 _ (omega (arith, c.if-buffer-lt-BYTES_OF_REFUSAL.false)) in
    rw (lt-leb _ 65536 c.if-input-gt-INPUT_LIMIT.true, room) c.put_word.ensures.buffer_after
