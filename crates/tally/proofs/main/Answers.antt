-- `tally::main` prints the first bytes of its buffer, as many as the output has. Assumes nothing.
use Rattle.std.proofs.Common.{◌≤◌, ◌∙◌, sym, length}
use Rattle.std.proofs.lemmas.List.{length-take-le}
use Rattle.answers.proofs.Lengths.{written-fits}
use Rattle.tally.proofs.main.Goals as goal
use Rattle.tally.proofs.main.Goals.{After-unwrap-length}

within : (c : After-unwrap-length) → c.unwrap-length.result ≤ length c.answer_input.new.buffer
within c =
    rw c.answer_input.auto.buffer
    (written-fits _ (length c.output_buffer-buffer.result) c.unwrap-length.result
    (sym c.answer_input.ensures.value ∙ c.unwrap-length.ensures))

pub slice_bounds-buffer-end : goal.slice_bounds-buffer-end
slice_bounds-buffer-end c = within (goal.at.slice_bounds-buffer-end c).After-unwrap-length

pub slice_bounds-write_all-end : goal.slice_bounds-write_all-end
slice_bounds-write_all-end c =
    sym (length-take-le _ _ (within (goal.at.slice_bounds-write_all-end c).After-unwrap-length))
