-- What a line asks for, as its text says it and as it was read, with its numbers in the box's fields. Assumes nothing.
use Rattle.std.specs.Prelude.{Option, None, Some, option_map}
use mathlib.Core.Path.{◌≡◌, refl, sym, ap, ◌∙◌}
use mathlib.Core.List.{List}
use Prim.Native.Nat.{ℕ}
use Rattle.report.specs.Report.{Reply}
use Rattle.ledger.specs.Operations.{step, reply}
use Rattle.ledger.specs.declared.Ledger.{Ledger}
use Rattle.forms.specs.Form.{Form}
use Rattle.forms.specs.Reading.{line_form}
use Rattle.forms.specs.Calls.{call_of, line_call, call_meaning, fitted_call}
use Rattle.forms.specs.declared.Call.{Call}
use Rattle.forms.proofs.Fitted.{fitted-steps, fitted-replies}
use Rattle.answers.specs.Input.{line_step, line_reply}

module _ (l : Ledger) where
  steps : (o : Option Form) → line_step l (option_map fitted_call o) ≡ line_step l (option_map call_of o)
  steps None = refl
  steps (Some f) = fitted-steps l f

  replies : (o : Option Form) → line_reply l (option_map fitted_call o) ≡ line_reply l (option_map call_of o)
  replies None = refl
  replies (Some f) = fitted-replies l f

  module _ (line : List ℕ) (r : Option Call)
      (e : option_map call_meaning r ≡ option_map fitted_call (line_form line)) where
    pub read-steps : line_step l (line_call line) ≡ line_step l (option_map call_meaning r)
    unfolding line_call
    read-steps = sym (ap (line_step l) e ∙ steps (line_form line))

    pub read-replies : line_reply l (line_call line) ≡ line_reply l (option_map call_meaning r)
    unfolding line_call
    read-replies = sym (ap (line_reply l) e ∙ replies (line_form line))

    -- A line that was read as a call leaves and is answered what the call does.
    pub answered : (call c : Call) → r ≡ Some call → call ≡ c → {next : Ledger} {a : Reply}
        → next ≡ step l (call_meaning c) → a ≡ reply l (call_meaning c)
        → (next ≡ line_step l (line_call line)) × (a ≡ line_reply l (line_call line))
    answered call c some is n a =
        let some = some ∙ ap Some is in
        (n ∙ sym (rw some at read-steps), a ∙ sym (rw some at read-replies))
