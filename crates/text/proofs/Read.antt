-- Laws of what was read. Assumes nothing.
use Rattle.std.specs.Prelude.{Some}
use mathlib.Core.Path.{◌≡◌, ap}
use mathlib.Core.List.{List}
use Prim.Native.Nat.{ℕ}
use Rattle.std.proofs.lemmas.Option.{same_Some}
use Rattle.text.specs.Read.{Read, read}

-- Two readings are the same only by their values and by what they leave.
pub same_read : {A : Type 0} {a b : A} {s t : List ℕ} → Some (read a s) ≡ Some (read b t) → (a ≡ b) × (s ≡ t)
same_read {A} {a} {b} {s} {t} e =
    let r = same_Some (read a s) (read b t) e in
    (ap (λ (x : Read A). x.value) r, ap (λ (x : Read A). x.rest) r)
