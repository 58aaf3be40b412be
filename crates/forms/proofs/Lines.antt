-- A line above 256 bytes is no form, and any other is what it reads. Assumes nothing.
use Rattle.std.specs.Prelude.{Option, None, Some, is_some, true, false}
use Rattle.std.specs.Borrow.{Bor}
use mathlib.Core.Bool.{true≢false}
use Prim.Native.Nat.{ℕ, ◌≤◌, ◌<◌}
use mathlib.Core.Path.{◌≡◌, refl, sym, ap}
use Rattle.std.proofs.lemmas.Option.{none-some, same_Some}
use mathlib.Core.List.{List}
use lib.ListN.{length}
use borrow.Author.Tests.{le-leb, lt-leb}
use Rattle.text.specs.Read.{Read, map_read}
use Rattle.metering.specs.declared.Meter.{Meter}
use Rattle.emissions.specs.declared.Side.{Side}
use Rattle.emissions.specs.declared.Supply.{Supply}
use Rattle.emissions.specs.declared.Loss.{Loss}
use Rattle.ledger.specs.Standing.{Call, enter_source}
use Rattle.forms.specs.Form.{line_limit}
use Rattle.forms.specs.Reading.{or_else, form_in, line_form}
use Rattle.forms.specs.Steps.{opening_meaning}
use Rattle.forms.specs.declared.Call as call

pub long-line : (s : List ℕ) → line_limit < length s → line_form s ≡ None
unfolding line_form
long-line s h = rw (lt-leb (length s) line_limit h)

pub short-line : (s : List ℕ) → length s ≤ line_limit → line_form s ≡ form_in s
unfolding line_form
short-line s h = rw (le-leb (length s) line_limit h)

-- ---- readings

module _ {A B : Type 0} (f : A → B) where
  -- Nothing was read, whatever its fields.
  pub part-missing : {o : Option (Read A)} → None ≡ map_read f o → o ≡ None
  part-missing {o = None} e = refl
  part-missing {o = Some r} e = absurd (none-some _ e)

  -- A part was read that the code has as b.
  pub part-read : {o : Option (Read A)} {b : B} {rest : List ℕ} → Some (record { value = b; rest = rest }) ≡ map_read f o
      → (a : A) × (o ≡ Some (record { value = a; rest = rest })) × (b ≡ f a)
  part-read {o = None} e = absurd (none-some _ (sym e))
  part-read {o = Some r} e =
      let q = same_Some _ _ e in
      (r.value, rw (ap (λ (a : Read B). a.rest) q), ap (λ (a : Read B). a.value) q)

-- The first of two readings that reads anything.
pub else_mapped : {A B : Type 0} (f : A → B) (a b : Option (Read A)) → map_read f (or_else a b) ≡ or_else (map_read f a) (map_read f b)
else_mapped f None b = refl
else_mapped f (Some r) b = refl

-- The first of two readings is that of the first reader where it reads anything, and else that of the second.
pub else_first : (o : Option (call.Call × Bor (List ℕ))) (x : Option (Read Call)) → is_some o ≡ true → or_else (opening_meaning o) x ≡ opening_meaning o
else_first None x e = absurd (true≢false (sym e))
else_first (Some p) x e = refl

pub else_second : (o : Option (call.Call × Bor (List ℕ))) (x : Option (Read Call)) → is_some o ≡ false → or_else (opening_meaning o) x ≡ x
else_second None x e = refl
else_second (Some p) x e = absurd (true≢false e)

-- A source's call by the supply and the loss that it names.
pub source-call : {N : ℕ} {side : Side} {meters : List Meter} {count : ℕ} {rest : List ℕ} {u v : Supply} {l m : Loss} → u ≡ v → l ≡ m
    → ◌≡◌ {A = Option (Read Call)}
    (Some (record { value = enter_source N (record { side = side; supply = u; loss = l; meters = meters; count = count }); rest = rest }))
    (Some (record { value = enter_source N (record { side = side; supply = v; loss = m; meters = meters; count = count }); rest = rest }))
source-call e q = rw (e, q)
