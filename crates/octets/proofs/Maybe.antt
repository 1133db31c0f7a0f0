-- Laws of reading that may fail: what was read, where the whole gave something.
-- Assumes nothing.
use mathlib.Core.Path.{◌≡◌, refl}
use Prim.Native.Nat.{ℕ}
use native.Mathlib.Omega.{arith}
use mathlib.Core.Bool.{Bool, true, false}
use Rattle.std.specs.Prelude.{Option, None, Some}
use Rattle.octets.specs.If.{ifb}
use Rattle.octets.specs.Maybe.{◌>>=◌, ◌>>◌}

pub not_some : {A : Type 0} {a : A} → None ≡ Some a → ⊥
not_some h = let z : ◌≡◌ {A = ℕ} 0 1 = cc in omega arith

pub some_is : {A : Type 0} {a b : A} → Some a ≡ Some b → a ≡ b
some_is h = cc

-- a step that was taken had something to go on with
pub on_bind {ℓ} : {A B : Type 0} {P : Type ℓ} {o : Option A} {next : A → Option B} {b : B} → (o >>= next) ≡ Some b
    → ((a : A) → o ≡ Some a → next a ≡ Some b → P) → P
unfolding ◌>>=◌
on_bind {o = None} h k = absurd (not_some h)
on_bind {o = Some a} h k = k a refl h

-- a test that was passed holds
pub on_test {ℓ} : {B : Type 0} {P : Type ℓ} {t : Bool} {o : Option B} {b : B} → (t >> o) ≡ Some b → (t ≡ true → o ≡ Some b → P) → P
unfolding ◌>>◌
on_test {t = true} h k = k refl h
on_test {t = false} h k = absurd (not_some h)

-- the same for an answer under a test
pub if_some : {A : Type 0} {t : Bool} {a b : A} → ifb t (Some a) None ≡ Some b → (t ≡ true) × (a ≡ b)
unfolding ifb
if_some {t = true} h = (refl, some_is h)
if_some {t = false} h = absurd (not_some h)
