-- Laws of the shut `if`: an arm is taken by the fact of its test.
-- Assumes nothing.
use mathlib.Core.Path.{◌≡◌, refl}
use mathlib.Core.Bool.{Bool, true, false, true≢false, false≢true}
use borrow.Author.Tests.{lt-ltb, le-ltb, le-leb, lt-leb, eq-eqb, ne_eqb}
use Rattle.octets.specs.If.{ifb}

pub ifb_true : {A : Type 0} (b : Bool) (x y : A) → b ≡ true → ifb b x y ≡ x
unfolding ifb
ifb_true true x y e = refl
ifb_true false x y e = absurd (false≢true e)

pub ifb_false : {A : Type 0} (b : Bool) (x y : A) → b ≡ false → ifb b x y ≡ y
unfolding ifb
ifb_false false x y e = refl
ifb_false true x y e = absurd (true≢false e)

-- what holds of both arms, each under its test, holds of the whole
pub on_if {ℓ} : {A : Type 0} (P : A → Type ℓ) {b : Bool} {x y : A} → (b ≡ true → P x) → (b ≡ false → P y) → P (ifb b x y)
unfolding ifb
on_if P {b = true} f g = f refl
on_if P {b = false} f g = g refl

-- the same for a goal in which the test does not stand
pub on_bool {ℓ} : {P : Type ℓ} (b : Bool) → (b ≡ true → P) → (b ≡ false → P) → P
on_bool true f g = f refl
on_bool false f g = g refl

-- what closes `r ≡ ifb .. (ifb .. ..)` at a return, from the facts of the branches
pub ruleset chain = (ifb_true, ifb_false, lt-ltb, le-ltb, le-leb, lt-leb, eq-eqb, ne_eqb)
