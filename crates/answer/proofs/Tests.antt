-- Laws of tests: one of two holds; the same bytes.
-- Assumes nothing.
use mathlib.Core.Path.{◌≡◌, refl}
use Prim.Native.Nat.{ℕ}
use mathlib.Core.Bool.{Bool, true, false, ◌||◌, false≢true}
use mathlib.Core.List.{List, [], ◌∷◌}
use lib.Dec.{eqb}
use borrow.Author.Tests.{eqb-true, eq-eqb}
use Rattle.octets.specs.Octets.{same}
use Rattle.octets.proofs.Bools.{both, and_i}

-- one of two tests that are joined holds
pub on_or {ℓ} : {P : Type ℓ} (a b : Bool) → (a || b) ≡ true → (a ≡ true → P) → (b ≡ true → P) → P
on_or true b h f g = f refl
on_or false b h f g = g h

pub same_is : (v w : List ℕ) → same v w ≡ true → v ≡ w
unfolding same
same_is [] [] h = refl
same_is [] (y ∷ ys) h = absurd (false≢true h)
same_is (x ∷ xs) [] h = absurd (false≢true h)
same_is (x ∷ xs) (y ∷ ys) h =
    let p = both (eqb x y) (same xs ys) h in
    let e : x ≡ y = eqb-true x y p.0 in
    let es : xs ≡ ys = same_is xs ys p.1 in
    cc

pub same_self : (v : List ℕ) → same v v ≡ true
unfolding same
same_self [] = refl
same_self (x ∷ xs) = and_i (eqb x x) (same xs xs) (eq-eqb x x refl) (same_self xs)
