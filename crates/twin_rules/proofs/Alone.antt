-- What no two places share, over any value that a place has and a test that sees whether two values are one: asked of each place against all others, and asked by a search for each place's own value. Both say the same.
-- Assumes nothing; over the number n of places.
use Rattle.std.specs.Prelude.{Option, Some}
use mathlib.Core.Path.{◌≡◌, refl, sym, ap, ◌∙◌, subst}
use Prim.Native.Nat.{ℕ, ◌<◌}
use native.Mathlib.Omega.{arith}
use native.Mathlib.Decide.{ℕ_discrete}
use mathlib.Core.Bool.{Bool, true, false, not, ◌&&◌}
use lib.Dec.{eqb}
use borrow.Author.Tests.{ne_eqb, eqb-false, not-true}
use Rattle.octets.proofs.Bools.{and_l, and_r, and_i, no_unless, not_both}
use Rattle.search.specs.Search.{first, is_nothing}
use Rattle.search.proofs.First.{At-same, is_nothing_is, is_nothing_none, found_is, none_fails, fails_none}

-- `of` is the value that a place has, `same` the test, and `counts` says which values count
module _ {A : Type 0} (n : ℕ) (of : ℕ → A) (same : A → A → Bool) (counts : A → Type 0) (same_is : (a b : A) → same a b ≡ true → a ≡ b) (same_of : (a b : A) → a ≡ b → same a b ≡ true) where
  -- no two places have one value that counts
  abbrev pub Alone : Type 0
  Alone = (i j : ℕ) → i < n → j < n → counts (of i) → of i ≡ of j → i ≡ j

  -- another place has the value of place i
  abbrev other : ℕ → ℕ → Bool
  other i j = not (eqb j i) && same (of j) (of i)

  pub alone_is : ((i : ℕ) → i < n → counts (of i) → is_nothing (first n (other i)) ≡ true) → Alone
  alone_is right i j h g c e =
      let none : other i j ≡ false = none_fails n (other i) (is_nothing_is _ (right i h c)) j g in
      elim (ℕ_discrete j i) [
        | yes q ↦ sym q
        | no q ↦ absurd (not_both _ (and_i (not (eqb j i)) (same (of j) (of i)) (ap not (ne_eqb j i q)) (same_of (of j) (of i) (sym e))) none)
      ]

  pub alone_of_lem : Alone → (i : ℕ) → i < n → counts (of i) → is_nothing (first n (other i)) ≡ true
  alone_of_lem alone i h c =
      let none : (j : ℕ) → j < n → other i j ≡ false = λ j g. no_unless (other i j) (λ e.
      let q : j ≡ i → ⊥ = eqb-false j i (not-true (eqb j i) (and_l (not (eqb j i)) (same (of j) (of i)) e)) in
      let p : of j ≡ of i = same_is (of j) (of i) (and_r (not (eqb j i)) (same (of j) (of i)) e) in
      q (sym (alone i j h g c (sym p)))) in
      is_nothing_none _ (fails_none n (other i) none)

  -- the lowest place that has a value
  abbrev sought : A → Option ℕ
  sought a = first n (λ j. same (of j) a)

  pub alone_own : Alone → (i : ℕ) → i < n → counts (of i) → sought (of i) ≡ Some i
  alone_own alone i h c =
      found_is n (λ j. same (of j) (of i)) i h (same_of (of i) (of i) refl)
      (λ j l. no_unless (same (of j) (of i)) (λ e. let z : i ≡ j = alone i j h (omega arith) c (sym (same_is (of j) (of i) e)) in omega arith))

  pub own_alone : ((i : ℕ) → i < n → counts (of i) → sought (of i) ≡ Some i) → Alone
  own_alone own i j h g c e = At-same (sym (own i h c) ∙ ap sought e ∙ own j g (subst counts e c))
