-- Laws of the search for the lowest place that passes a test: what the answer says, and that a search by a test gives it.
-- Assumes nothing; over any test and any number n of places.
use Rattle.std.specs.Prelude.{Option, None, Some}
use mathlib.Core.Path.{◌≡◌, refl, sym, ap, ◌∙◌}
use mathlib.Core.Logic.{⊎_elim}
use Prim.Native.Nat.{ℕ, zero, suc, ◌+◌, ◌≤◌, ◌<◌}
use native.Mathlib.Omega.{arith}
use native.Mathlib.Nat.{eq-or-lt_of_le}
use mathlib.Core.Bool.{Bool, true, false, false≢true}
use Rattle.octets.proofs.If.{ifb_true, ifb_false, on_bool}
use Rattle.search.specs.Search.{first_from, first, IsFirst, is_nothing}

-- ---- the two answers

pub At-same : {i j : ℕ} → Some i ≡ Some j → i ≡ j
At-same e = cc

pub At-not {ℓ} : {P : Type ℓ} {i : ℕ} → Some i ≡ None → P
At-not e = absurd (let z : ◌≡◌ {A = ℕ} 0 1 = cc in omega arith)

-- by cases on an answer
pub on_found_lem {ℓ} : {P : Type ℓ} (f : Option ℕ) → ((i : ℕ) → f ≡ Some i → P) → (f ≡ None → P) → P
on_found_lem (Some i) at nothing = at i refl
on_found_lem None at nothing = nothing refl

pub is_nothing_is : (f : Option ℕ) → is_nothing f ≡ true → f ≡ None
unfolding is_nothing
is_nothing_is (Some i) e = absurd (false≢true e)
is_nothing_is None e = refl

pub is_nothing_at : (f : Option ℕ) (i : ℕ) → f ≡ Some i → is_nothing f ≡ false
unfolding is_nothing
is_nothing_at f i e = ap is_nothing e

pub is_nothing_none : (f : Option ℕ) → f ≡ None → is_nothing f ≡ true
unfolding is_nothing
is_nothing_none f e = ap is_nothing e

-- ---- what is found

record Lowest (test : ℕ → Bool) (i k j : ℕ) : Type 0 where
  from : i ≤ j
  below : j < i + k
  passes : test j ≡ true
  fails : (m : ℕ) → i ≤ m → m < j → test m ≡ false

lowest_later : (test : ℕ → Bool) (i k j : ℕ) → test i ≡ false → Lowest test (suc i) k j → Lowest test i (suc k) j
lowest_later test i k j e l = record {
  from = let a : suc i ≤ j = l.from in omega arith;
  below = let a : j < suc i + k = l.below in omega arith;
  passes = l.passes;
  fails = λ m a b. ⊎_elim (λ z. ap test (sym z) ∙ e) (λ z. l.fails m z b) (eq-or-lt_of_le a);
}

found_from : (test : ℕ → Bool) (i k j : ℕ) → first_from test i k ≡ Some j → Lowest test i k j
unfolding first_from
found_from test i zero j e = At-not (sym e)
found_from test i (suc k) j e =
    on_bool (test i)
    (λ y.
    let z : i ≡ j = At-same (sym (ifb_true (test i) _ _ y) ∙ e) in
    record { from = omega arith; below = omega arith; passes = ap test (sym z) ∙ y; fails = λ m a b. absurd (omega arith) })
    (λ y. lowest_later test i k j y (found_from test (suc i) k j (sym (ifb_false (test i) _ _ y) ∙ e)))

lowest_found : (test : ℕ → Bool) (i k j : ℕ) → Lowest test i k j → first_from test i k ≡ Some j
unfolding first_from
lowest_found test i zero j l = absurd (let a : i ≤ j = l.from in let b : j < i + 0 = l.below in omega arith)
lowest_found test i (suc k) j l =
    ⊎_elim
    (λ z. ifb_true (test i) _ _ (ap test z ∙ l.passes) ∙ ap Some z)
    (λ z.
    ifb_false (test i) _ _ (l.fails i (omega arith) z)
    ∙ lowest_found test (suc i) k j (record {
      from = z;
      below = let b : j < i + suc k = l.below in omega arith;
      passes = l.passes;
      fails = λ m a b. l.fails m (omega arith) b;
    }))
    (eq-or-lt_of_le l.from)

none_from : (test : ℕ → Bool) (i k : ℕ) → first_from test i k ≡ None → (m : ℕ) → i ≤ m → m < i + k → test m ≡ false
unfolding first_from
none_from test i zero e m a b = absurd (omega arith)
none_from test i (suc k) e m a b =
    on_bool (test i)
    (λ y. At-not (sym (ifb_true (test i) _ _ y) ∙ e))
    (λ y. ⊎_elim (λ z. ap test (sym z) ∙ y) (λ z. none_from test (suc i) k (sym (ifb_false (test i) _ _ y) ∙ e) m z (omega arith)) (eq-or-lt_of_le a))

from_none : (test : ℕ → Bool) (i k : ℕ) → ((m : ℕ) → i ≤ m → m < i + k → test m ≡ false) → first_from test i k ≡ None
unfolding first_from
from_none test i zero h = refl
from_none test i (suc k) h = ifb_false (test i) _ _ (h i (omega arith) (omega arith)) ∙ from_none test (suc i) k (λ m a b. h m (omega arith) (omega arith))

from_cong : (f g : ℕ → Bool) (i k : ℕ) → ((m : ℕ) → m < i + k → f m ≡ g m) → first_from f i k ≡ first_from g i k
unfolding first_from
from_cong f g i zero h = refl
from_cong f g i (suc k) h =
    let e : f i ≡ g i = h i (omega arith) in
    let r : first_from f (suc i) k ≡ first_from g (suc i) k = from_cong f g (suc i) k (λ m l. h m (omega arith)) in
    rw (e, r)

module _ (n : ℕ) (test : ℕ → Bool) where
  module _ (i : ℕ) (e : first n test ≡ Some i) where
    lowest : Lowest test 0 n i
    lowest = found_from test 0 n i e

    pub found_below : i < n
    found_below = let b : i < 0 + n = lowest.below in omega arith

    pub found_test : test i ≡ true
    found_test = lowest.passes

    pub found_lowest : (j : ℕ) → j < i → test j ≡ false
    found_lowest j h = lowest.fails j (omega arith) h

  -- the lowest that passes is found
  pub found_is : (i : ℕ) → i < n → test i ≡ true → ((j : ℕ) → j < i → test j ≡ false) → first n test ≡ Some i
  found_is i lo y low = lowest_found test 0 n i (record { from = omega arith; below = omega arith; passes = y; fails = λ j a b. low j b })

  -- nothing found: none passes, and the other way round
  pub none_fails : first n test ≡ None → (j : ℕ) → j < n → test j ≡ false
  none_fails e j lo = none_from test 0 n e j (omega arith) (omega arith)

  pub fails_none : ((j : ℕ) → j < n → test j ≡ false) → first n test ≡ None
  fails_none h = from_none test 0 n (λ j a b. h j (omega arith))

-- tests that agree find alike
pub first_cong : (n : ℕ) (f g : ℕ → Bool) → ((k : ℕ) → k < n → f k ≡ g k) → first n f ≡ first n g
first_cong n f g h = from_cong f g 0 n (λ k l. h k (omega arith))

-- what a search finds by a test that may give one answer only is the lowest place that passes
pub first_is : {n : ℕ} {gives : ℕ → Bool → Type 0} {found : Option ℕ} → IsFirst n gives found → (test : ℕ → Bool) → ((i : ℕ) (b : Bool) → i < n → gives i b → b ≡ test i) → found ≡ first n test
unfolding IsFirst
first_is {n = n} {found = Some i} h test one = sym (found_is n test i h.0 (sym (one i true h.0 h.1)) (λ j l. sym (one j false (omega arith) (h.2 j l))))
first_is {n = n} {found = None} h test one = sym (fails_none n test (λ j l. sym (one j false l (h j l))))
