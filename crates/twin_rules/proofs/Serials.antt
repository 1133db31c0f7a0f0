-- Serials are distinct exactly if each record is found by its own.
-- Assumes nothing; over the number n of places.
use Rattle.std.specs.Prelude.{Option, None, Some}
use Rattle.std.specs.Option.{option_eq}
use mathlib.Core.Path.{◌≡◌, refl, sym, ap, ap₂, ◌∙◌}
use Prim.Native.Nat.{ℕ, ◌≤◌, ◌<◌}
use native.Mathlib.Omega.{arith}
use mathlib.Core.Bool.{true, not, ◌&&◌, false≢true}
use mathlib.Core.List.{List}
use lib.Dec.{eqb}
use borrow.Author.Tests.{eq-eqb, eqb-true}
use Rattle.table.specs.Records.{serial_at}
use Rattle.search.specs.Search.{is_nothing, find}
use Rattle.search.proofs.First.{first_cong}
use Rattle.search.proofs.Finds.{find_first, find_is}
use Rattle.twin_rules.specs.Twins.{is_twin, distinct_right}
use Rattle.twin_rules.specs.Checked.{is_at, TopBelow}
use Rattle.twin_rules.proofs.Alone.{alone_is, alone_of_lem, alone_own, own_alone}

-- ---- a search that found a place

pub at_is : (i : ℕ) (f : Option ℕ) → is_at i f ≡ true → f ≡ Some i
unfolding is_at
at_is i (Some j) e = ap Some (eqb-true j i e)
at_is i None e = absurd (false≢true e)

pub at_of : (i : ℕ) (f : Option ℕ) → f ≡ Some i → is_at i f ≡ true
unfolding is_at
at_of i f e = ap (is_at i) e ∙ eq-eqb i i refl

-- the test for it by `==`
pub at_eq : (i : ℕ) (f : Option ℕ) → option_eq eqb f (Some i) ≡ is_at i f
unfolding is_at
at_eq i (Some j) = refl
at_eq i None = refl

-- ---- serials

-- a record stands at place i
abbrev pub Stands : List ℕ → ℕ → Type 0
Stands t i = serial_at t i ≡ 0 → ⊥

module _ (n : ℕ) (t : List ℕ) where
  -- the serials of records that stand are distinct
  abbrev pub Distinct : Type 0
  Distinct = (i j : ℕ) → i < n → j < n → Stands t i → serial_at t i ≡ serial_at t j → i ≡ j

  abbrev counts : ℕ → Type 0
  counts serial = serial ≡ 0 → ⊥

  pub distinct_is : ((i : ℕ) → i < n → Stands t i → distinct_right n t i ≡ true) → Distinct
  unfolding distinct_right
  distinct_is right = alone_is n (serial_at t) eqb counts eqb-true eq-eqb right

  pub distinct_of : Distinct → (i : ℕ) → i < n → Stands t i → distinct_right n t i ≡ true
  unfolding distinct_right
  distinct_of d = alone_of_lem n (serial_at t) eqb counts eqb-true eq-eqb d

  -- so each record is found by its serial
  pub find_own : Distinct → (i : ℕ) → i < n → Stands t i → find n t (serial_at t i) ≡ Some i
  find_own d i h s = find_first n t (serial_at t i) s ∙ alone_own n (serial_at t) eqb counts eqb-true eq-eqb d i h s

  -- and where each record is found by its serial the serials are distinct
  pub own_distinct : ((i : ℕ) → i < n → Stands t i → find n t (serial_at t i) ≡ Some i) → Distinct
  own_distinct own = own_alone n (serial_at t) eqb counts eqb-true eq-eqb (λ i h s. sym (find_first n t (serial_at t i) s) ∙ own i h s)

-- tables with the same serials are alike in this
pub distinct_cong : (n : ℕ) (t u : List ℕ) → ((j : ℕ) → j < n → serial_at t j ≡ serial_at u j) → (i : ℕ) → i < n → distinct_right n t i ≡ distinct_right n u i
unfolding distinct_right
distinct_cong n t u same i h = ap is_nothing (first_cong n (is_twin t i) (is_twin u i) (λ j l. ap₂ (λ (a b : ℕ). not (eqb j i) && eqb a b) (same j l) (same i h)))

-- a serial above those of all lower places is found at its own
pub top_own : (n : ℕ) (t : List ℕ) (i top serial : ℕ) → i < n → serial ≡ serial_at t i → TopBelow t i top → top < serial → is_at i (find n t serial) ≡ true
top_own n t i top serial lo own below above =
    at_of i _ (find_is n t serial i (λ z. omega arith) lo (sym own) (λ j l q. let h : serial_at t j ≤ top = below j l in omega arith))
