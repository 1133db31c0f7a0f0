-- Laws of the searches of the table: a record by its serial, the places that are free or destroyed, and where a new key goes.
-- Assumes nothing; over the number n of places, of tables of the right size.
use Rattle.std.specs.Prelude.{Option, None, Some}
use mathlib.Core.Path.{◌≡◌, refl, sym, ap, ◌∙◌}
use mathlib.Core.Logic.{◌⊎◌, inl, inr, ⊎_elim}
use Prim.Native.Nat.{ℕ, ◌<◌}
use native.Mathlib.Omega.{arith}
use native.Mathlib.Decide.{ℕ_discrete}
use mathlib.Core.Bool.{Bool, true, false}
use mathlib.Core.List.{List}
use lib.ListN.{length}
use lib.Dec.{eqb}
use borrow.Author.Tests.{eq-eqb, ne_eqb, eqb-true, eqb-false}
use Rattle.octets.proofs.If.{ifb_true, ifb_false, on_bool}
use Rattle.table.specs.declared.Record.{Record}
use Rattle.table.specs.Layout.{size_of}
use Rattle.table.specs.Records.{with_place, serial_at, state_at, is_free}
use Rattle.search.specs.Search.{first, has_serial, find, or_else, is_destroyed, free_place, destroyed_place, new_place}
use Rattle.table.proofs.Lines.{InRange}
use Rattle.table.proofs.Places.{serial_same, serial_other, serial_with}
use Rattle.search.proofs.First.{At-not, on_found_lem, found_below, found_test, found_lowest, found_is, none_fails, fails_none, first_cong}

-- ---- a record by its serial

-- zero is no record's serial
pub find_zero : (n : ℕ) (t : List ℕ) → find n t 0 ≡ None
unfolding find
find_zero n t = ifb_true (eqb 0 0) _ _ refl

-- any other is looked for
pub find_first : (n : ℕ) (t : List ℕ) (s : ℕ) → (s ≡ 0 → ⊥) → find n t s ≡ first n (has_serial t s)
unfolding find
find_first n t s ne = ifb_false (eqb s 0) _ _ (ne_eqb s 0 ne)

module _ (n : ℕ) (t : List ℕ) (s i : ℕ) (e : find n t s ≡ Some i) where
  -- what is found is a record's place, and has its serial
  pub find_nonzero : s ≡ 0 → ⊥
  find_nonzero z = At-not (sym e ∙ ap (find n t) z ∙ find_zero n t)

  pub find_below : i < n
  find_below = found_below n (has_serial t s) i (sym (find_first n t s find_nonzero) ∙ e)

  pub find_serial : serial_at t i ≡ s
  find_serial = eqb-true (serial_at t i) s (found_test n (has_serial t s) i (sym (find_first n t s find_nonzero) ∙ e))

  -- no lower place has it
  pub find_lowest : (j : ℕ) → j < i → serial_at t j ≡ s → ⊥
  find_lowest j h = eqb-false (serial_at t j) s (found_lowest n (has_serial t s) i (sym (find_first n t s find_nonzero) ∙ e) j h)

-- nothing found: no place has it
pub find_none : (n : ℕ) (t : List ℕ) (s : ℕ) → (s ≡ 0 → ⊥) → find n t s ≡ None → (j : ℕ) → j < n → serial_at t j ≡ s → ⊥
find_none n t s ne e j h = eqb-false (serial_at t j) s (none_fails n (has_serial t s) (sym (find_first n t s ne) ∙ e) j h)

pub none_find : (n : ℕ) (t : List ℕ) (s : ℕ) → ((j : ℕ) → j < n → serial_at t j ≡ s → ⊥) → find n t s ≡ None
unfolding find
none_find n t s h =
    on_bool (eqb s 0)
    (λ e. ifb_true (eqb s 0) _ _ e)
    (λ e. ifb_false (eqb s 0) _ _ e ∙ fails_none n (has_serial t s) (λ j l. ne_eqb (serial_at t j) s (h j l)))

-- the lowest place that has it is found
pub find_is : (n : ℕ) (t : List ℕ) (s i : ℕ) → (s ≡ 0 → ⊥) → i < n → serial_at t i ≡ s → ((j : ℕ) → j < i → serial_at t j ≡ s → ⊥) → find n t s ≡ Some i
find_is n t s i ne lo e low =
    find_first n t s ne ∙ found_is n (has_serial t s) i lo (eq-eqb (serial_at t i) s e) (λ j h. ne_eqb (serial_at t j) s (low j h))

-- and so is the only one
pub find_only : (n : ℕ) (t : List ℕ) (s i : ℕ) → (s ≡ 0 → ⊥) → i < n → serial_at t i ≡ s → ((j : ℕ) → j < n → serial_at t j ≡ s → j ≡ i) → find n t s ≡ Some i
find_only n t s i ne lo e one = find_is n t s i ne lo e (λ j h q. absurd (let z : j ≡ i = one j (omega arith) q in omega arith))

-- tables with the same serials answer alike
pub find_cong : (n : ℕ) (t u : List ℕ) (s : ℕ) → ((s ≡ 0 → ⊥) → (j : ℕ) → j < n → eqb (serial_at t j) s ≡ eqb (serial_at u j) s) → find n t s ≡ find n u s
unfolding find
find_cong n t u s h =
    on_bool (eqb s 0)
    (λ e. ifb_true (eqb s 0) _ _ e ∙ sym (ifb_true (eqb s 0) _ _ e))
    (λ e. ifb_false (eqb s 0) _ _ e ∙ first_cong n (has_serial t s) (has_serial u s) (h (eqb-false s 0 e)) ∙ sym (ifb_false (eqb s 0) _ _ e))

-- ---- a record by its serial, after a store

module _ (n : ℕ) (t : List ℕ) (i : ℕ) (r : Record) (big : length t ≡ size_of n) (lo : i < n) (h : InRange r) where
  -- a store that keeps the serial keeps every search
  pub find_with : r.serial ≡ serial_at t i → (s : ℕ) → find n (with_place n t i r) s ≡ find n t s
  find_with e s = find_cong n (with_place n t i r) t s (λ ne j l. ap (λ (x : ℕ). eqb x s) (serial_with n t i r big lo h e j l))

  -- a record with a serial that no place has is found where it was stored
  pub find_new : (r.serial ≡ 0 → ⊥) → ((j : ℕ) → j < n → serial_at t j ≡ r.serial → ⊥) → find n (with_place n t i r) r.serial ≡ Some i
  find_new ne fresh =
      find_only n (with_place n t i r) r.serial i ne lo (serial_same n t i r big lo h)
      (λ j l e. elim (ℕ_discrete j i) [ yes q ↦ q | no q ↦ absurd (fresh j l (sym (serial_other n t i r big lo h.long j l q) ∙ e)) ])

  -- the old serial of the place, if no other place has it, is found no more
  pub find_gone : (s : ℕ) → (s ≡ r.serial → ⊥) → ((j : ℕ) → j < n → serial_at t j ≡ s → j ≡ i) → find n (with_place n t i r) s ≡ None
  find_gone s new one =
      none_find n (with_place n t i r) s (λ j l e. elim (ℕ_discrete j i) [
        | yes q ↦ new (sym e ∙ ap (serial_at (with_place n t i r)) q ∙ serial_same n t i r big lo h)
        | no q ↦ q (one j l (sym (serial_other n t i r big lo h.long j l q) ∙ e))
      ])

-- ---- where a new key goes

module _ (n : ℕ) (t : List ℕ) where
  module _ (i : ℕ) (e : free_place n t ≡ Some i) where
    pub free_below : i < n
    unfolding free_place
    free_below = found_below n (is_free t) i e

    pub free_serial : serial_at t i ≡ 0
    unfolding free_place
    free_serial = eqb-true (serial_at t i) 0 (found_test n (is_free t) i e)

    pub free_lowest : (j : ℕ) → j < i → serial_at t j ≡ 0 → ⊥
    unfolding free_place
    free_lowest j h = eqb-false (serial_at t j) 0 (found_lowest n (is_free t) i e j h)

  pub free_none : free_place n t ≡ None → (j : ℕ) → j < n → serial_at t j ≡ 0 → ⊥
  unfolding free_place
  free_none e j h = eqb-false (serial_at t j) 0 (none_fails n (is_free t) e j h)

  abbrev was_destroyed : ℕ → Bool
  was_destroyed i = is_destroyed (state_at t i)

  module _ (i : ℕ) (e : destroyed_place n t ≡ Some i) where
    pub destroyed_below : i < n
    unfolding destroyed_place
    destroyed_below = found_below n was_destroyed i e

    pub destroyed_state_lem : is_destroyed (state_at t i) ≡ true
    unfolding destroyed_place
    destroyed_state_lem = found_test n was_destroyed i e

    pub destroyed_lowest : (j : ℕ) → j < i → is_destroyed (state_at t j) ≡ false
    unfolding destroyed_place
    destroyed_lowest j h = found_lowest n was_destroyed i e j h

  pub destroyed_none : destroyed_place n t ≡ None → (j : ℕ) → j < n → is_destroyed (state_at t j) ≡ false
  unfolding destroyed_place
  destroyed_none e j h = none_fails n was_destroyed e j h

  -- a free place is taken before any destroyed one
  pub new_free : (i : ℕ) → free_place n t ≡ Some i → new_place n t ≡ Some i
  unfolding new_place or_else
  new_free i e = ap (λ (f : Option ℕ). or_else f (destroyed_place n t)) e

  pub new_destroyed : free_place n t ≡ None → new_place n t ≡ destroyed_place n t
  unfolding new_place or_else
  new_destroyed e = ap (λ (f : Option ℕ). or_else f (destroyed_place n t)) e

  -- where it goes: the lowest free place; or no place is free, and it is the lowest that was destroyed
  pub new_cases : (i : ℕ) → new_place n t ≡ Some i → (free_place n t ≡ Some i) ⊎ ((free_place n t ≡ None) × (destroyed_place n t ≡ Some i))
  new_cases i e =
      on_found_lem (free_place n t)
      (λ j p. inl (p ∙ sym (new_free j p) ∙ e))
      (λ p. inr (p, sym (new_destroyed p) ∙ e))

  module _ (i : ℕ) (e : new_place n t ≡ Some i) where
    pub new_below : i < n
    new_below = ⊎_elim (λ p. free_below i p) (λ p. destroyed_below i p.1) (new_cases i e)

    pub new_at : (serial_at t i ≡ 0) ⊎ (((j : ℕ) → j < n → serial_at t j ≡ 0 → ⊥) × (is_destroyed (state_at t i) ≡ true))
    new_at = ⊎_elim (λ p. inl (free_serial i p)) (λ p. inr (free_none p.0, destroyed_state_lem i p.1)) (new_cases i e)

  -- it goes nowhere: no place is free and none was destroyed
  pub new_none : new_place n t ≡ None → (j : ℕ) → j < n → (serial_at t j ≡ 0 → ⊥) × (is_destroyed (state_at t j) ≡ false)
  new_none e j h =
      on_found_lem (free_place n t)
      (λ i p. At-not (sym (new_free i p) ∙ e))
      (λ p. (free_none p j h, destroyed_none (sym (new_destroyed p) ∙ e) j h))

  pub none_new : ((j : ℕ) → j < n → (serial_at t j ≡ 0 → ⊥) × (is_destroyed (state_at t j) ≡ false)) → new_place n t ≡ None
  unfolding free_place destroyed_place
  none_new h =
      new_destroyed (fails_none n (is_free t) (λ j l. ne_eqb (serial_at t j) 0 (h j l).0))
      ∙ fails_none n was_destroyed (λ j l. (h j l).1)
