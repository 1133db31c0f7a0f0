-- Laws of the place of a new object: nowhere when the table is full, and else a free place of it.
-- Assumes nothing.
use Rattle.std.specs.Prelude.{None, Some}
use mathlib.Core.Path.{◌≡◌, refl, sym, ◌∙◌}
use Prim.Native.Nat.{ℕ}
use mathlib.Core.Bool.{Bool, true, false}
use mathlib.Core.List.{List}
use lib.Dec.{eqb}
use borrow.Author.Tests.{eq-eqb, ne_eqb, eqb-false}
use Rattle.octets.proofs.If.{on_bool, ifb_true, ifb_false}
use Rattle.table.specs.Records.{last_serial}
use Rattle.search.specs.Search.{is_nothing, new_place}
use Rattle.search.proofs.First.{At-not, is_nothing_at, is_nothing_none}
use Rattle.changes.specs.Changes.{serial_most, is_full}
use Rattle.births.specs.Births.{place_for_new}

module _ (n : ℕ) (t : List ℕ) where
  pub nowhere_issued : last_serial t ≡ serial_most → place_for_new n t ≡ None
  unfolding place_for_new
  nowhere_issued e = ifb_true (eqb (last_serial t) serial_most) None (new_place n t) (eq-eqb (last_serial t) serial_most e)

  pub place_unissued : (last_serial t ≡ serial_most → ⊥) → place_for_new n t ≡ new_place n t
  unfolding place_for_new
  place_unissued h = ifb_false (eqb (last_serial t) serial_most) None (new_place n t) (ne_eqb (last_serial t) serial_most h)

  module _ (i : ℕ) (is : place_for_new n t ≡ Some i) where
    pub unissued : last_serial t ≡ serial_most → ⊥
    unissued e = At-not (sym is ∙ nowhere_issued e)

    pub new_there : new_place n t ≡ Some i
    new_there = sym (place_unissued unissued) ∙ is

    pub not_full : is_full n t ≡ false
    unfolding is_full
    not_full = rw (is_nothing_at (new_place n t) i new_there, ne_eqb (last_serial t) serial_most unissued)

  full_by : (b : Bool) → eqb (last_serial t) serial_most ≡ b → place_for_new n t ≡ None → is_full n t ≡ true
  unfolding is_full
  full_by true e is = rw e (on_bool (is_nothing (new_place n t)) (λ p. rw p) (λ p. rw p))
  full_by false e is = rw (is_nothing_none (new_place n t) (sym (place_unissued (eqb-false (last_serial t) serial_most e)) ∙ is))

  pub full : place_for_new n t ≡ None → is_full n t ≡ true
  full is = full_by (eqb (last_serial t) serial_most) refl is
