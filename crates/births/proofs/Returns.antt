-- What each return of the functions of this crate leaves, from what the functions that it called answered.
-- Assumes nothing.
use Rattle.std.specs.Prelude.{Option, None, Some}
use mathlib.Core.Path.{◌≡◌, refl, sym, ap, ap₂, ◌∙◌}
use Prim.Native.Nat.{ℕ, ◌+◌, ◌<◌}
use mathlib.Core.Bool.{Bool, true, false, not}
use mathlib.Core.List.{List}
use lib.Dec.{eqb}
use borrow.Author.Tests.{eq-eqb, ne_eqb}
use Rattle.table.specs.declared.Record.{Record}
use Rattle.table.specs.Layout.{Table, Place}
use Rattle.table.specs.Records.{place_at, with_place, last_serial, latest_clock, with_last}
use Rattle.search.specs.Search.{is_destroyed, new_place}
use Rattle.search.proofs.Finds.{new_below}
use Rattle.name_search.specs.Names.{is_taken}
use Rattle.rules.specs.declared.Reason.TheVariants.{InvalidField, ObjectDestroyed, PermissionDenied, ServerLimitExceeded, NonUniqueName}
use Rattle.rules.specs.declared.Attributes.{Attributes}
use Rattle.heirs.specs.declared.Dates.{Dates}
use Rattle.heirs.specs.Heirs.{heir_activation, heir_deactivation, offset_wrong, heir_dates, heir_dated, heir_of, linked_to}
use Rattle.new_records.specs.New.{new_record}
use Rattle.changes.specs.Changes.{serial_most, next_serial, born_at, with_born, with_heir}
use Rattle.heirs.proofs.Heirs.{wrong_offset, right_offset}
use Rattle.plans.specs.declared.Outcome.TheVariants.{Created, Done}
use Rattle.plans.specs.declared.Performed.{Performed}
use Rattle.plans.specs.Plans.{Did, empty_holder, carried_out, create_plan, rekey_plan, in_places, leaves, failed}
use Rattle.births.specs.Births.{TwoPlaces, place_for_new, linked_at, creating, replacing}
use Rattle.plans.proofs.Plans.{fails, fails_first, goes_further, is_done, wrong_told}
use Rattle.births.proofs.Places.{nowhere_issued, place_unissued, unissued, new_there, not_full, full}

-- ---- the place of a new object

module _ (n : ℕ) (t : List ℕ) (last : ℕ) (is : last ≡ last_serial t) where
  pub place_none : last ≡ serial_most → None ≡ place_for_new n t
  place_none e = sym (nowhere_issued n t (sym is ∙ e))

  pub place_found : (last ≡ serial_most → ⊥) → (found : Option ℕ) → found ≡ new_place n t → found ≡ place_for_new n t
  place_found h found e = e ∙ sym (place_unissued n t (λ most. h (is ∙ most)))

module _ (n : ℕ) (t : List ℕ) (found : Option ℕ) (is : found ≡ place_for_new n t) (i : ℕ) (at : found ≡ Some i) where
  -- there is one: not every serial is issued
  pub new_serial : (last : ℕ) → last ≡ last_serial t → last ≡ serial_most → ⊥
  new_serial last e most = unissued n t i (sym is ∙ at) (sym e ∙ most)

  new_inside : i < n
  new_inside = new_below n t i (new_there n t i (sym is ∙ at))

  pub new_place_lem : Table n t → Place n t i
  new_place_lem sized = record { sized = sized; below = new_inside }

  pub heir_place : (j : ℕ) → Place n t j → TwoPlaces n t j i
  heir_place j old = record { old = old; below = new_inside }

-- ---- Create

module _ (n : ℕ) (fresh t : List ℕ) (wanted : Attributes) where
  module _ (found : Option ℕ) (is : found ≡ place_for_new n t) where
    pub create_full : found ≡ None → (r : Performed) → r ≡ failed ServerLimitExceeded → leaves r t ≡ creating n fresh t wanted (place_for_new n t)
    unfolding creating
    create_full nowhere r e = fails t e ∙ sym (ap (creating n fresh t wanted) (sym is ∙ nowhere))

    pub creates : (i : ℕ) → found ≡ Some i → (last : ℕ) → last ≡ last_serial t → (born : Record) → born ≡ new_record (last + 1) wanted fresh → (t' : List ℕ) → t' ≡ born_at n t born (Some i)
        → record { outcome = Created (last + 1); table = t'; holder = last + 1 } ≡ creating n fresh t wanted (place_for_new n t)
    unfolding creating
    creates i at last l born b t' e =
        ap (λ (u : List ℕ). record { outcome = Created (last + 1); table = u; holder = last + 1 }) (e ∙ ap (λ (r : Record). born_at n t r (Some i)) b)
        ∙ ap (λ (k : ℕ). record { outcome = Created (k + 1); table = born_at n t (new_record (k + 1) wanted fresh) (Some i); holder = k + 1 }) l
        ∙ sym (ap (creating n fresh t wanted) (sym is ∙ at))

  module _ (taken : Bool) (is : taken ≡ is_taken n t wanted.name) where
    abbrev created : Did
    created = carried_out t (create_plan (in_places n fresh) empty_holder t wanted)

    pub create_taken : taken ≡ true → (r : Performed) → r ≡ failed NonUniqueName → leaves r t ≡ created
    unfolding create_plan
    create_taken e r f = fails t f ∙ sym (fails_first t _ _ _ (sym is ∙ e))

    create_by : taken ≡ false → (f : Option ℕ) → place_for_new n t ≡ f → created ≡ creating n fresh t wanted f
    unfolding create_plan creating with_born
    create_by e (Some place) at =
        goes_further t _ _ _ (sym is ∙ e) ∙ goes_further t _ _ _ (not_full n t place at) ∙ is_done t _
        ∙ ap (λ (f : Option ℕ). record { outcome = Created (next_serial t); table = born_at n t (new_record (next_serial t) wanted fresh) f; holder = next_serial t }) (new_there n t place at)
    create_by e None nowhere = goes_further t _ _ _ (sym is ∙ e) ∙ fails_first t _ _ _ (full n t nowhere)

    pub create_untaken : taken ≡ false → (left : Did) → left ≡ creating n fresh t wanted (place_for_new n t) → left ≡ created
    create_untaken e left l = l ∙ sym (create_by e (place_for_new n t) refl)

-- ---- Re-key

module _ (n : ℕ) (fresh t : List ℕ) (i : ℕ) (old : Record) (dates : Dates) (found : Option ℕ) (is : found ≡ place_for_new n t) where
  abbrev replaced : Option ℕ → Did
  replaced f = replacing n fresh t i old dates f

  pub replace_full : found ≡ None → (r : Performed) → r ≡ failed ServerLimitExceeded → leaves r t ≡ replacing n fresh t i old dates (place_for_new n t)
  unfolding replacing
  replace_full nowhere r e = fails t e ∙ sym (ap replaced (sym is ∙ nowhere))

  pub replaces : (place : ℕ) → found ≡ Some place → (last : ℕ) → last ≡ last_serial t → (clock : ℕ) → clock ≡ latest_clock t
      → (heir : Record) → heir ≡ heir_dated (last + 1) clock dates.activation dates.deactivation old fresh
      → (t' : List ℕ) → t' ≡ born_at n (linked_at n t i heir) heir (Some place)
      → record { outcome = Done (last + 1); table = t'; holder = last + 1 } ≡ replacing n fresh t i old dates (place_for_new n t)
  unfolding replacing
  replaces place at last l clock k heir h t' e =
      ap (λ (u : List ℕ). record { outcome = Done (last + 1); table = u; holder = last + 1 }) (e ∙ ap (λ (r : Record). born_at n (linked_at n t i r) r (Some place)) h)
      ∙ ap₂ (λ (x y : ℕ). let r = heir_dated (x + 1) y dates.activation dates.deactivation old fresh in record { outcome = Done (x + 1); table = born_at n (linked_at n t i r) r (Some place); holder = x + 1 }) l k
      ∙ sym (ap replaced (sym is ∙ at))

module _ (n : ℕ) (fresh t : List ℕ) (i : ℕ) (offset : Option ℕ) (old : Record) (loaded : old ≡ place_at n t i) (gone : Bool) (is : gone ≡ is_destroyed old.state) where
  abbrev rekeyed : Did
  rekeyed = carried_out t (rekey_plan (in_places n fresh) empty_holder t offset i (place_at n t i))

  state_is : {b : Bool} → gone ≡ b → is_destroyed (place_at n t i).state ≡ b
  state_is e = ap (λ (r : Record). is_destroyed r.state) (sym loaded) ∙ sym is ∙ e

  pub rekey_destroyed : gone ≡ true → (r : Performed) → r ≡ failed ObjectDestroyed → leaves r t ≡ rekeyed
  unfolding rekey_plan
  rekey_destroyed g r e = fails t e ∙ sym (fails_first t _ _ _ (state_is g))

  module _ (live : gone ≡ false) where
    pub rekey_twice : (old.replacement ≡ 0 → ⊥) → (r : Performed) → r ≡ failed PermissionDenied → leaves r t ≡ rekeyed
    unfolding rekey_plan
    rekey_twice h r e =
        fails t e
        ∙ sym (goes_further t _ _ _ (state_is live) ∙ fails_first t _ _ _ (ap not (ne_eqb (place_at n t i).replacement 0 (λ z. h (ap (λ (x : Record). x.replacement) loaded ∙ z)))))

    module _ (first : old.replacement ≡ 0) (clock : ℕ) (now : clock ≡ latest_clock t) (dates : Option Dates) (given : dates ≡ heir_dates clock offset old) where
      unreplaced : not (eqb (place_at n t i).replacement 0) ≡ false
      unreplaced = ap not (eq-eqb (place_at n t i).replacement 0 (ap (λ (x : Record). x.replacement) (sym loaded) ∙ first))

      -- the dates of the replacement of the record that stands there, at the clock that counts
      dates_are : {d : Option Dates} → dates ≡ d → heir_dates (latest_clock t) offset (place_at n t i) ≡ d
      dates_are e = ap₂ (λ (k : ℕ) (r : Record). heir_dates k offset r) (sym now) (sym loaded) ∙ sym given ∙ e

      pub rekey_wrong : dates ≡ None → (r : Performed) → r ≡ failed InvalidField → leaves r t ≡ rekeyed
      rekey_wrong w r e =
          fails t e
          ∙ sym (wrong_told (in_places n fresh) empty_holder t offset i (place_at n t i) (state_is live) unreplaced (wrong_offset (latest_clock t) offset (place_at n t i) (dates_are w)))

      module _ (right : offset_wrong (latest_clock t) offset (place_at n t i) ≡ false) where
        abbrev starts : ℕ
        starts = heir_activation (latest_clock t) offset (place_at n t i)

        abbrev ends : ℕ
        ends = heir_deactivation (latest_clock t) offset (place_at n t i)

        rekey_by : (f : Option ℕ) → place_for_new n t ≡ f → rekeyed ≡ replacing n fresh t i (place_at n t i) (record { activation = starts; deactivation = ends }) f
        unfolding rekey_plan replacing with_heir linked_at heir_of heir_dated
        rekey_by (Some place) at =
            goes_further t _ _ _ (state_is live) ∙ goes_further t _ _ _ unreplaced ∙ goes_further t _ _ _ right ∙ goes_further t _ _ _ (not_full n t place at) ∙ is_done t _
            ∙ ap (λ (f : Option ℕ). let heir = heir_of (next_serial t) (latest_clock t) offset (place_at n t i) fresh in
            record { outcome = Done (next_serial t); table = born_at n (with_place n t i (linked_to (next_serial t) (place_at n t i))) heir f; holder = next_serial t }) (new_there n t place at)
        rekey_by None nowhere = goes_further t _ _ _ (state_is live) ∙ goes_further t _ _ _ unreplaced ∙ goes_further t _ _ _ right ∙ fails_first t _ _ _ (full n t nowhere)

      pub rekeys : (is : Dates) → dates ≡ Some is
          → (left : Did) → left ≡ replacing n fresh t i old is (place_for_new n t) → left ≡ rekeyed
      rekeys is d left e =
          let o = right_offset (latest_clock t) offset (place_at n t i) (dates_are d) in
          e
          ∙ ap (λ (r : Record). replacing n fresh t i r is (place_for_new n t)) loaded
          ∙ ap₂ (λ (x y : ℕ). replacing n fresh t i (place_at n t i) (record { activation = x; deactivation = y }) (place_for_new n t)) o.starts o.ends
          ∙ sym (rekey_by o.right (place_for_new n t) refl)

-- ---- records stored

pub born_stored : (n : ℕ) (t : List ℕ) (i : ℕ) (born : Record) (u : List ℕ) → u ≡ with_place n t i born → (t' : List ℕ) → t' ≡ with_last u born.serial → t' ≡ born_at n t born (Some i)
unfolding born_at
born_stored n t i born u p t' e = e ∙ ap (λ (v : List ℕ). with_last v born.serial) p

pub heir_stored : (n : ℕ) (t : List ℕ) (i : ℕ) (heir : Record) (place : ℕ) (old : Record) → old ≡ place_at n t i → (linked : Record) → linked ≡ linked_to heir.serial old
    → (u : List ℕ) → u ≡ with_place n t i linked → (t' : List ℕ) → t' ≡ born_at n u heir (Some place) → t' ≡ born_at n (linked_at n t i heir) heir (Some place)
unfolding linked_at
heir_stored n t i heir place old loaded linked l u p t' e =
    e ∙ ap (λ (v : List ℕ). born_at n v heir (Some place)) (p ∙ ap (with_place n t i) (l ∙ ap (linked_to heir.serial) loaded))
