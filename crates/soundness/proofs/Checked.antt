-- The check that goes place by place agrees with the rules one after the other.
-- Assumes nothing.
use Rattle.std.specs.Prelude.{Option, None, Some}
use mathlib.Core.Path.{◌≡◌, refl, sym, ap, ◌∙◌}
use mathlib.Core.Logic.{⊎_elim}
use Prim.Native.Nat.{ℕ, ◌+◌, ◌^◌, ◌≤◌, ◌<◌, max}
use native.Mathlib.Nat.{eq-or-lt_of_le, le_trans, le-max_left, le-max_right}
use native.Mathlib.Omega.{arith}
use native.Mathlib.Decide.{ℕ_discrete}
use mathlib.Core.Bool.{Bool, true, false, ◌&&◌}
use mathlib.Core.List.{List}
use lib.ListN.{length}
use lib.Dec.{eqb}
use borrow.Author.Tests.{eq-eqb, ne_eqb, lt-ltb, eqb-true}
use Rattle.octets.specs.Octets.{part, all_zero}
use Rattle.octets.proofs.If.{ifb_true, ifb_false}
use Rattle.table.specs.declared.Record.{Record}
use Rattle.table.specs.Layout.{line_start, line_size, size_of, Table, replaced_in, replacement_in}
use Rattle.table.specs.Records.{place_at, serial_at, last_serial, places_said, latest_clock}
use Rattle.search.specs.Search.{find}
use Rattle.table.proofs.Places.{serial_is, name_is}
use Rattle.records.proofs.Links.{link_replaced, link_replacement}
use Rattle.record_rules.specs.Checked.{values_right, serials_right, material_right, times_right}
use Rattle.record_rules.proofs.Fit.{Right, fit_is, fit_of, Timely, dated_is, dated_of}
use Rattle.twin_rules.specs.Checked.{is_at, TopBelow, own_name}
use Rattle.twin_rules.proofs.Serials.{at_is, at_of, Distinct, find_own, own_distinct}
use Rattle.twin_rules.proofs.NameTwins.{name_own, own_named}
use Rattle.soundness.specs.Sound.{size_right, count_right, latest_right, free_right, zeros_right, if_stands, names_replacement, names_replaced, links_right, sound}
use Rattle.soundness.specs.Checked.{whole_right, has_link, standing_right, place_right}
use Rattle.octets.proofs.Bools.{and_l, and_r, and_i, no_unless, not_both, facts, tests}
use Rattle.soundness.proofs.SoundIs.{Sound, Stands, Empty, Linked, named_stands, links_is, links_of, sound_is, sound_of}

-- what the check asks of a record that stands at place i, one by one
record Asked (n : ℕ) (t : List ℕ) (i : ℕ) (r : Record) : Type 0 where
  zeros : zeros_right n t i ≡ true
  right : Right (last_serial t) r
  timely : Timely (latest_clock t) r
  issued : r.serial ≤ last_serial t
  own : find n t r.serial ≡ Some i
  links : links_right n t r ≡ true
  name : own_name n t i r.name ≡ true

module _ (n : ℕ) (t : List ℕ) (i : ℕ) (r : Record) where
  asked_is : standing_right n t i r ≡ true → Asked n t i r
  unfolding standing_right values_right serials_right material_right times_right
  asked_is e =
      let values : values_right r ≡ true = search facts depth 8 in
      let material : material_right r ≡ true = search facts in
      let serials : serials_right (last_serial t) r ≡ true = search facts in
      let times : times_right (latest_clock t) r ≡ true = search facts in
      record {
        zeros = search facts depth 8;
        right = record {
          state = search facts;
          bits = search facts;
          mask = search facts;
          limit = search facts;
          tail = search facts;
          wiped = search facts;
          replaced = search facts;
          replacement = search facts;
          name = search facts;
          text = search facts;
        };
        timely = record { dates = search facts; order = search facts; started = search facts };
        issued = search facts;
        own = at_is i _ (search facts);
        links = search facts;
        name = search facts;
      }

  asked_of : Asked n t i r → standing_right n t i r ≡ true
  unfolding standing_right values_right serials_right material_right times_right
  asked_of a =
      let own : is_at i (find n t r.serial) ≡ true = at_of i _ a.own in
      search tests

module _ (n : ℕ) (t : List ℕ) where
  place_free : (i : ℕ) → serial_at t i ≡ 0 → place_right n t i ≡ free_right n t i
  unfolding place_right
  place_free i z = ifb_true _ _ _ (eq-eqb (serial_at t i) 0 z)

  place_standing : (i : ℕ) → Stands t i → place_right n t i ≡ standing_right n t i (place_at n t i)
  unfolding place_right
  place_standing i s = ifb_false _ _ _ (ne_eqb (serial_at t i) 0 s)

  pub whole_of : Sound n t → whole_right n t ≡ true
  unfolding whole_right size_right count_right latest_right
  whole_of h = and_i _ _ (and_i _ _ (eq-eqb (length t) (size_of n) h.size) (eq-eqb (places_said t) n h.count)) (lt-ltb (latest_clock t) (2 ^ 63) h.latest)

  pub place_of : Sound n t → (i : ℕ) → i < n → place_right n t i ≡ true
  unfolding free_right zeros_right
  place_of h i l = elim (ℕ_discrete (serial_at t i) 0) [
    | yes z ↦ place_free i z ∙ and_i _ _ (h.free i l z).line (h.free i l z).body
    | no s ↦ place_standing i s ∙ asked_of n t i (place_at n t i) (record {
      zeros = h.zeros i l s;
      right = fit_of (last_serial t) (place_at n t i) (h.fit i l s);
      timely = dated_of (latest_clock t) (place_at n t i) (h.dated i l s);
      issued = rw (serial_is n t i) at (h.issued i l);
      own = ap (find n t) (sym (serial_is n t i)) ∙ find_own n t h.distinct i l s;
      links = links_of n t (place_at n t i) (record {
        replaced = λ j g u q. h.replaced i j l g s u q ∙ serial_is n t i;
        replacement = λ j g u q. h.replacement i j l g s u q ∙ serial_is n t i;
      });
      name = ap (own_name n t i) (sym (name_is n t i)) ∙ name_own n t h.named i l;
    })
  ]

  -- a table whose lead and every place pass is sound
  pub checked_sound : whole_right n t ≡ true → ((i : ℕ) → i < n → place_right n t i ≡ true) → sound n t ≡ true
  unfolding whole_right size_right count_right latest_right free_right zeros_right
  checked_sound w p =
      let asked : (i : ℕ) → i < n → Stands t i → Asked n t i (place_at n t i) = λ i l s. asked_is n t i (place_at n t i) (sym (place_standing i s) ∙ p i l) in
      let alone : Distinct n t = own_distinct n t (λ i l s. ap (find n t) (serial_is n t i) ∙ (asked i l s).own) in
      let linked : (i : ℕ) → i < n → Stands t i → Linked n t (place_at n t i) = λ i l s. links_is n t alone (place_at n t i) (asked i l s).links in
      let sized : Table n t = search facts in
      let empty : (i : ℕ) → i < n → serial_at t i ≡ 0 → Empty n t i = λ i l z. let g : free_right n t i ≡ true = sym (place_free i z) ∙ p i l in
      record { line = and_l (all_zero (part t (line_start i) line_size)) _ g; body = and_r (all_zero (part t (line_start i) line_size)) _ g } in
      sound_of n t (record {
        size = sized;
        count = search facts;
        latest = search facts;
        free = empty;
        zeros = λ i l s. (asked i l s).zeros;
        distinct = alone;
        issued = λ i l. elim (ℕ_discrete (serial_at t i) 0) [ yes z ↦ omega arith | no s ↦ rw (serial_is n t i) (asked i l s).issued ];
        fit = λ i l s. fit_is (last_serial t) (place_at n t i) (asked i l s).right;
        dated = λ i l s. dated_is (latest_clock t) (place_at n t i) (asked i l s).timely;
        replaced = λ i j l g s u q. (linked i l s).replaced j g u q ∙ sym (serial_is n t i);
        replacement = λ i j l g s u q. (linked i l s).replacement j g u q ∙ sym (serial_is n t i);
        named = own_named n t (λ i l c. ap (own_name n t i) (name_is n t i) ∙ (asked i l (named_stands n t i sized l (empty i l) c)).name);
      })

  -- a table whose lead fails is unsound, and so is one with a place that fails
  pub unsound_whole : whole_right n t ≡ false → sound n t ≡ false
  unsound_whole e = no_unless (sound n t) (λ s. not_both (whole_right n t) (whole_of (sound_is n t s)) e)

  pub unsound_place : (i : ℕ) → i < n → place_right n t i ≡ false → sound n t ≡ false
  unsound_place i l e = no_unless (sound n t) (λ s. not_both (place_right n t i) (place_of (sound_is n t s) i l) e)

  -- ---- what the functions go by

  pub whole_size : whole_right n t ≡ true → Table n t
  unfolding whole_right size_right
  whole_size e = eqb-true (length t) (size_of n) (and_l _ (count_right n t) (and_l _ (latest_right n t) e))

  pub whole_sized : Table n t → whole_right n t ≡ (count_right n t && latest_right n t)
  unfolding whole_right size_right
  whole_sized e = ap (λ (b : Bool). b && count_right n t && latest_right n t) (eq-eqb (length t) (size_of n) e)

  pub whole_unsized : eqb (length t) (size_of n) ≡ false → whole_right n t ≡ false
  unfolding whole_right size_right
  whole_unsized e = ap (λ (b : Bool). b && count_right n t && latest_right n t) e

  -- the places below i have passed
  abbrev pub Passed : ℕ → Type 0
  Passed i = (k : ℕ) → k < i → place_right n t k ≡ true

  pub passed_more : (i : ℕ) → Passed i → place_right n t i ≡ true → Passed (i + 1)
  passed_more i h e k l = ⊎_elim (λ z. ap (place_right n t) z ∙ e) (λ z. h k z) (eq-or-lt_of_le (let m : k ≤ i = omega arith in m))

-- two tests that agree at every place agree on what a search found
stands_same : {f g : ℕ → Bool} → ((j : ℕ) → f j ≡ g j) → (x : Option ℕ) → if_stands f x ≡ if_stands g x
unfolding if_stands
stands_same e (Some j) = e j
stands_same e None = refl

-- the halves of rule 15 as the check asks them
links_parts : (n : ℕ) (t : List ℕ) (r : Record)
    → (if_stands (has_link t r.serial replacement_in) (find n t r.replaced) && if_stands (has_link t r.serial replaced_in) (find n t r.replacement)) ≡ links_right n t r
unfolding links_right
links_parts n t r =
    rw (
      stands_same {g = names_replacement n t r.serial} (λ j. ap (λ (s : ℕ). eqb s r.serial) (link_replacement n t j)) (find n t r.replaced),
      stands_same {g = names_replaced n t r.serial} (λ j. ap (λ (s : ℕ). eqb s r.serial) (link_replaced n t j)) (find n t r.replacement),
    )

-- the answers of the functions for the parts of a standing place's rules, put together
pub standing_parts : (n : ℕ) (t : List ℕ) (i last latest : ℕ) (r : Record) {zeros values material serials times own back forth name : Bool} → last ≡ last_serial t → latest ≡ latest_clock t
    → zeros ≡ zeros_right n t i → values ≡ values_right r → material ≡ material_right r → serials ≡ serials_right last r → times ≡ times_right latest r → own ≡ is_at i (find n t r.serial)
    → back ≡ if_stands (has_link t r.serial replacement_in) (find n t r.replaced)
    → forth ≡ if_stands (has_link t r.serial replaced_in) (find n t r.replacement)
    → name ≡ own_name n t i r.name
    → ((zeros && values && material && serials && times) && own && (back && forth) && name) ≡ standing_right n t i r
unfolding standing_right
standing_parts n t i last latest r l k z v m a d o b f g = rw (z, v, m, a, d, o, b, f, g, links_parts n t r, l, k)

-- the highest serial of the places below, one place more
pub top_more : (t : List ℕ) (i top : ℕ) → TopBelow t i top → TopBelow t (i + 1) (max top (serial_at t i))
top_more t i top below j l =
    ⊎_elim (λ z. rw z (le-max_right top (serial_at t i))) (λ z. le_trans (below j z) (le-max_left top (serial_at t i))) (eq-or-lt_of_le (let m : j ≤ i = omega arith in m))
