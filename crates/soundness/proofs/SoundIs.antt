-- A sound table as plain facts, and the test and the facts each from the other.
-- Assumes nothing.
use mathlib.Core.Path.{◌≡◌, refl, sym, ap, ◌∙◌}
use Prim.Native.Nat.{ℕ, ◌+◌, ◌^◌, ◌≤◌, ◌<◌}
use native.Mathlib.Omega.{arith}
use native.Mathlib.Decide.{ℕ_discrete}
use mathlib.Core.Bool.{Bool, true, false, not, false≢true, true≢false}
use Rattle.std.specs.Prelude.{Option, None, Some}
use mathlib.Core.List.{List}
use lib.ListN.{length}
use borrow.Author.Tests.{eq-eqb, ne_eqb, le-leb, lt-ltb, eqb-true, eqb-false, leb-true, ltb-true, not-true}
use Rattle.octets.specs.Maybe.{is_some}
use Rattle.octets.specs.Octets.{part, all_zero}
use Rattle.table.specs.declared.Record.{Record}
use Rattle.names.specs.declared.Name.{Name}
use Rattle.names.specs.Names.{is_named, no_name}
use Rattle.table.specs.Layout.{line_size, body_size, line_start, body_start, size_of, Table, zeros_in}
use Rattle.table.specs.Records.{place_at, serial_at, name_at, is_free, last_serial, places_said, latest_clock}
use Rattle.table.proofs.Places.{serial_is, name_is}
use Rattle.table.proofs.Blank.{zero_place}
use Rattle.search.specs.Search.{find}
use Rattle.search.proofs.Finds.{find_nonzero, find_below, find_serial}
use Rattle.record_rules.specs.Rules.{state_right, bits_right, mask_right, limit_right, tail_right, wiped_right, replaced_right, replacement_right, dates_right, order_right, started_right, name_right, name_text_right}
use Rattle.record_rules.proofs.Fit.{Fit, Right, fit_is, fit_of, Dated, Timely, dated_is, dated_of}
use Rattle.twin_rules.specs.Twins.{names_differ}
use Rattle.twin_rules.proofs.Serials.{Distinct, distinct_is, distinct_of, find_own}
use Rattle.twin_rules.proofs.NameTwins.{named_is, named_of}
pub use Rattle.twin_rules.proofs.Serials.{Stands}
use Rattle.soundness.specs.Sound.{Fault, rules, size_right, count_right, latest_right, free_right, zeros_right, distinct_right, issued_right, if_stands, names_replaced, names_replacement, links_right, breaks_free, breaks_standing, first_fault, sound}
use Rattle.octets.proofs.Bools.{and_l, and_r, and_i, yes_unless, no_unless, not_both}
use Rattle.soundness.proofs.Faults.{Nowhere, Kept, end, holds, nowhere, fault_none, none_fault}

-- ---- the facts

-- a place with nothing in it
pub record Empty (n : ℕ) (t : List ℕ) (i : ℕ) : Type 0 where
  pub line : all_zero (part t (line_start i) line_size) ≡ true
  pub body : all_zero (part t (body_start n i) body_size) ≡ true

-- a table of n places that breaks no rule
pub record Sound (n : ℕ) (t : List ℕ) : Type 0 where
  pub size : Table n t
  pub count : places_said t ≡ n
  pub latest : latest_clock t < 2 ^ 63
  pub free : (i : ℕ) → i < n → serial_at t i ≡ 0 → Empty n t i
  pub zeros : (i : ℕ) → i < n → Stands t i → all_zero (part t (body_start n i + zeros_in) 4) ≡ true
  pub distinct : (i j : ℕ) → i < n → j < n → Stands t i → serial_at t i ≡ serial_at t j → i ≡ j
  pub issued : (i : ℕ) → i < n → serial_at t i ≤ last_serial t
  pub fit : (i : ℕ) → i < n → Stands t i → Fit (last_serial t) (place_at n t i)
  pub dated : (i : ℕ) → i < n → Stands t i → Dated (latest_clock t) (place_at n t i)
  pub replaced : (i j : ℕ) → i < n → j < n → Stands t i → Stands t j → (place_at n t i).replaced ≡ serial_at t j → (place_at n t j).replacement ≡ serial_at t i
  pub replacement : (i j : ℕ) → i < n → j < n → Stands t i → Stands t j → (place_at n t i).replacement ≡ serial_at t j → (place_at n t j).replaced ≡ serial_at t i
  pub named : (i j : ℕ) → i < n → j < n → is_named (name_at n t i) ≡ true → name_at n t i ≡ name_at n t j → i ≡ j

-- a place with nothing in it has no name, so where a name is a record stands
module _ (n : ℕ) (t : List ℕ) (i : ℕ) (size : Table n t) (low : i < n) where
  pub empty_unnamed : Empty n t i → name_at n t i ≡ no_name
  empty_unnamed empty = name_is n t i ∙ ap (λ (r : Record). r.name) (zero_place n t i size low empty.line empty.body)

  pub named_stands : (serial_at t i ≡ 0 → Empty n t i) → is_named (name_at n t i) ≡ true → Stands t i
  named_stands free c z = true≢false (sym c ∙ ap (λ (name : Name). is_named name) (empty_unnamed (free z)))

-- ---- the rules of links

stands_is : (test : ℕ → Bool) (f : Option ℕ) (j : ℕ) → if_stands test f ≡ true → f ≡ Some j → test j ≡ true
unfolding if_stands
stands_is test (Some i) j e q = let z : i ≡ j = cc in ap test (sym z) ∙ e
stands_is test None j e q = let z : ◌≡◌ {A = ℕ} 0 1 = cc in absurd (omega arith)

stands_of : (test : ℕ → Bool) (f : Option ℕ) → ((j : ℕ) → f ≡ Some j → test j ≡ true) → if_stands test f ≡ true
unfolding if_stands
stands_of test (Some i) h = h i refl
stands_of test None h = refl

module _ (n : ℕ) (t : List ℕ) where
  -- the links of one record
  pub record Linked (r : Record) : Type 0 where
    pub replaced : (j : ℕ) → j < n → Stands t j → r.replaced ≡ serial_at t j → (place_at n t j).replacement ≡ r.serial
    pub replacement : (j : ℕ) → j < n → Stands t j → r.replacement ≡ serial_at t j → (place_at n t j).replaced ≡ r.serial

  pub links_is : Distinct n t → (r : Record) → links_right n t r ≡ true → Linked r
  unfolding links_right
  links_is d r e =
      let back : Bool = if_stands (names_replacement n t r.serial) (find n t r.replaced) in
      let forth : Bool = if_stands (names_replaced n t r.serial) (find n t r.replacement) in
      record {
        replaced = λ j h s q. eqb-true _ _ (stands_is (names_replacement n t r.serial) _ j (and_l back forth e) (ap (find n t) q ∙ find_own n t d j h s));
        replacement = λ j h s q. eqb-true _ _ (stands_is (names_replaced n t r.serial) _ j (and_r back forth e) (ap (find n t) q ∙ find_own n t d j h s));
      }

  -- a place found by a serial that a link names
  linked_at_lem : {P : Type 0} (serial j : ℕ) → find n t serial ≡ Some j → (j < n → Stands t j → serial ≡ serial_at t j → P) → P
  linked_at_lem serial j e f = f (find_below n t serial j e) (λ z. find_nonzero n t serial j e (sym (find_serial n t serial j e) ∙ z)) (sym (find_serial n t serial j e))

  pub links_of : (r : Record) → Linked r → links_right n t r ≡ true
  unfolding links_right
  links_of r l =
      and_i _ _
      (stands_of _ _ (λ j e. eq-eqb _ _ (linked_at_lem r.replaced j e (l.replaced j))))
      (stands_of _ _ (λ j e. eq-eqb _ _ (linked_at_lem r.replacement j e (l.replacement j))))

-- ---- the whole

-- a place that breaks no rule keeps the one asked of it
module _ (n : ℕ) (t : List ℕ) (i : ℕ) where
  free_kept : breaks_free n t i ≡ false → serial_at t i ≡ 0 → free_right n t i ≡ true
  unfolding breaks_free
  free_kept e z = yes_unless _ (λ f. not_both _ (and_i (is_free t i) (not (free_right n t i)) (eq-eqb (serial_at t i) 0 z) (ap not f)) e)

  kept_free : (serial_at t i ≡ 0 → free_right n t i ≡ true) → breaks_free n t i ≡ false
  unfolding breaks_free
  kept_free h =
      no_unless _ (λ e. not_both (free_right n t i) (h (eqb-true (serial_at t i) 0 (and_l (is_free t i) (not (free_right n t i)) e)))
      (not-true (free_right n t i) (and_r (is_free t i) (not (free_right n t i)) e)))

  standing_kept : (rule : ℕ → List ℕ → ℕ → Bool) → breaks_standing rule n t i ≡ false → Stands t i → rule n t i ≡ true
  unfolding breaks_standing
  standing_kept rule e s = yes_unless _ (λ f. not_both _ (and_i (not (is_free t i)) (not (rule n t i)) (ap not (ne_eqb (serial_at t i) 0 s)) (ap not f)) e)

  kept_standing : (rule : ℕ → List ℕ → ℕ → Bool) → (Stands t i → rule n t i ≡ true) → breaks_standing rule n t i ≡ false
  unfolding breaks_standing
  kept_standing rule h =
      no_unless _ (λ e. not_both (rule n t i) (h (eqb-false (serial_at t i) 0 (not-true (is_free t i) (and_l (not (is_free t i)) (not (rule n t i)) e))))
      (not-true (rule n t i) (and_r (not (is_free t i)) (not (rule n t i)) e)))

no_fault : (f : Option Fault) → not (is_some f) ≡ true → f ≡ None
unfolding is_some
no_fault None e = refl
no_fault (Some f) e = absurd (false≢true e)

module _ (n : ℕ) (t : List ℕ) where
  -- a rule that no standing place breaks holds at each of them
  abbrev AtEach : (ℕ → List ℕ → ℕ → Bool) → Type 0
  AtEach rule = (i : ℕ) → i < n → Stands t i → rule n t i ≡ true

  at_each : (rule : ℕ → List ℕ → ℕ → Bool) → Nowhere n t (breaks_standing rule) → AtEach rule
  at_each rule h i l s = standing_kept n t i rule (h i l) s

  each_at : (rule : ℕ → List ℕ → ℕ → Bool) → AtEach rule → Nowhere n t (breaks_standing rule)
  each_at rule h i l = kept_standing n t i rule (h i l)

  pub sound_is : sound n t ≡ true → Sound n t
  unfolding sound size_right count_right latest_right free_right zeros_right issued_right
  sound_is e = go (fault_none n t (no_fault (first_fault n t) e))
    where
      go : Kept n t rules → Sound n t
      go (holds size (holds count (nowhere free (nowhere zeros (nowhere distinct (nowhere issued (nowhere state (nowhere bits (nowhere mask (nowhere limit (nowhere tail (nowhere wiped (nowhere replaced (nowhere replacement (nowhere links (nowhere dates (holds latest (nowhere order (nowhere started (nowhere name (nowhere text (nowhere differ end)))))))))))))))))))))) =
          let alone : Distinct n t = distinct_is n t (at_each distinct_right distinct) in
          let linked : (i : ℕ) → i < n → Stands t i → Linked n t (place_at n t i) = λ i l s. links_is n t alone (place_at n t i) (at_each (λ n t i. links_right n t (place_at n t i)) links i l s) in
          let sized : Table n t = eqb-true (length t) (size_of n) size in
          let empty : (i : ℕ) → i < n → serial_at t i ≡ 0 → Empty n t i = λ i l z. let g : free_right n t i ≡ true = free_kept n t i (free i l) z in
          record { line = and_l (all_zero (part t (line_start i) line_size)) _ g; body = and_r (all_zero (part t (line_start i) line_size)) _ g } in
          record {
            size = sized;
            count = eqb-true (places_said t) n count;
            latest = ltb-true (latest_clock t) (2 ^ 63) latest;
            free = empty;
            zeros = at_each zeros_right zeros;
            distinct = alone;
            issued = λ i l. elim (ℕ_discrete (serial_at t i) 0) [
              | yes z ↦ omega arith
              | no s ↦ leb-true (serial_at t i) (last_serial t) (at_each issued_right issued i l s)
            ];
            fit = λ i l s. fit_is (last_serial t) (place_at n t i) (record {
              state = at_each (λ n t i. state_right (place_at n t i)) state i l s;
              bits = at_each (λ n t i. bits_right (place_at n t i)) bits i l s;
              mask = at_each (λ n t i. mask_right (place_at n t i)) mask i l s;
              limit = at_each (λ n t i. limit_right (place_at n t i)) limit i l s;
              tail = at_each (λ n t i. tail_right (place_at n t i)) tail i l s;
              wiped = at_each (λ n t i. wiped_right (place_at n t i)) wiped i l s;
              replaced = at_each (λ n t i. replaced_right (place_at n t i)) replaced i l s;
              replacement = at_each (λ n t i. replacement_right (last_serial t) (place_at n t i)) replacement i l s;
              name = at_each (λ n t i. name_right (place_at n t i)) name i l s;
              text = at_each (λ n t i. name_text_right (place_at n t i)) text i l s;
            });
            dated = λ i l s. dated_is (latest_clock t) (place_at n t i) (record {
              dates = at_each (λ n t i. dates_right (place_at n t i)) dates i l s;
              order = at_each (λ n t i. order_right (place_at n t i)) order i l s;
              started = at_each (λ n t i. started_right (latest_clock t) (place_at n t i)) started i l s;
            });
            replaced = λ i j h g s u q. (linked i h s).replaced j g u q ∙ sym (serial_is n t i);
            replacement = λ i j h g s u q. (linked i h s).replacement j g u q ∙ sym (serial_is n t i);
            named = named_is n t (λ i l c. at_each names_differ differ i l (named_stands n t i sized l (empty i l) c));
          }

  pub sound_of : Sound n t → sound n t ≡ true
  unfolding sound size_right count_right latest_right free_right zeros_right issued_right is_some
  sound_of h =
      let right : (i : ℕ) → i < n → Stands t i → Right (last_serial t) (place_at n t i) = λ i l s. fit_of (last_serial t) (place_at n t i) (h.fit i l s) in
      let linked : (i : ℕ) → i < n → Stands t i → Linked n t (place_at n t i) = λ i l s. record {
        replaced = λ j g u q. h.replaced i j l g s u q ∙ serial_is n t i;
        replacement = λ j g u q. h.replacement i j l g s u q ∙ serial_is n t i;
      } in
      let timely : (i : ℕ) → i < n → Stands t i → Timely (latest_clock t) (place_at n t i) = λ i l s. dated_of (latest_clock t) (place_at n t i) (h.dated i l s) in
      let free : (i : ℕ) → i < n → serial_at t i ≡ 0 → free_right n t i ≡ true = λ i l z. and_i _ _ (h.free i l z).line (h.free i l z).body in
      let kept : Kept n t rules =
      holds (eq-eqb (length t) (size_of n) h.size)
      (holds (eq-eqb (places_said t) n h.count)
      (nowhere (λ i l. kept_free n t i (free i l))
      (nowhere (each_at zeros_right h.zeros)
      (nowhere (each_at distinct_right (distinct_of n t h.distinct))
      (nowhere (each_at issued_right (λ i l s. le-leb (serial_at t i) (last_serial t) (h.issued i l)))
      (nowhere (each_at _ (λ i l s. (right i l s).state))
      (nowhere (each_at _ (λ i l s. (right i l s).bits))
      (nowhere (each_at _ (λ i l s. (right i l s).mask))
      (nowhere (each_at _ (λ i l s. (right i l s).limit))
      (nowhere (each_at _ (λ i l s. (right i l s).tail))
      (nowhere (each_at _ (λ i l s. (right i l s).wiped))
      (nowhere (each_at _ (λ i l s. (right i l s).replaced))
      (nowhere (each_at _ (λ i l s. (right i l s).replacement))
      (nowhere (each_at _ (λ i l s. links_of n t (place_at n t i) (linked i l s)))
      (nowhere (each_at _ (λ i l s. (timely i l s).dates))
      (holds (lt-ltb (latest_clock t) (2 ^ 63) h.latest)
      (nowhere (each_at _ (λ i l s. (timely i l s).order))
      (nowhere (each_at _ (λ i l s. (timely i l s).started))
      (nowhere (each_at _ (λ i l s. (right i l s).name))
      (nowhere (each_at _ (λ i l s. (right i l s).text))
      (nowhere (each_at names_differ (λ i l s. named_of n t h.named i l)) end))))))))))))))))))))) in
      ap (λ (o : Option Fault). not (is_some o)) (none_fault n t kept)
