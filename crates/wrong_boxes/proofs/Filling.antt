-- A table of 64 keys, reached by laws and not by computation: what one Create leaves, again and again.
-- Assumes nothing.
use Rattle.std.specs.Prelude.{Some}
use Prim.Native.Nat.{ℕ, suc, ◌+◌, ◌*◌, ◌≤◌, ◌<◌}
use native.Mathlib.Omega.{arith}
use native.Mathlib.Decide.{ℕ_discrete}
use mathlib.Core.Path.{◌≡◌, refl, sym, ap, ap₂, ◌∙◌}
use mathlib.Core.Logic.{inl, inr}
use mathlib.Core.Bool.{Bool, true, false, ◌||◌}
use mathlib.Core.List.{List}
use lib.ListN.{length}
use lib.Dec.{lit<}
use borrow.Author.Tests.{eq-eqb, ne_eqb}
use Rattle.octets.specs.If.{ifb}
use Rattle.octets.specs.Octets.{Bytes, counted_from}
use Rattle.names.specs.Names.{no_name}
use Rattle.names.proofs.Stored.{none_range}
use Rattle.names.proofs.Texts.{none_shape, none_text}
use Rattle.table.specs.declared.Record.{Record}
use Rattle.table.specs.Layout.{small_count, material_size}
use Rattle.table.specs.Records.{place_at, serial_at, state_at, is_free, last_serial, latest_clock, blank}
use Rattle.table.proofs.Blank.{serial_blank, last_blank, latest_blank}
use Rattle.table.proofs.Places.{serial_is}
use Rattle.search.specs.Search.{free_place, destroyed_place, new_place, is_destroyed, is_nothing}
use Rattle.name_search.specs.Names.{find_name, is_taken}
use Rattle.search.proofs.First.{At-same, is_nothing_at, found_is, fails_none}
use Rattle.search.proofs.Finds.{new_free, new_destroyed}
use Rattle.rules.specs.declared.Attributes.{Attributes}
use Rattle.date_rules.specs.Dates.{started_state, stopped_state, dated_state}
use Rattle.changes.specs.Records.{in_state}
use Rattle.new_records.specs.New.{new_record}
use Rattle.changes.specs.Dates.{ripened, began}
use Rattle.changes.specs.Changes.{serial_most, is_full, next_serial, with_born}
use Rattle.keeps.proofs.Begun.{Allowed}
use Rattle.keeps.proofs.Stores.{other, other_serial, here_serial}
use Rattle.keeps.proofs.Keeps.{Held, held_blank, keeps_born}
use Rattle.keeps.proofs.Leaves.{Born, born_leaves}
use Rattle.keeps.proofs.Dates.{keeps_began, began_last, began_latest, began_places}
use Rattle.plans.specs.Plans.{Env, env_at}
use Rattle.batch_keeps.proofs.Batches.{own_bytes, own_long}
use Rattle.cases.proofs.Cases.{opened}
use Rattle.wrong_boxes.proofs.Calling.{is_byte, bytes_test}

-- ---- what is created

-- AES, 128 bits, mask Encrypt, 100 units of Object
abbrev pub wanted : Attributes
wanted = record { bits = 128; mask = 4; unit = 2; total = 100; activation = 0; deactivation = 0; name = no_name }

wanted_allowed : Allowed wanted
wanted_allowed = record { bits = refl; mask = refl; limit = inr (refl, refl); activation = omega arith; deactivation = omega arith; order = inl refl; name = none_range; shape = none_shape; text = none_text }

-- no name is never taken
pub wanted_free : (t : List ℕ) → is_taken small_count t wanted.name ≡ false
unfolding is_taken find_name ifb is_nothing
wanted_free t = refl

-- what item i of a call meets
abbrev pub own : ℕ → Env
own i = env_at small_count (counted_from 0 512) i

strip_bytes : Bytes (counted_from 0 512)
unfolding opened is_byte
strip_bytes = bytes_test (counted_from 0 512) refl

strip_length : length (counted_from 0 512) ≡ 512
unfolding opened
strip_length = refl

-- the table with one more
abbrev pub grown : ℕ → List ℕ → List ℕ
grown i t = with_born small_count t (new_record (next_serial t) wanted (own i).fresh)

-- there is room where a place is due and serials are left
pub has_room : (t : List ℕ) (k : ℕ) → new_place small_count t ≡ Some k → (last_serial t ≡ serial_most → ⊥) → is_full small_count t ≡ false
unfolding is_full
has_room t k due few = ap₂ (λ (a b : Bool). a || b) (is_nothing_at (new_place small_count t) k due) (ne_eqb (last_serial t) serial_most few)

-- what one Create leaves
module _ (i : ℕ) (t : List ℕ) (held : Held small_count t) (l : material_size * i + material_size ≤ 512) (room : is_full small_count t ≡ false) where
  fits : material_size * i + material_size ≤ length (counted_from 0 512)
  fits = omega (arith, strip_length)

  pub grown_born : Born small_count t (new_record (next_serial t) wanted (own i).fresh) (grown i t)
  grown_born = born_leaves small_count t held room (own i).fresh (own_bytes small_count (counted_from 0 512) 0 strip_bytes i fits) wanted wanted_allowed

  pub grown_held : Held small_count (grown i t)
  grown_held =
      keeps_born small_count t held room (own i).fresh (own_bytes small_count (counted_from 0 512) 0 strip_bytes i fits) (own_long small_count (counted_from 0 512) 0 strip_bytes i fits) wanted wanted_allowed (wanted_free t)

-- ---- k keys

-- the first of them
abbrev pub first_key : Record
first_key = new_record 1 wanted (own 0).fresh

-- k keys stand at the places 0 to k - 1, with the serials 1 to k, and the other places are free
pub record Filled (k : ℕ) (t : List ℕ) : Type 0 where
  pub held : Held small_count t
  pub last : last_serial t ≡ k
  pub serials : (i : ℕ) → i < k → serial_at t i ≡ i + 1
  pub free : (i : ℕ) → k ≤ i → i < small_count → serial_at t i ≡ 0
  pub first : 1 ≤ k → place_at small_count t 0 ≡ first_key
  pub latest : latest_clock t ≤ 1

pub filled_blank : Filled 0 (blank small_count)
filled_blank = record {
  held = held_blank small_count (lit< tt);
  last = last_blank small_count;
  serials = λ i h. absurd (omega arith);
  free = λ i h l. serial_blank small_count i l;
  first = λ h. absurd (omega arith);
  latest = omega (arith, latest_blank small_count);
}

-- one more
module _ (k : ℕ) (t : List ℕ) (f : Filled k t) (more : k < small_count) where
  due : new_place small_count t ≡ Some k
  unfolding free_place
  due =
      new_free small_count t k (found_is small_count (is_free t) k more (eq-eqb (serial_at t k) 0 (f.free k (omega arith) more))
      (λ j h. ne_eqb (serial_at t j) 0 (λ z. omega (arith, f.serials j h))))

  pub filled_room : is_full small_count t ≡ false
  filled_room = has_room t k due (λ e. omega (arith, f.last))

  born : Born small_count t (new_record (next_serial t) wanted (own 0).fresh) (grown 0 t)
  born = grown_born 0 t f.held (omega arith) filled_room

  here : born.place ≡ k
  here = At-same (sym born.due ∙ due)

  serial_here : serial_at (grown 0 t) k ≡ k + 1
  unfolding new_record
  serial_here = ap (serial_at (grown 0 t)) (sym here) ∙ here_serial small_count t born.place _ _ _ born.stored ∙ ap (λ (s : ℕ). s + 1) f.last

  serial_past : (j : ℕ) → j < small_count → (j ≡ k → ⊥) → serial_at (grown 0 t) j ≡ serial_at t j
  serial_past j l ne = other_serial small_count t born.place _ _ _ born.stored j l (λ e. ne (e ∙ here))

  pub filled_more : Filled (suc k) (grown 0 t)
  unfolding new_record
  filled_more = record {
    held = grown_held 0 t f.held (omega arith) filled_room;
    last = born.stored.issued ∙ (let e : last_serial t ≡ k = f.last in omega arith);
    serials = λ j h. elim (ℕ_discrete j k) [ yes e ↦ ap (serial_at (grown 0 t)) e ∙ serial_here ∙ ap (λ (s : ℕ). s + 1) (sym e) | no e ↦ serial_past j (omega arith) e ∙ f.serials j (omega arith) ];
    free = λ j h l. serial_past j l (λ e. omega arith) ∙ f.free j (omega arith) l;
    first = λ h. elim (ℕ_discrete 0 k) [
      | yes e ↦ ap (place_at small_count (grown 0 t)) (e ∙ sym here) ∙ born.stored.here ∙ ap (λ (s : ℕ). new_record (s + 1) wanted (own 0).fresh) (f.last ∙ sym e)
      | no e ↦ other small_count t born.place _ _ _ born.stored 0 (lit< tt) (λ q. e (q ∙ here)) ∙ f.first (omega arith)
    ];
    latest = omega (arith, born.stored.latest, f.latest);
  }

-- ---- a call at clock 1 begins

-- the table that its first item meets
abbrev pub begun_at : List ℕ → List ℕ
begun_at t = began small_count 1 t

-- no key has a date, so it is as it was but for the clock
module _ (k : ℕ) (t : List ℕ) (f : Filled k t) where
  begun_place : (i : ℕ) → i < small_count → place_at small_count (begun_at t) i ≡ ripened 1 (place_at small_count t i)
  begun_place i low = began_places small_count t f.held 1 f.latest (omega arith) i low

  begun_serial : (i : ℕ) → i < small_count → serial_at (begun_at t) i ≡ serial_at t i
  unfolding ripened in_state
  begun_serial i low = serial_is small_count (begun_at t) i ∙ ap (λ (r : Record). r.serial) (begun_place i low) ∙ sym (serial_is small_count t i)

  -- the first key stays as it is
  first_waits : ripened 1 first_key ≡ first_key
  unfolding ripened in_state new_record dated_state stopped_state started_state ifb
  first_waits = refl

  pub filled_begun : k ≤ small_count → Filled k (begun_at t)
  filled_begun few = record {
    held = keeps_began small_count t f.held 1 f.latest (omega arith);
    last = began_last small_count t f.held 1 f.latest (omega arith) ∙ f.last;
    serials = λ i h. begun_serial i (omega arith) ∙ f.serials i h;
    free = λ i h l. begun_serial i l ∙ f.free i h l;
    first = λ h. begun_place 0 (lit< tt) ∙ ap (ripened 1) (f.first h) ∙ first_waits;
    latest = omega (arith, began_latest small_count t f.held 1 f.latest (omega arith));
  }

-- ---- all places

-- where no place is free and the key at place 0 is destroyed, a new object takes its place
pub takes_first : (t : List ℕ) → ((i : ℕ) → i < small_count → serial_at t i ≡ i + 1) → is_destroyed (state_at t 0) ≡ true → new_place small_count t ≡ Some 0
unfolding free_place destroyed_place
takes_first t serials dead =
    new_destroyed small_count t (fails_none small_count (is_free t) (λ j h. ne_eqb (serial_at t j) 0 (λ z. omega (arith, serials j h))))
    ∙ found_is small_count (λ i. is_destroyed (state_at t i)) 0 (lit< tt) dead (λ j h. absurd (omega arith))
