-- What each change leaves: the record that it made in its place, and every other record as it was.
-- Assumes nothing. A record that the operation neither named, nor linked anew, nor took over is the same record.
use Rattle.std.specs.Prelude.{Option, Some, Ok}
use mathlib.Core.Path.{◌≡◌, sym, ◌∙◌}
use Prim.Native.Nat.{ℕ, ◌^◌, ◌<◌}
use native.Mathlib.Omega.{arith}
use mathlib.Core.Bool.{false}
use mathlib.Core.List.{List}
use Rattle.octets.specs.Octets.{Bytes}
use Rattle.table.specs.declared.Record.{Record}
use Rattle.table.specs.Layout.{Table}
use Rattle.table.specs.Records.{place_at, with_place, last_serial, latest_clock}
use Rattle.search.specs.Search.{is_destroyed, new_place}
use Rattle.table.proofs.Lines.{InRange}
use Rattle.table.proofs.Places.{length_with}
use Rattle.search.proofs.Finds.{new_below}
use Rattle.soundness.proofs.SoundIs.{Stands}
use Rattle.rules.specs.declared.Attributes.{Attributes}
use Rattle.rules.specs.Numbers.{pre_active}
use Rattle.rules.specs.States.{next_state, granting}
use Rattle.changes.specs.Records.{moved_to, with_count}
use Rattle.heirs.specs.Heirs.{offset_wrong, heir_of, linked_to}
use Rattle.new_records.specs.New.{new_record}
use Rattle.changes.specs.Changes.{is_full, next_serial, born_at, with_born, with_heir}
use Rattle.rules.proofs.Moves.{move}
use Rattle.rules.proofs.Grants.{grant_is}
use Rattle.keeps.proofs.Stores.{Stored, stored, stored_last, other}
use Rattle.keeps.proofs.Births.{linked_range}
use Rattle.keeps.proofs.Begun.{Allowed, begun, new_begun, heir_wanted, heir_state, heir_begun, first_new, first_heir, allowed_of, begun_range}
use Rattle.keeps.proofs.Moved.{moved_range, count_range}
use Rattle.keeps.proofs.Keeps.{Held, facts, range, fit, dated, with_place_lem, next_fits, not_here}

-- a record that is new, in the place that is due
pub record Born (n : ℕ) (t : List ℕ) (r : Record) (u : List ℕ) : Type 0 where
  pub place : ℕ
  pub due : new_place n t ≡ Some place
  pub below : place < n
  pub stored : Stored n t place r r.serial u

-- the replacement of the record at place i, in the place that is due, and the record itself, which names it
pub record Replaced (n : ℕ) (t : List ℕ) (i : ℕ) (heir : Record) (u : List ℕ) : Type 0 where
  pub place : ℕ
  pub due : new_place n t ≡ Some place
  pub below : place < n
  pub apart : place ≡ i → ⊥
  pub issued : last_serial u ≡ heir.serial
  pub latest : latest_clock u ≡ latest_clock t
  pub new : place_at n u place ≡ heir
  pub old : place_at n u i ≡ linked_to heir.serial (place_at n t i)
  pub others : (j : ℕ) → j < n → (j ≡ place → ⊥) → (j ≡ i → ⊥) → place_at n u j ≡ place_at n t j

-- two stores and a new last serial
replaced : (n : ℕ) (t : List ℕ) (i k : ℕ) (heir : Record) (u : List ℕ) → new_place n t ≡ Some k → i < n → (k ≡ i → ⊥)
    → Stored n t i (linked_to heir.serial (place_at n t i)) (last_serial t) u → (v : List ℕ) → Stored n u k heir heir.serial v → Replaced n t i heir v
replaced n t i k heir u due lo apart first v second = record {
  place = k;
  due = due;
  below = new_below n t k due;
  apart = apart;
  issued = second.issued;
  latest = second.latest ∙ first.latest;
  new = second.here;
  old = other n u k heir heir.serial v second i lo (λ e. apart (sym e)) ∙ first.here;
  others = λ j l nk ni. other n u k heir heir.serial v second j l nk ∙ other n t i _ (last_serial t) u first j l ni;
}

module _ (n : ℕ) (t : List ℕ) (held : Held n t) where
  module _ (i : ℕ) (lo : i < n) (stands : Stands t i) where
    -- Activate, Revoke, Destroy
    pub moved_leaves : (operation code next : ℕ) → next_state operation code (place_at n t i).state ≡ Ok next
        → Stored n t i (moved_to operation code (latest_clock t) next (place_at n t i)) (last_serial t) (with_place n t i (moved_to operation code (latest_clock t) next (place_at n t i)))
    moved_leaves operation code next e =
        stored n t i (moved_to operation code (latest_clock t) next (place_at n t i)) (facts n t held).size lo
        (moved_range operation code (latest_clock t) next (place_at n t i) (move operation code (place_at n t i).state next e) (facts n t held).latest (range n t held i lo stands))

    -- Get Usage Allocation
    pub count_leaves : (amount left : ℕ) → granting (place_at n t i).state (place_at n t i).unit (place_at n t i).count amount ≡ Ok left
        → Stored n t i (with_count left (place_at n t i)) (last_serial t) (with_place n t i (with_count left (place_at n t i)))
    count_leaves amount left e =
        let g = grant_is (place_at n t i).state (place_at n t i).unit (place_at n t i).count amount left e in
        stored n t i (with_count left (place_at n t i)) (facts n t held).size lo (count_range left (place_at n t i) (omega arith) (range n t held i lo stands))

  module _ (room : is_full n t ≡ false) (fresh : List ℕ) (fresh_bytes : Bytes fresh) where
    -- Create
    pub born_leaves : (wanted : Attributes) → Allowed wanted → Born n t (new_record (next_serial t) wanted fresh) (with_born n t (new_record (next_serial t) wanted fresh))
    unfolding with_born born_at
    born_leaves wanted a =
        let r : Record = begun (next_serial t) pre_active wanted 0 fresh in
        let serial : next_serial t < 256 ^ 4 = next_fits n t held room in
        let g : InRange r = begun_range (latest_clock t) (next_serial t) pre_active wanted 0 fresh a (first_new (latest_clock t) wanted.activation) serial (omega arith) fresh_bytes in
        with_place_lem n t held room (λ k e. rw (new_begun (next_serial t) wanted fresh, e) (record {
          place = k;
          due = e;
          below = new_below n t k e;
          stored = stored_last n t k r (last_serial t) _ (next_serial t) (omega (arith, length_with n t k r, (facts n t held).size)) serial
              (stored n t k r (facts n t held).size (new_below n t k e) g);
        }))

    -- Re-key
    module _ (offset : Option ℕ) (i : ℕ) (lo : i < n) (stands : Stands t i) (alive : is_destroyed (place_at n t i).state ≡ false)
        (right : offset_wrong (latest_clock t) offset (place_at n t i) ≡ false) where
      pub heir_leaves : Replaced n t i (heir_of (next_serial t) (latest_clock t) offset (place_at n t i) fresh) (with_heir n t i (heir_of (next_serial t) (latest_clock t) offset (place_at n t i) fresh))
      unfolding with_heir born_at
      heir_leaves =
          let old : Record = place_at n t i in
          let latest : ℕ = latest_clock t in
          let was : InRange old = range n t held i lo stands in
          let serial : next_serial t < 256 ^ 4 = next_fits n t held room in
          let wanted : Attributes = heir_wanted latest offset old in
          let a : Allowed wanted = allowed_of (last_serial t) latest offset old right (range n t held i lo stands).name (fit n t held i lo stands) (dated n t held i lo stands) in
          let heir : Record = begun (next_serial t) (heir_state latest offset old) wanted old.serial fresh in
          let g : InRange heir = begun_range latest (next_serial t) (heir_state latest offset old) wanted old.serial fresh a (first_heir latest offset old) serial was.serial fresh_bytes in
          let link : Record = linked_to (next_serial t) old in
          let size : Table n (with_place n t i link) = length_with n t i link ∙ (facts n t held).size in
          with_place_lem n t held room (λ k e. rw (heir_begun latest offset old (next_serial t) fresh, e)
          (replaced n t i k heir (with_place n t i link) e lo (not_here n t held i lo stands alive k e)
          (stored n t i link (facts n t held).size lo (linked_range (next_serial t) old serial was)) _
          (stored_last n _ k heir _ _ (next_serial t) (omega (arith, length_with n (with_place n t i link) k heir, size)) serial
          (stored n (with_place n t i link) k heir size (new_below n t k e) g))))
