-- Create, Re-key, Activate, Revoke, Destroy and Get Usage Allocation each keep a sound table sound, and its bytes bytes.
-- Assumes nothing. Each theorem asks what its operation has tested when it comes to change the table.
use Rattle.std.specs.Prelude.{Option, Some, Ok}
use mathlib.Core.Path.{◌≡◌, refl, sym, ap, ◌∙◌}
use mathlib.Core.Logic.{inl, inr, ⊎_elim}
use Prim.Native.Nat.{ℕ, ◌^◌, ◌≤◌, ◌<◌}
use native.Mathlib.Omega.{arith}
use mathlib.Core.Bool.{true, false, true≢false}
use mathlib.Core.List.{List}
use lib.ListN.{length}
use borrow.Author.Tests.{eqb-false}
use Rattle.octets.specs.Octets.{Bytes, part}
use Rattle.octets.proofs.Bools.{or_not_l, or_not_r}
use Rattle.octets.proofs.Numbers.{from_be_lt}
use Rattle.octets.proofs.Stores.{length_part}
use Rattle.table.specs.declared.Record.{Record}
use Rattle.table.specs.Layout.{material_size, last_in}
use Rattle.table.specs.Records.{place_at, with_place, serial_at, state_at, last_serial, latest_clock, blank}
use Rattle.search.specs.Search.{is_nothing, find, is_destroyed, new_place}
use Rattle.table.proofs.Lines.{InRange, bytes_part}
use Rattle.table.proofs.Places.{serial_is, state_is, place_range, bytes_with}
use Rattle.table.proofs.Lead.{bytes_last}
use Rattle.search.proofs.First.{on_found_lem, is_nothing_none}
use Rattle.name_search.specs.Names.{is_taken}
use Rattle.name_search.proofs.Finds.{none_named, untaken}
use Rattle.search.proofs.Finds.{find_nonzero, find_serial, new_below, new_at}
use Rattle.table.proofs.Blank.{bytes_blank}
use Rattle.soundness.specs.Sound.{sound}
use Rattle.record_rules.proofs.Fit.{Fit, Dated}
use Rattle.soundness.proofs.SoundIs.{Stands, Sound, sound_is, sound_of}
use Rattle.soundness.proofs.Blank.{blank_sound}
use Rattle.rules.specs.declared.Attributes.{Attributes}
use Rattle.rules.specs.Numbers.{pre_active}
use Rattle.rules.specs.States.{next_state, granting}
use Rattle.date_rules.specs.Dates.{is_late}
use Rattle.changes.specs.Records.{moved_to, with_count}
use Rattle.heirs.specs.Heirs.{offset_wrong, heir_of}
use Rattle.new_records.specs.New.{new_record}
use Rattle.changes.specs.Changes.{serial_most, is_full, next_serial, born_at, with_born, with_heir}
use Rattle.rules.proofs.Moves.{move}
use Rattle.rules.proofs.Grants.{grant_is}
use Rattle.keeps.proofs.Edits.{Stays, edit_sound}
use Rattle.keeps.proofs.Births.{linked_range, born_sound, heir_sound}
use Rattle.keeps.proofs.Begun.{Allowed, begun, new_begun, heir_wanted, heir_state, heir_begun, first_new, first_heir, allowed_of, begun_range, begun_fit, begun_dated}
use Rattle.keeps.proofs.Moved.{moved_range, moved_fit, moved_dated, moved_stays, count_range, count_fit, count_dated, count_stays}

-- a sound table of bytes
pub record Held (n : ℕ) (t : List ℕ) : Type 0 where
  pub right : sound n t ≡ true
  pub bytes : Bytes t

-- the blank table is one
pub held_blank : (n : ℕ) → n < 256 ^ 4 → Held n (blank n)
held_blank n few = record { right = blank_sound n few; bytes = bytes_blank n }

-- what a search finds stands
pub found_stands : (n : ℕ) (t : List ℕ) (serial i : ℕ) → find n t serial ≡ Some i → Stands t i
found_stands n t serial i e z = find_nonzero n t serial i e (sym (find_serial n t serial i e) ∙ z)

-- ---- the theorems

module _ (n : ℕ) (t : List ℕ) (held : Held n t) where
  pub facts : Sound n t
  facts = sound_is n t held.right

  -- a record that stays
  module _ (i : ℕ) (lo : i < n) (stands : Stands t i) where
    pub range : InRange (place_at n t i)
    range = place_range n t i facts.size lo held.bytes

    pub fit : Fit (last_serial t) (place_at n t i)
    fit = facts.fit i lo stands

    pub dated : Dated (latest_clock t) (place_at n t i)
    dated = facts.dated i lo stands

    -- a place that is due is another, where this record is not destroyed
    pub not_here : is_destroyed (place_at n t i).state ≡ false → (k : ℕ) → new_place n t ≡ Some k → k ≡ i → ⊥
    not_here alive k e q =
        ⊎_elim (λ z. stands (ap (serial_at t) (sym q) ∙ z))
        (λ d. true≢false (sym d.1 ∙ ap (λ (j : ℕ). is_destroyed (state_at t j)) q ∙ ap is_destroyed (state_is n t i) ∙ alive))
        (new_at n t k e)

    pub edited : (r : Record) → InRange r → Fit (last_serial t) r → Dated (latest_clock t) r → Stays r (place_at n t i) → Held n (with_place n t i r)
    edited r g f d same = record {
      right = sound_of n (with_place n t i r) (edit_sound n t i r facts lo stands g f d same);
      bytes = bytes_with n t i r held.bytes g.bytes;
    }

    -- Activate, Revoke, Destroy
    pub keeps_moved : (operation code next : ℕ) → next_state operation code (place_at n t i).state ≡ Ok next → is_late operation (latest_clock t) (place_at n t i).deactivation ≡ false
        → Held n (with_place n t i (moved_to operation code (latest_clock t) next (place_at n t i)))
    keeps_moved operation code next e late =
        let is = move operation code (place_at n t i).state next e in
        let r : Record = place_at n t i in
        let clock : ℕ = latest_clock t in
        edited (moved_to operation code clock next r) (moved_range operation code clock next r is facts.latest range)
        (moved_fit operation code clock next r is (last_serial t) fit) (moved_dated operation code clock next r is facts.latest late dated) (moved_stays operation code clock next r)

    -- Get Usage Allocation
    pub keeps_count : (amount left : ℕ) → granting (place_at n t i).state (place_at n t i).unit (place_at n t i).count amount ≡ Ok left
        → Held n (with_place n t i (with_count left (place_at n t i)))
    keeps_count amount left e =
        let g = grant_is (place_at n t i).state (place_at n t i).unit (place_at n t i).count amount left e in
        let less : left ≤ (place_at n t i).count = omega arith in
        edited (with_count left (place_at n t i)) (count_range left (place_at n t i) less range) (count_fit left (place_at n t i) less (last_serial t) fit)
        (count_dated (latest_clock t) left (place_at n t i) dated) (count_stays left (place_at n t i))

  -- ---- a record that is new

  pub last_fits : last_serial t < 256 ^ 4
  unfolding last_serial
  last_fits =
      let l : length (part t last_in 4) ≡ 4 = length_part t last_in 4 (omega (arith, facts.size)) in
      rw l at (from_be_lt (part t last_in 4) (bytes_part t last_in 4 held.bytes))

  module _ (room : is_full n t ≡ false) where
    -- there is a place, and a serial
    pub with_place_lem : {P : Type 0} → ((k : ℕ) → new_place n t ≡ Some k → P) → P
    unfolding is_full
    with_place_lem f = on_found_lem (new_place n t) f (λ e. absurd (true≢false (sym (is_nothing_none (new_place n t) e) ∙ or_not_l _ _ room)))

    pub next_fits : next_serial t < 256 ^ 4
    unfolding is_full
    next_fits = omega (arith, last_fits, eqb-false (last_serial t) serial_most (or_not_r (is_nothing (new_place n t)) _ room))

    module _ (fresh : List ℕ) (fresh_bytes : Bytes fresh) (long : material_size ≤ length fresh) where
      -- Create
      pub keeps_born : (wanted : Attributes) → Allowed wanted → is_taken n t wanted.name ≡ false → Held n (with_born n t (new_record (next_serial t) wanted fresh))
      unfolding with_born born_at
      keeps_born wanted a free =
          let latest : ℕ = latest_clock t in
          let serial : ℕ = next_serial t in
          let first = first_new latest wanted.activation in
          let r : Record = begun serial pre_active wanted 0 fresh in
          let g : InRange r = begun_range latest serial pre_active wanted 0 fresh a first next_fits (omega arith) fresh_bytes in
          with_place_lem (λ k e. rw (new_begun serial wanted fresh, e) (record {
            right = sound_of n _ (born_sound n t k r facts (new_below n t k e) g (omega arith) (begun_fit latest serial pre_active wanted 0 fresh a first long (inl refl))
                (begun_dated latest serial pre_active wanted 0 fresh a first) refl refl (λ j l ne there. none_named n t wanted.name there (untaken n t wanted.name free) j l));
            bytes = bytes_last _ _ (bytes_with n t k r held.bytes g.bytes);
          }))

      -- Re-key
      module _ (offset : Option ℕ) (i : ℕ) (lo : i < n) (stands : Stands t i) (alive : is_destroyed (place_at n t i).state ≡ false) (none : (place_at n t i).replacement ≡ 0)
          (right : offset_wrong (latest_clock t) offset (place_at n t i) ≡ false) where
        pub keeps_heir : Held n (with_heir n t i (heir_of (next_serial t) (latest_clock t) offset (place_at n t i) fresh))
        unfolding with_heir born_at
        keeps_heir =
            let old : Record = place_at n t i in
            let latest : ℕ = latest_clock t in
            let serial : ℕ = next_serial t in
            let wanted : Attributes = heir_wanted latest offset old in
            let state : ℕ = heir_state latest offset old in
            let a : Allowed wanted = allowed_of (last_serial t) latest offset old right (range i lo stands).name (fit i lo stands) (dated i lo stands) in
            let first = first_heir latest offset old in
            let below : old.serial < serial = omega (arith, facts.issued i lo, serial_is n t i) in
            let heir : Record = begun serial state wanted old.serial fresh in
            let g : InRange heir = begun_range latest serial state wanted old.serial fresh a first next_fits (range i lo stands).serial fresh_bytes in
            with_place_lem (λ k e. rw (heir_begun latest offset old serial fresh, e) (record {
              right = sound_of n _ (heir_sound n t i k heir facts lo stands (new_below n t k e) (not_here i lo stands alive k e) (range i lo stands) none g (omega arith)
                  (begun_fit latest serial state wanted old.serial fresh a first long (inr below)) (begun_dated latest serial state wanted old.serial fresh a first) refl refl refl);
              bytes = bytes_last _ _ (bytes_with n _ k heir (bytes_with n t i _ held.bytes (linked_range serial old next_fits (range i lo stands)).bytes) g.bytes);
            }))
