-- A record that was moved, or of which a grant took something off: it fits the table's fields and breaks no rule of its own.
-- Assumes nothing.
use mathlib.Core.Path.{◌≡◌, refl, sym, ap, ◌∙◌}
use mathlib.Core.Logic.{◌⊎◌, inl, inr, ⊎_elim}
use Prim.Native.Nat.{ℕ, ◌-◌, ◌/◌, ◌^◌, ◌≤◌, ◌<◌}
use native.Mathlib.Omega.{arith}
use native.Mathlib.Decide.{ℕ_discrete}
use mathlib.Core.Bool.{true, false, not, true≢false}
use mathlib.Core.List.{List}
use lib.ListN.{length, drop, length-replicate}
use lib.Dec.{eqb}
use borrow.Author.Tests.{eq-eqb, ne_eqb}
use Rattle.octets.specs.Octets.{Bytes, all_zero}
use Rattle.octets.specs.If.{ifb}
use Rattle.octets.proofs.If.{on_if, ifb_true, ifb_false}
use Rattle.octets.proofs.Bools.{and_i, and_no, and_second}
use Rattle.table.specs.declared.Record.{Record}
use Rattle.table.specs.Layout.{material_size}
use Rattle.search.specs.Search.{is_destroyed}
use Rattle.octets.proofs.Zeros.{zeros_pass, bytes_zeros, drop_zeros}
use Rattle.table.proofs.Lines.{InRange}
use Rattle.record_rules.proofs.Fit.{Fit, Dated}
use Rattle.rules.specs.Numbers.{activate, revoke, destroy, active}
use Rattle.rules.specs.States.{is_compromise}
use Rattle.date_rules.specs.Dates.{has_come, is_late}
use Rattle.date_rules.proofs.Dating.{not_late}
use Rattle.changes.specs.Records.{in_state, with_dates, stops, moved_to, with_count}
use Rattle.rules.proofs.Moves.{Move, activates, compromises, compromises_destroyed, deactivates, destroys, destroys_compromised, next_range, destroyed_by_lem}
use Rattle.keeps.proofs.Edits.{Stays, limit_as}

-- ---- a record that moves

module _ (next : ℕ) (m : List ℕ) (r : Record) where
  in_state_range : next ≤ 6 → length m ≡ material_size → Bytes m → InRange r → InRange (in_state next m r)
  unfolding in_state
  in_state_range h l b g = record {
    serial = g.serial;
    state = omega arith;
    unit = g.unit;
    bits = g.bits;
    replaced = g.replaced;
    replacement = g.replacement;
    total = g.total;
    count = g.count;
    mask = g.mask;
    long = l;
    bytes = b;
    activation = g.activation;
    deactivation = g.deactivation;
    name = g.name;
  }

  pub in_state_fit : (last : ℕ) → 1 ≤ next → next ≤ 6 → all_zero (drop (r.bits / 8) m) ≡ true → (is_destroyed next ≡ true → all_zero m ≡ true) → Fit last r → Fit last (in_state next m r)
  unfolding in_state
  in_state_fit last low high tail wiped f = record {
    low = low;
    high = high;
    bits = f.bits;
    mask = f.mask;
    limit = limit_as r (in_state next m r) refl refl (omega arith) f.limit;
    tail = tail;
    wiped = wiped;
    replaced = f.replaced;
    replacement = f.replacement;
    shape = f.shape;
    text = f.text;
  }

  pub in_state_stays : Stays (in_state next m r) r
  unfolding in_state
  in_state_stays = record { serial = refl; replaced = refl; replacement = refl; name = refl }

module _ (activation deactivation : ℕ) (r : Record) where
  with_dates_range : activation < 256 ^ 8 → deactivation < 256 ^ 8 → InRange r → InRange (with_dates activation deactivation r)
  unfolding with_dates
  with_dates_range a d g = record {
    serial = g.serial;
    state = g.state;
    unit = g.unit;
    bits = g.bits;
    replaced = g.replaced;
    replacement = g.replacement;
    total = g.total;
    count = g.count;
    mask = g.mask;
    long = g.long;
    bytes = g.bytes;
    activation = a;
    deactivation = d;
    name = g.name;
  }

  with_dates_fit : (last : ℕ) → Fit last r → Fit last (with_dates activation deactivation r)
  unfolding with_dates
  with_dates_fit last f = record {
    low = f.low;
    high = f.high;
    bits = f.bits;
    mask = f.mask;
    limit = limit_as r (with_dates activation deactivation r) refl refl (omega arith) f.limit;
    tail = f.tail;
    wiped = f.wiped;
    replaced = f.replaced;
    replacement = f.replacement;
    shape = f.shape;
    text = f.text;
  }

module _ (operation code clock next : ℕ) (r : Record) (is : Move operation code r.state next) where
  pub moved_range : clock < 2 ^ 63 → InRange r → InRange (moved_to operation code clock next r)
  unfolding moved_to
  moved_range c g =
      with_dates_range _ _ (in_state next _ r)
      (on_if (λ (x : ℕ). x < 256 ^ 8) (λ e. omega arith) (λ e. g.activation))
      (on_if (λ (x : ℕ). x < 256 ^ 8) (λ e. omega arith) (λ e. g.deactivation))
      (in_state_range next _ r (next_range is).1
      (on_if (λ (m : List ℕ). length m ≡ material_size) (λ e. length-replicate {A = ℕ} material_size 0) (λ e. g.long))
      (on_if Bytes (λ e. bytes_zeros material_size) (λ e. g.bytes)) g)

  pub moved_fit : (last : ℕ) → Fit last r → Fit last (moved_to operation code clock next r)
  unfolding moved_to
  moved_fit last f =
      with_dates_fit _ _ (in_state next _ r) last
      (in_state_fit next _ r last (next_range is).0 (next_range is).1
      (on_if (λ (m : List ℕ). all_zero (drop (r.bits / 8) m) ≡ true) (λ e. ap all_zero (drop_zeros (r.bits / 8) material_size) ∙ zeros_pass (material_size - r.bits / 8)) (λ e. f.tail))
      (λ d. on_if (λ (m : List ℕ). all_zero m ≡ true) (λ e. zeros_pass material_size)
      (λ e. ⊎_elim (λ o. absurd (true≢false (sym (eq-eqb operation destroy o) ∙ e))) f.wiped (destroyed_by_lem is d)))
      f)

pub moved_stays : (operation code clock next : ℕ) (r : Record) → Stays (moved_to operation code clock next r) r
unfolding moved_to with_dates in_state
moved_stays operation code clock next r = record { serial = refl; replaced = refl; replacement = refl; name = refl }

-- ---- the dates of a record that moves

module _ (operation code clock next : ℕ) (r : Record) where
  abbrev activation : ℕ
  activation = ifb (eqb operation activate) clock r.activation

  abbrev deactivation : ℕ
  deactivation = ifb (stops operation code) clock r.deactivation

  activation_set : operation ≡ activate → activation ≡ clock
  activation_set o = ifb_true _ _ _ (eq-eqb operation activate o)

  activation_kept : (operation ≡ activate → ⊥) → activation ≡ r.activation
  activation_kept o = ifb_false _ _ _ (ne_eqb operation activate o)

  deactivation_set : operation ≡ revoke → is_compromise code ≡ false → deactivation ≡ clock
  deactivation_set o k = ifb_true _ _ _ (and_i (eqb operation revoke) (not (is_compromise code)) (eq-eqb operation revoke o) (ap not k))

  deactivation_kept : (operation ≡ revoke → is_compromise code ≡ true) → deactivation ≡ r.deactivation
  deactivation_kept h = elim (ℕ_discrete operation revoke) [
    | yes o ↦ ifb_false _ _ _ (and_second (eqb operation revoke) (not (is_compromise code)) (eq-eqb operation revoke o) ∙ ap not (h o))
    | no o ↦ ifb_false _ _ _ (and_no (eqb operation revoke) (not (is_compromise code)) (ne_eqb operation revoke o))
  ]

  -- in order, and an Active key has started
  record Right : Type 0 where
    order : (deactivation ≡ 0) ⊎ (activation ≤ deactivation)
    started : next ≡ 2 → activation ≤ clock

  -- a move that sets no date and leads away from Active
  right_kept : (operation ≡ activate → ⊥) → (operation ≡ revoke → is_compromise code ≡ true) → (next ≡ 2 → ⊥) → Dated clock r → Right
  right_kept a d n h =
      let same : activation ≡ r.activation = activation_kept a in
      let also : deactivation ≡ r.deactivation = deactivation_kept d in
      record { order = ⊎_elim (λ z. inl (also ∙ z)) (λ l. inr (omega arith)) h.order; started = λ e. absurd (n e) }

  moved_right : Move operation code r.state next → is_late operation clock r.deactivation ≡ false → Dated clock r → Right
  moved_right (activates o s n) late h =
      let now : activation ≡ clock = activation_set o in
      let same : deactivation ≡ r.deactivation = deactivation_kept (λ e. absurd (omega arith)) in
      record { order = ⊎_elim (λ z. inl (same ∙ z)) (λ l. inr (omega arith)) (not_late operation clock r.deactivation o late); started = λ e. omega arith }
  moved_right (deactivates o k s n) late h =
      let same : activation ≡ r.activation = activation_kept (λ e. omega arith) in
      let now : deactivation ≡ clock = deactivation_set o k in
      let began : r.activation ≤ clock = h.started s in
      record { order = inr (omega arith); started = λ e. absurd (omega arith) }
  moved_right (compromises o k l m n) late h = right_kept (λ e. omega arith) (λ e. k) (λ e. omega arith) h
  moved_right (compromises_destroyed o k s n) late h = right_kept (λ e. omega arith) (λ e. k) (λ e. omega arith) h
  moved_right (destroys o s n) late h = right_kept (λ e. omega arith) (λ e. absurd (omega arith)) (λ e. omega arith) h
  moved_right (destroys_compromised o s n) late h = right_kept (λ e. omega arith) (λ e. absurd (omega arith)) (λ e. omega arith) h

  pub moved_dated : Move operation code r.state next → clock < 2 ^ 63 → is_late operation clock r.deactivation ≡ false → Dated clock r
      → Dated clock (moved_to operation code clock next r)
  unfolding moved_to with_dates in_state
  moved_dated is c late h =
      let right = moved_right is late h in
      record {
        activation = on_if (λ (x : ℕ). x < 2 ^ 63) (λ e. c) (λ e. h.activation);
        deactivation = on_if (λ (x : ℕ). x < 2 ^ 63) (λ e. c) (λ e. h.deactivation);
        order = right.order;
        started = right.started;
      }

  -- what a move makes Active has no deactivation date, or one that is still to come
  pub moved_open : Move operation code r.state next → is_late operation clock r.deactivation ≡ false → (moved_to operation code clock next r).state ≡ active
      → ((moved_to operation code clock next r).deactivation ≡ 0) ⊎ (clock < (moved_to operation code clock next r).deactivation)
  unfolding moved_to with_dates in_state
  moved_open (activates o s n) late e =
      let same : deactivation ≡ r.deactivation = deactivation_kept (λ e. absurd (omega arith)) in
      ⊎_elim (λ z. inl (same ∙ z)) (λ l. inr (omega arith)) (not_late operation clock r.deactivation o late)
  moved_open (deactivates o k s n) late e = absurd (omega arith)
  moved_open (compromises o k l m n) late e = absurd (omega arith)
  moved_open (compromises_destroyed o k s n) late e = absurd (omega arith)
  moved_open (destroys o s n) late e = absurd (omega arith)
  moved_open (destroys_compromised o s n) late e = absurd (omega arith)

  -- a key that is past its deactivation date and not Active does not become Active, and keeps its date
  pub moved_idle : Move operation code r.state next → is_late operation clock r.deactivation ≡ false → has_come clock r.deactivation ≡ true → (r.state ≡ active → ⊥)
      → ((moved_to operation code clock next r).state ≡ active → ⊥) × (has_come clock (moved_to operation code clock next r).deactivation ≡ true)
  unfolding moved_to with_dates in_state
  moved_idle is late come idle = go is
    where
      keeps : (operation ≡ revoke → is_compromise code ≡ true) → has_come clock deactivation ≡ true
      keeps k = ap (has_come clock) (deactivation_kept k) ∙ come

      go : Move operation code r.state next → (next ≡ active → ⊥) × (has_come clock deactivation ≡ true)
      go (activates o s n) = absurd (true≢false (sym (and_i (eqb operation activate) (has_come clock r.deactivation) (eq-eqb operation activate o) come) ∙ late))
      go (deactivates o k s n) = absurd (idle s)
      go (compromises o k l m n) = (λ e. omega arith, keeps (λ e. k))
      go (compromises_destroyed o k s n) = (λ e. omega arith, keeps (λ e. k))
      go (destroys o s n) = (λ e. omega arith, keeps (λ e. absurd (omega arith)))
      go (destroys_compromised o s n) = (λ e. omega arith, keeps (λ e. absurd (omega arith)))

-- ---- a record of which something was taken off

module _ (count : ℕ) (r : Record) (less : count ≤ r.count) where
  pub count_range : InRange r → InRange (with_count count r)
  unfolding with_count
  count_range g = record {
    serial = g.serial;
    state = g.state;
    unit = g.unit;
    bits = g.bits;
    replaced = g.replaced;
    replacement = g.replacement;
    total = g.total;
    count = omega (arith, g.count);
    mask = g.mask;
    long = g.long;
    bytes = g.bytes;
    activation = g.activation;
    deactivation = g.deactivation;
    name = g.name;
  }

  pub count_fit : (last : ℕ) → Fit last r → Fit last (with_count count r)
  unfolding with_count
  count_fit last f = record {
    low = f.low;
    high = f.high;
    bits = f.bits;
    mask = f.mask;
    limit = limit_as r (with_count count r) refl refl less f.limit;
    tail = f.tail;
    wiped = f.wiped;
    replaced = f.replaced;
    replacement = f.replacement;
    shape = f.shape;
    text = f.text;
  }

pub count_dated : (latest count : ℕ) (r : Record) → Dated latest r → Dated latest (with_count count r)
unfolding with_count
count_dated latest count r d = record { activation = d.activation; deactivation = d.deactivation; order = d.order; started = d.started }

pub count_stays : (count : ℕ) (r : Record) → Stays (with_count count r) r
unfolding with_count
count_stays count r = record { serial = refl; replaced = refl; replacement = refl; name = refl }
