-- What happens before the first item of a request keeps a sound table sound: a later clock is stored, and what is due by it is done, place by place.
-- Assumes nothing.
use mathlib.Core.Path.{◌≡◌, refl, sym, ap, ◌∙◌}
use mathlib.Core.Logic.{◌⊎◌, inl, inr, ⊎_elim}
use Prim.Native.Nat.{ℕ, zero, suc, ◌+◌, ◌^◌, ◌≤◌, ◌<◌}
use native.Mathlib.Omega.{arith}
use native.Mathlib.Decide.{ℕ_discrete}
use mathlib.Core.Bool.{true, not, false≢true}
use mathlib.Core.List.{List}
use borrow.Author.Tests.{eqb-true, eqb-false, not-true}
use Rattle.octets.specs.Octets.{all_zero}
use Rattle.octets.proofs.If.{on_if}
use Rattle.octets.proofs.Bools.{and_l}
use Rattle.names.specs.Names.{is_named}
use Rattle.table.specs.declared.Record.{Record}
use Rattle.table.specs.Records.{place_at, serial_at, is_free, last_serial, latest_clock, with_clock}
use Rattle.table.proofs.Blank.{zero_place}
use Rattle.table.proofs.Places.{place_range}
use Rattle.table.proofs.Lead.{length_clock, bytes_clock, latest_clock_lem, last_clock, said_clock, line_clock, serial_clock, body_clock, zeros_clock, place_clock, name_clock}
use Rattle.search.specs.Search.{is_destroyed}
use Rattle.record_rules.proofs.Fit.{Fit, Dated, dated_later}
use Rattle.soundness.proofs.SoundIs.{Stands, Sound, sound_of}
use Rattle.rules.specs.Numbers.{active}
use Rattle.date_rules.proofs.Dating.{Dating, still, starts, stops, passes, dating, come_by, not_come}
use Rattle.changes.specs.Dates.{state_by, ripened, is_ripe, ripe_at, ripe_from, began}
use Rattle.changes.specs.Records.{in_state}
use Rattle.changes.proofs.Sweep.{dated_cases_lem, ripe_range, Touched, touched}
use Rattle.keeps.proofs.Edits.{Stays}
use Rattle.keeps.proofs.Moved.{in_state_fit, in_state_stays}
use Rattle.keeps.proofs.Keeps.{Held, facts, range, fit, dated, edited}

-- ---- a later clock

module _ (n : ℕ) (t : List ℕ) (held : Held n t) (clock : ℕ) (later : latest_clock t ≤ clock) (fits : clock < 2 ^ 63) where
  abbrev was : Sound n t
  was = facts n t held

  pub latest_kept : latest_clock (with_clock t clock) ≡ clock
  latest_kept = latest_clock_lem t clock (omega (arith, was.size)) (omega arith)

  clock_facts : Sound n (with_clock t clock)
  clock_facts = record {
    size = length_clock t clock ∙ was.size;
    count = said_clock t clock ∙ was.count;
    latest = rw latest_kept fits;
    free = λ i l z. let empty = was.free i l (sym (serial_clock t clock i) ∙ z) in
        record { line = ap all_zero (line_clock t clock i) ∙ empty.line; body = ap all_zero (body_clock t clock i n) ∙ empty.body };
    zeros = λ i l s. ap all_zero (zeros_clock t clock i n) ∙ was.zeros i l (λ z. s (serial_clock t clock i ∙ z));
    distinct = λ i j h g s e. was.distinct i j h g (λ z. s (serial_clock t clock i ∙ z)) (sym (serial_clock t clock i) ∙ e ∙ serial_clock t clock j);
    issued = λ i l. rw (serial_clock t clock i, last_clock t clock) (was.issued i l);
    fit = λ i l s. rw (last_clock t clock, place_clock t clock i n) (was.fit i l (λ z. s (serial_clock t clock i ∙ z)));
    dated = λ i l s. rw (latest_kept, place_clock t clock i n) (dated_later (latest_clock t) clock (place_at n t i) later (was.dated i l (λ z. s (serial_clock t clock i ∙ z))));
    replaced = λ i j h g s u e. rw (place_clock t clock j n, serial_clock t clock i)
        (was.replaced i j h g (λ z. s (serial_clock t clock i ∙ z)) (λ z. u (serial_clock t clock j ∙ z)) (rw (place_clock t clock i n, serial_clock t clock j) at e));
    replacement = λ i j h g s u e. rw (place_clock t clock j n, serial_clock t clock i)
        (was.replacement i j h g (λ z. s (serial_clock t clock i ∙ z)) (λ z. u (serial_clock t clock j ∙ z)) (rw (place_clock t clock i n, serial_clock t clock j) at e));
    named = λ i j h g s e. was.named i j h g (ap is_named (sym (name_clock t clock i n)) ∙ s) (sym (name_clock t clock i n) ∙ e ∙ name_clock t clock j n);
  }

  pub keeps_clock : Held n (with_clock t clock)
  keeps_clock = record { right = sound_of n (with_clock t clock) clock_facts; bytes = bytes_clock t clock held.bytes }

-- ---- a record whose dates move it

module _ (clock : ℕ) (r : Record) where
  abbrev cases : Dating clock r.activation r.deactivation r.state (state_by clock r)
  cases = dating clock r.activation r.deactivation r.state

  ripe_fit : (last : ℕ) → Fit last r → Fit last (ripened clock r)
  unfolding ripened
  ripe_fit last f =
      let moved = dated_cases_lem clock r.activation r.deactivation r.state in
      in_state_fit (state_by clock r) r.material r last
      (⊎_elim (λ e. rw e f.low) (⊎_elim (λ e. omega arith) (λ e. omega arith)) moved)
      (⊎_elim (λ e. rw e f.high) (⊎_elim (λ e. omega arith) (λ e. omega arith)) moved)
      f.tail
      (λ d. ⊎_elim (λ e. f.wiped (sym (ap is_destroyed e) ∙ d))
      (⊎_elim (λ e. absurd (false≢true (sym (ap is_destroyed e) ∙ d))) (λ e. absurd (false≢true (sym (ap is_destroyed e) ∙ d)))) moved)
      f

  ripe_started : Dated clock r → state_by clock r ≡ 2 → r.activation ≤ clock
  ripe_started h e = elim cases [
    | still a d same ↦ h.started (sym same ∙ e)
    | starts s a d now ↦ come_by clock r.activation a
    | stops s d now ↦ absurd (omega arith)
    | passes s a d now ↦ absurd (omega arith)
  ]

  ripe_dated : Dated clock r → Dated clock (ripened clock r)
  unfolding ripened in_state
  ripe_dated h = record { activation = h.activation; deactivation = h.deactivation; order = h.order; started = ripe_started h }

  ripe_stays : Stays (ripened clock r) r
  unfolding ripened
  ripe_stays = in_state_stays (state_by clock r) r.material r

  -- a key that is Active now has no deactivation date, or one that is still to come
  pub ripe_open : state_by clock r ≡ active → (r.deactivation ≡ 0) ⊎ (clock < r.deactivation)
  ripe_open e = elim cases [
    | still a d same ↦ not_come clock r.deactivation (d (sym same ∙ e))
    | starts s a d now ↦ not_come clock r.deactivation d
    | stops s d now ↦ absurd (omega arith)
    | passes s a d now ↦ absurd (omega arith)
  ]

-- ---- one place

module _ (n clock : ℕ) (t : List ℕ) (held : Held n t) (counted : latest_clock t ≡ clock) (i : ℕ) (lo : i < n) where
  -- what is due is due where a record stands
  ripe_stands : is_ripe n clock t i ≡ true → Stands t i
  unfolding is_ripe
  ripe_stands e = eqb-false (serial_at t i) 0 (not-true (is_free t i) (and_l (not (is_free t i)) _ e))

  keeps_ripe : Held n (ripe_at n clock t i)
  unfolding ripe_at
  keeps_ripe = on_if (Held n) (λ e.
      let stands : Stands t i = ripe_stands e in
      let r : Record = place_at n t i in
      edited n t held i lo stands (ripened clock r) (ripe_range clock r (range n t held i lo stands)) (ripe_fit clock r (last_serial t) (fit n t held i lo stands))
      (rw counted (ripe_dated clock r (rw counted at (dated n t held i lo stands)))) (ripe_stays clock r))
      (λ e. held)

  touches : Touched n clock t (ripe_at n clock t i) i
  touches =
      let was = facts n t held in
      touched n clock t i was.size lo (place_range n t i was.size lo held.bytes) (λ f.
      let empty = was.free i lo (eqb-true (serial_at t i) 0 f) in
      ap (λ (r : Record). r.state) (zero_place n t i was.size lo empty.line empty.body))

-- ---- the k places from i on

pub record Swept (n clock i k : ℕ) (t u : List ℕ) : Type 0 where
  pub held : Held n u
  pub issued : last_serial u ≡ last_serial t
  pub latest : latest_clock u ≡ latest_clock t
  pub done : (j : ℕ) → i ≤ j → j < i + k → place_at n u j ≡ ripened clock (place_at n t j)
  pub others : (j : ℕ) → j < n → (j < i) ⊎ (i + k ≤ j) → place_at n u j ≡ place_at n t j

module _ (n clock : ℕ) where
  swept : (k i : ℕ) (t : List ℕ) → Held n t → latest_clock t ≡ clock → i + k ≤ n → Swept n clock i k t (ripe_from n clock i k t)
  unfolding ripe_from
  swept zero i t held counted within = record {
    held = held;
    issued = refl;
    latest = refl;
    done = λ j l h. absurd (omega arith);
    others = λ j l h. refl;
  }
  swept (suc k) i t held counted within =
      let lo : i < n = omega arith in
      let first = touches n clock t held counted i lo in
      let rest = swept k (suc i) (ripe_at n clock t i) (keeps_ripe n clock t held counted i lo) (first.latest ∙ counted) (omega arith) in
      record {
        held = rest.held;
        issued = rest.issued ∙ first.issued;
        latest = rest.latest ∙ first.latest;
        done = λ j l h. elim (ℕ_discrete j i) [
          | yes e ↦ rw e (rest.others i lo (inl (omega arith)) ∙ first.here)
          | no ne ↦ rest.done j (omega arith) (omega arith) ∙ ap (ripened clock) (first.others j (omega arith) ne)
        ];
        others = λ j l h. rest.others j l (⊎_elim (λ a. inl (omega arith)) (λ b. inr (omega arith)) h)
            ∙ first.others j l (λ e. ⊎_elim (λ a. omega arith) (λ b. omega arith) h);
      }

-- ---- the table that the first item meets

module _ (n : ℕ) (t : List ℕ) (held : Held n t) (clock : ℕ) (later : latest_clock t ≤ clock) (fits : clock < 2 ^ 63) where
  swept_all : Swept n clock 0 n (with_clock t clock) (began n clock t)
  unfolding began
  swept_all = swept n clock n 0 (with_clock t clock) (keeps_clock n t held clock later fits) (latest_kept n t held clock later fits) (omega arith)

  pub keeps_began : Held n (began n clock t)
  keeps_began = swept_all.held

  pub began_last : last_serial (began n clock t) ≡ last_serial t
  began_last = swept_all.issued ∙ last_clock t clock

  pub began_latest : latest_clock (began n clock t) ≡ clock
  began_latest = swept_all.latest ∙ latest_kept n t held clock later fits

  pub began_places : (i : ℕ) → i < n → place_at n (began n clock t) i ≡ ripened clock (place_at n t i)
  began_places i lo = swept_all.done i (omega arith) (omega arith) ∙ ap (ripened clock) (place_clock t clock i n)
