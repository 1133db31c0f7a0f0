-- How an accepted call opens: what is due by the clock that counts is done, by the listed changes alone, and the books stay in order.
-- Assumes nothing.
use Prim.Native.Nat.{ℕ, ◌^◌, ◌≤◌, ◌<◌}
use mathlib.Core.Path.{◌≡◌, refl, sym, ap, subst, ◌∙◌}
use mathlib.Core.Logic.{inr}
use mathlib.Core.Bool.{Bool, true, ◌&&◌, ◌||◌, false≢true}
use mathlib.Core.List.{List}
use lib.Dec.{eqb}
use borrow.Author.Tests.{eq-eqb}
use Rattle.octets.proofs.Bools.{and_i, or_l, or_r}
use Rattle.table.specs.declared.Record.{Record}
use Rattle.table.specs.Records.{place_at, serial_at, latest_clock}
use Rattle.table.proofs.Places.{serial_is}
use Rattle.search.specs.Search.{is_destroyed}
use Rattle.date_rules.specs.Dates.{has_come}
use Rattle.date_rules.proofs.Dating.{Dating, still, starts, stops, passes, dating}
use Rattle.changes.specs.Records.{in_state}
use Rattle.changes.specs.Dates.{state_by, ripened, began}
use Rattle.keeps.proofs.Keeps.{Held}
use Rattle.keeps.proofs.Dates.{keeps_began, began_last, began_latest, began_places}
use Rattle.demands.specs.Log.{Event}
use Rattle.demands.specs.Demand3.{listed_by, DueOnly}
use Rattle.demands_met.proofs.Logged.{Balanced, Inv}
use Rattle.demands_met.proofs.Dead.{Dead}
use Rattle.demands_met.proofs.Paired.{Books}

-- ---- one record

module _ (clock : ℕ) (r : Record) where
  abbrev cases : Dating clock r.activation r.deactivation r.state (state_by clock r)
  cases = dating clock r.activation r.deactivation r.state

  -- a state that dates change, they change as listed
  ripe_listed : (state_by clock r ≡ r.state → ⊥) → listed_by clock r (state_by clock r) ≡ true
  unfolding listed_by
  ripe_listed moved =
      let one : Bool = eqb r.state 1 && has_come clock r.activation && eqb (state_by clock r) 2 in
      let two : Bool = eqb r.state 2 && has_come clock r.deactivation && eqb (state_by clock r) 3 in
      let both_dates : Bool = eqb r.state 1 && has_come clock r.activation && has_come clock r.deactivation in
      elim cases [
        | still a d same ↦ absurd (moved same)
        | starts s a d now ↦ or_l (one || two) _ (or_l one _ (and_i _ _ (and_i _ _ (eq-eqb r.state 1 s) a) (eq-eqb (state_by clock r) 2 now)))
        | stops s d now ↦ or_l (one || two) _ (or_r one two (and_i _ _ (and_i _ _ (eq-eqb r.state 2 s) d) (eq-eqb (state_by clock r) 3 now)))
        | passes s a d now ↦ or_r (one || two) _ (and_i both_dates _ (and_i _ _ (and_i _ _ (eq-eqb r.state 1 s) a) d) (eq-eqb (state_by clock r) 3 now))
      ]

  -- what is destroyed stays so
  ripe_destroyed : is_destroyed r.state ≡ true → is_destroyed (state_by clock r) ≡ true
  ripe_destroyed e = elim cases [
    | still a d same ↦ ap is_destroyed same ∙ e
    | starts s a d now ↦ absurd (false≢true (sym (ap is_destroyed s) ∙ e))
    | stops s d now ↦ absurd (false≢true (sym (ap is_destroyed s) ∙ e))
    | passes s a d now ↦ absurd (false≢true (sym (ap is_destroyed s) ∙ e))
  ]

  ripe_balanced : (log : List Event) → Balanced log r → Balanced log (ripened clock r)
  unfolding ripened in_state
  ripe_balanced log b = record { count = b.count; total = b.total; once = b.once }

-- ---- the table

module _ {n : ℕ} (t : List ℕ) (held : Held n t) (clock : ℕ) (later : latest_clock t ≤ clock) (fits : clock < 2 ^ 63) where
  abbrev start : List ℕ
  start = began n clock t

  place : (i : ℕ) → i < n → place_at n start i ≡ ripened clock (place_at n t i)
  place = began_places n t held clock later fits

  -- identifiers stay in their places
  serial_stays : (i : ℕ) → i < n → serial_at start i ≡ serial_at t i
  unfolding ripened in_state
  serial_stays i low = serial_is n start i ∙ ap (λ (r : Record). r.serial) (place i low) ∙ sym (serial_is n t i)

  pub due_only : DueOnly n clock t start
  unfolding ripened in_state
  due_only = record {
    latest = inr (began_latest n t held clock later fits);
    issued = began_last n t held clock later fits;
    moves = λ i low other. subst (λ (r : Record). (r.state ≡ (place_at n t i).state → ⊥) → listed_by clock (place_at n t i) r.state ≡ true) (sym (place i low)) (ripe_moves i) other;
    others = λ i low. subst (λ (r : Record). r ≡ in_state r.state (place_at n t i).material (place_at n t i)) (sym (place i low)) (ripe_others i);
  }
    where
      ripe_moves : (i : ℕ) → ((ripened clock (place_at n t i)).state ≡ (place_at n t i).state → ⊥) → listed_by clock (place_at n t i) (ripened clock (place_at n t i)).state ≡ true
      ripe_moves i moved = ripe_listed clock (place_at n t i) moved

      ripe_others : (i : ℕ) → ripened clock (place_at n t i) ≡ in_state (ripened clock (place_at n t i)).state (place_at n t i).material (place_at n t i)
      ripe_others i = refl

  module _ (log : List Event) where
    inv_began : Inv n log t → Inv n log start
    unfolding ripened in_state
    inv_began inv = record {
      held = keeps_began n t held clock later fits;
      balanced = λ i low z. subst (Balanced log) (sym (place i low))
          (ripe_balanced clock (place_at n t i) log (inv.balanced i low (λ k. z (ap (λ (r : Record). r.serial) (place i low) ∙ k))));
      within = inv.within;
      once = inv.once;
      later = λ x l. inv.later x (subst (λ (k : ℕ). k < x) (began_last n t held clock later fits) l);
    }

    dead_began : Dead n log t → Dead n log start
    unfolding ripened in_state
    dead_began d = record {
      states = λ x i z s w. subst (λ (r : Record). is_destroyed r.state ≡ true) (sym (place i s.below))
          (ripe_state i (d.states x i z (record { below = s.below; serial = sym (serial_stays i s.below) ∙ s.serial }) w));
      known = d.known;
      silent = d.silent;
    }
      where
        ripe_state : (i : ℕ) → is_destroyed (place_at n t i).state ≡ true → is_destroyed (ripened clock (place_at n t i)).state ≡ true
        ripe_state i e = ripe_destroyed clock (place_at n t i) e

    -- the books stay in order
    pub books_began : Books n log t → Books n log start
    books_began b = record { inv = inv_began b.inv; dead = dead_began b.dead }
