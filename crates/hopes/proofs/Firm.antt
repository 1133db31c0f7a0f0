-- An item of an accepted call, and what is due before it: Active keys stay in time, units go only to keys in time, and what is stopped stays so.
-- Assumes nothing.
use Prim.Native.Nat.{ℕ, ◌+◌, ◌≤◌, ◌<◌}
use native.Mathlib.Omega.{arith}
use native.Mathlib.Decide.{ℕ_discrete}
use mathlib.Core.Path.{◌≡◌, refl, sym, ap, subst, ◌∙◌}
use mathlib.Core.Logic.{◌⊎◌, ⊎_elim}
use mathlib.Core.Bool.{true, false, not, ◌&&◌, ◌||◌}
use mathlib.Core.List.{List}
use lib.ListN.{length}
use lib.Dec.{eqb}
use borrow.Author.Tests.{eqb-true, eqb-false, not-true}
use Rattle.octets.specs.Octets.{Bytes}
use Rattle.octets.proofs.If.{on_bool, ifb_false}
use Rattle.octets.proofs.Bools.{both, and_l}
use Rattle.table.specs.declared.Record.{Record}
use Rattle.table.specs.Layout.{material_size}
use Rattle.table.specs.Records.{place_at, serial_at, last_serial, latest_clock}
use Rattle.table.proofs.Places.{serial_is}
use Rattle.search.proofs.Finds.{find_below}
use Rattle.rules.specs.Numbers.{activate, revoke, destroy, pre_active, active}
use Rattle.rules.specs.States.{is_compromise}
use Rattle.rules.proofs.Moves.{move}
use Rattle.rules.proofs.Grants.{grant_is}
use Rattle.date_rules.proofs.Dating.{still, starts, stops, passes, dating}
use Rattle.changes.specs.Records.{in_state, with_count}
use Rattle.heirs.specs.Heirs.{heir_dated, heir_of, linked_to}
use Rattle.new_records.specs.New.{new_record}
use Rattle.changes.specs.Dates.{ripened}
use Rattle.heirs.proofs.Heirs.{first_open}
use Rattle.keeps.proofs.Stores.{Stored, other}
use Rattle.keeps.proofs.Keeps.{Held, found_stands}
use Rattle.keeps.proofs.Leaves.{moved_leaves, count_leaves, born_leaves, heir_leaves}
use Rattle.keeps.proofs.Moved.{moved_open}
use Rattle.keeps.proofs.Dates.{ripe_open}
use Rattle.batch_item.specs.Item.{Asked}
use Rattle.payload.specs.declared.Command.{Command}
use Rattle.payload.specs.Payload.{command}
use Rattle.plans.specs.Plans.{Env, Did, create_plan, rekey_plan, env_at, locate_plan}
use Rattle.act.specs.Act.{sought, step}
use Rattle.act.proofs.Went.{Kind, fails, creates, rekeys, grants, moves, shows, gets, locates, step_kind}
use Rattle.answer.proofs.Tests.{on_or}
use Rattle.batch_keeps.proofs.Commands.{Commanded, commanded}
use Rattle.demands.specs.Box.{Call, places_of, counted}
use Rattle.demands.specs.Log.{issued_by, grant_by}
use Rattle.demands.specs.Demand2.{Begins}
use Rattle.demands.specs.Demand3.{Stands, takes, listed, Tame}
use Rattle.hopes.specs.Hope.{InTime, Spends, Stopped}
use Rattle.demands_met.proofs.Counted.{no_grant, move_grants, create_allowed, Counts, kind_counts}
use Rattle.demands_met.proofs.Tame.{event_of, step_tame}

-- ---- in time

-- a record that is in time if it is Active
abbrev Open : ℕ → Record → Type 0
Open clock r = r.state ≡ active → (r.deactivation ≡ 0) ⊎ (clock < r.deactivation)

-- a state that is Pre-Active is not Active
not_yet : {A : Type 0} {state : ℕ} → state ≡ pre_active → state ≡ active → A
not_yet s e = absurd (omega arith)

module _ (env : Env) (holder : ℕ) (t : List ℕ) (held : Held env.places t) (fresh_bytes : Bytes env.fresh) where
  abbrev n : ℕ
  n = env.places

  -- one record stored anew, which is in time, among others that are
  stored_open : {clock k last : ℕ} {r : Record} {u : List ℕ} → Stored n t k r last u → Open clock r → ((i : ℕ) → i < n → Open clock (place_at n t i)) → (i : ℕ) → i < n → Open clock (place_at n u i)
  stored_open {clock} {k} {last} {r} {u} st new before i low = elim (ℕ_discrete i k) [
    | yes q ↦ subst (Open clock) (sym (ap (place_at n u) q ∙ st.here)) new
    | no q ↦ subst (Open clock) (sym (other n t k r last u st i low q)) (before i low)
  ]

  kind_open : {operation : ℕ} (c : Command) (did : Did) → Kind env holder t c did → Commanded operation c
      → ((i : ℕ) → i < n → Open (latest_clock t) (place_at n t i)) → (i : ℕ) → i < n → Open (latest_clock t) (place_at n did.table i)
  unfolding create_plan rekey_plan locate_plan new_record heir_of heir_dated linked_to with_count
  kind_open c did (fails reason) m before i low = before i low
  kind_open c did (shows target k e) m before i low = before i low
  kind_open c did (gets target k e live) m before i low = before i low
  kind_open c did (locates name) m before i low = before i low
  kind_open c did (creates wanted free room) m before i low =
      stored_open (born_leaves n t held room env.fresh fresh_bytes wanted (create_allowed m)).stored (λ a. not_yet refl a) before i low
  kind_open c did (rekeys target offset k e alive single right room) m before i low =
      let x = sought holder target in
      let b = heir_leaves n t held room env.fresh fresh_bytes offset k (find_below n t x k e) (found_stands n t x k e) alive right in
      elim (ℕ_discrete i b.place) [
        | yes q ↦ subst (Open (latest_clock t)) (sym (ap (place_at n did.table) q ∙ b.new)) (first_open (latest_clock t) _ _)
        | no q ↦ elim (ℕ_discrete i k) [
          | yes p ↦ subst (Open (latest_clock t)) (sym (ap (place_at n did.table) p ∙ b.old)) (before k (find_below n t x k e))
          | no p ↦ subst (Open (latest_clock t)) (sym (b.others i low q p)) (before i low)
        ]
      ]
  kind_open c did (grants target amount k e g) m before i low =
      let x = sought holder target in
      stored_open (count_leaves n t held k (find_below n t x k e) (found_stands n t x k e) amount _ g) (before k (find_below n t x k e)) before i low
  kind_open c did (moves {operation = op} {code} {target} v k next e late g) m before i low =
      let x = sought holder target in
      stored_open (moved_leaves n t held k (find_below n t x k e) (found_stands n t x k e) op code next g)
      (moved_open op code (latest_clock t) next (place_at n t k) (move op code (place_at n t k).state next g) late) before i low

  -- units go to an Active key
  pub record Paid (x : ℕ) : Type 0 where
    pub place : ℕ
    pub below : place < n
    pub serial : (place_at n t place).serial ≡ x
    pub usable : (place_at n t place).state ≡ active

  pub kind_paid : (c : Command) (did : Did) → Kind env holder t c did → (x : ℕ) → (grant_by x c did.outcome ≡ 0 → ⊥) → Paid x
  unfolding create_plan rekey_plan locate_plan grant_by with_count
  kind_paid c did (fails reason) x h = absurd (h (no_grant x c reason))
  kind_paid c did (creates wanted free room) x h = absurd (h refl)
  kind_paid c did (rekeys target offset k e alive single right room) x h = absurd (h refl)
  kind_paid c did (grants target amount k e g) x h = record {
    place = k;
    below = find_below n t (sought holder target) k e;
    serial = on_bool (eqb (place_at n t k).serial x) (λ q. eqb-true (place_at n t k).serial x q) (λ q. absurd (h (ifb_false _ amount 0 q)));
    usable = (grant_is (place_at n t k).state (place_at n t k).unit (place_at n t k).count amount _ g).usable;
  }
  kind_paid c did (moves v k next e late g) x h = absurd (h (move_grants v x did.outcome))
  kind_paid c did (shows target k e) x h = absurd (h refl)
  kind_paid c did (gets target k e live) x h = absurd (h refl)
  kind_paid c did (locates name) x h = absurd (h refl)

-- ---- stopped

-- no listed transition leads to Pre-Active, and only the one from Pre-Active leads to Active
listed_past : (operation code from to : ℕ) → listed operation code from to ≡ true → (from ≡ pre_active → ⊥) → (to ≡ pre_active → ⊥) × (to ≡ active → ⊥)
unfolding listed
listed_past operation code from to h new =
    let a = eqb operation activate && (eqb from 1 && eqb to 2) in
    let b = eqb operation revoke && is_compromise code && ((eqb from 1 && eqb to 4) || (eqb from 2 && eqb to 4) || (eqb from 3 && eqb to 4) || (eqb from 5 && eqb to 6)) in
    let c = eqb operation revoke && not (is_compromise code) && (eqb from 2 && eqb to 3) in
    let d = eqb operation destroy && ((eqb from 1 && eqb to 5) || (eqb from 3 && eqb to 5) || (eqb from 4 && eqb to 6)) in
    on_or (a || b || c) d h
    (λ g. on_or (a || b) c g
    (λ k. on_or a b k
    (λ z. absurd (new (eqb-true from 1 (and_l (eqb from 1) (eqb to 2) (both (eqb operation activate) _ z).1))))
    (λ z. four (both (eqb operation revoke && is_compromise code) _ z).1))
    (λ z. past 3 (both (eqb from 2) (eqb to 3) (both (eqb operation revoke && not (is_compromise code)) _ z).1).1 (omega arith)))
    (λ z. dead (both (eqb operation destroy) _ z).1)
  where
    past : (k : ℕ) → eqb to k ≡ true → 3 ≤ k → (to ≡ pre_active → ⊥) × (to ≡ active → ⊥)
    past k e l = let q : to ≡ k = eqb-true to k e in (λ z. omega arith, λ z. omega arith)

    four : ((eqb from 1 && eqb to 4) || (eqb from 2 && eqb to 4) || (eqb from 3 && eqb to 4) || (eqb from 5 && eqb to 6)) ≡ true → (to ≡ pre_active → ⊥) × (to ≡ active → ⊥)
    four h =
        on_or ((eqb from 1 && eqb to 4) || (eqb from 2 && eqb to 4) || (eqb from 3 && eqb to 4)) (eqb from 5 && eqb to 6) h
        (λ g. on_or ((eqb from 1 && eqb to 4) || (eqb from 2 && eqb to 4)) (eqb from 3 && eqb to 4) g
        (λ k. on_or (eqb from 1 && eqb to 4) (eqb from 2 && eqb to 4) k
        (λ z. past 4 (both (eqb from 1) (eqb to 4) z).1 (omega arith))
        (λ z. past 4 (both (eqb from 2) (eqb to 4) z).1 (omega arith)))
        (λ z. past 4 (both (eqb from 3) (eqb to 4) z).1 (omega arith)))
        (λ z. past 6 (both (eqb from 5) (eqb to 6) z).1 (omega arith))

    dead : ((eqb from 1 && eqb to 5) || (eqb from 3 && eqb to 5) || (eqb from 4 && eqb to 6)) ≡ true → (to ≡ pre_active → ⊥) × (to ≡ active → ⊥)
    dead h =
        on_or ((eqb from 1 && eqb to 5) || (eqb from 3 && eqb to 5)) (eqb from 4 && eqb to 6) h
        (λ g. on_or (eqb from 1 && eqb to 5) (eqb from 3 && eqb to 5) g
        (λ z. past 5 (both (eqb from 1) (eqb to 5) z).1 (omega arith))
        (λ z. past 5 (both (eqb from 3) (eqb to 5) z).1 (omega arith)))
        (λ z. past 6 (both (eqb from 4) (eqb to 6) z).1 (omega arith))

-- ---- one item

module _ {n : ℕ} (strip : List ℕ) (k holder : ℕ) (t : List ℕ) (asked : Asked) (held : Held n t) (fresh_bytes : Bytes (env_at n strip k).fresh)
    (long : material_size ≤ length (env_at n strip k).fresh) where
  abbrev env : Env
  env = env_at n strip k

  abbrev did : Did
  did = step env holder t asked

  abbrev c : Command
  c = command asked.operation asked.payload

  went : Kind env holder t c did
  went = step_kind env holder t asked

  pub step_in_time : InTime n (latest_clock t) t → InTime n (latest_clock t) did.table
  step_in_time before i low = kind_open env holder t held fresh_bytes c did went (commanded asked.operation asked.payload) before i low

  pub step_spends : InTime n (latest_clock t) t → (x : ℕ) → (grant_by x c did.outcome ≡ 0 → ⊥) → Spends n (latest_clock t) x t
  step_spends before x h =
      let p = kind_paid env holder t held fresh_bytes c did went x h in
      record {
        place = p.place;
        stands = record { below = p.below; serial = serial_is n t p.place ∙ p.serial };
        active = p.usable;
        in_time = before p.place p.below p.usable;
      }

  -- what is issued is new
  counts : Counts n t holder c did
  counts = kind_counts env holder t held fresh_bytes c did went (commanded asked.operation asked.payload)

  issued_later : last_serial t ≤ last_serial did.table
  issued_later = ⊎_elim (λ q. omega (arith, q.1)) (λ q. omega (arith, q.1)) counts.counted.issued

  issued_new : (issued_by c did.outcome ≡ 0 → ⊥) → issued_by c did.outcome ≡ last_serial t + 1
  issued_new h = ⊎_elim (λ q. absurd (h q.0)) (λ q. q.0) counts.counted.issued

  pub step_stopped : (x : ℕ) → Stopped n x t → Stopped n x did.table
  step_stopped x before = record { issued = omega (arith, before.issued, issued_later); past = λ i s. on_bool (takes n (event_of holder asked did) t i) (taken i s) (kept i s) }
    where
      tame : Tame n (event_of holder asked did) t did.table
      tame = step_tame n strip k holder t asked held fresh_bytes long

      taken : (i : ℕ) → Stands n x did.table i → takes n (event_of holder asked did) t i ≡ true → ((place_at n did.table i).state ≡ pre_active → ⊥) × ((place_at n did.table i).state ≡ active → ⊥)
      taken i s y =
          let new : issued_by c did.outcome ≡ 0 → ⊥ = eqb-false (issued_by c did.outcome) 0 (not-true _ (and_l (not (eqb (issued_by c did.outcome) 0)) _ y)) in
          absurd (omega (arith, before.issued, issued_new new, (tame.taken i s.below y).serial, s.serial))

      kept : (i : ℕ) → Stands n x did.table i → takes n (event_of holder asked did) t i ≡ false → ((place_at n did.table i).state ≡ pre_active → ⊥) × ((place_at n did.table i).state ≡ active → ⊥)
      kept i s miss =
          let was = before.past i (record { below = s.below; serial = sym (tame.kept i s.below miss) ∙ s.serial }) in
          elim (ℕ_discrete (place_at n did.table i).state (place_at n t i).state) [
            | yes same ↦ (λ e. was.0 (sym same ∙ e), λ e. was.1 (sym same ∙ e))
            | no moved ↦ listed_past _ _ _ _ (tame.moves i s.below miss moved).way was.0
          ]

-- ---- what is due before the first item

module _ (clock : ℕ) (r : Record) where
  ripened_open : Open clock (ripened clock r)
  unfolding ripened in_state
  ripened_open e = ripe_open clock r e

  ripened_serial : (ripened clock r).serial ≡ r.serial
  unfolding ripened in_state
  ripened_serial = refl

  ripened_past : (r.state ≡ pre_active → ⊥) × (r.state ≡ active → ⊥) → ((ripened clock r).state ≡ pre_active → ⊥) × ((ripened clock r).state ≡ active → ⊥)
  unfolding ripened in_state
  ripened_past was = elim (dating clock r.activation r.deactivation r.state) [
    | still a d same ↦ (λ e. was.0 (sym same ∙ e), λ e. was.1 (sym same ∙ e))
    | starts s a d now ↦ absurd (was.0 s)
    | stops s d now ↦ absurd (was.1 s)
    | passes s a d now ↦ absurd (was.0 s)
  ]

module _ (c : Call) (start : List ℕ) (b : Begins c start) where
  pub begins_in_time : InTime (places_of c) (counted c) start
  begins_in_time i low = subst (Open (counted c)) (sym (b.places i low)) (ripened_open (counted c) (place_at (places_of c) c.table i))

  pub begins_stopped : (x : ℕ) → Stopped (places_of c) x c.table → Stopped (places_of c) x start
  begins_stopped x before = record {
    issued = omega (arith, before.issued, b.issued);
    past = λ i s. subst (λ (r : Record). (r.state ≡ pre_active → ⊥) × (r.state ≡ active → ⊥)) (sym (b.places i s.below))
        (ripened_past (counted c) (place_at (places_of c) c.table i) (before.past i (record { below = s.below; serial = sym (stays i s) ∙ s.serial })));
  }
    where
      stays : (i : ℕ) → Stands (places_of c) x start i → serial_at start i ≡ serial_at c.table i
      stays i s = serial_is (places_of c) start i ∙ ap (λ (r : Record). r.serial) (b.places i s.below) ∙ ripened_serial (counted c) (place_at (places_of c) c.table i) ∙ sym (serial_is (places_of c) c.table i)
