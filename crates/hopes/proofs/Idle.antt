-- A key past its deactivation date is granted nothing in a call, whatever its items ask: by the log alone.
-- Assumes nothing.
use Prim.Native.Nat.{ℕ, ◌+◌, ◌*◌, ◌^◌, ◌≤◌, ◌<◌}
use native.Mathlib.Omega.{arith}
use native.Mathlib.Decide.{ℕ_discrete}
use mathlib.Core.Path.{◌≡◌, refl, sym, ap, subst, ◌∙◌}
use mathlib.Core.Logic.{⊎_elim}
use mathlib.Core.Bool.{true}
use mathlib.Core.List.{List, [], ◌∷◌}
use lib.ListN.{length}
use Rattle.octets.specs.If.{ifb}
use Rattle.octets.specs.Octets.{Bytes}
use Rattle.octets.proofs.If.{on_if}
use Rattle.octets.proofs.Bools.{not_both}
use Rattle.table.specs.declared.Record.{Record}
use Rattle.table.specs.Layout.{material_size}
use Rattle.table.specs.Records.{place_at, serial_at, last_serial, latest_clock}
use Rattle.table.proofs.Places.{serial_is}
use Rattle.search.proofs.Finds.{find_below}
use Rattle.rules.specs.Numbers.{active}
use Rattle.rules.proofs.Moves.{move}
use Rattle.date_rules.specs.Dates.{has_come}
use Rattle.date_rules.proofs.Dating.{still, starts, stops, passes, dating}
use Rattle.changes.specs.Records.{in_state, with_dates, moved_to, with_count}
use Rattle.heirs.specs.Heirs.{heir_dated, heir_of, linked_to}
use Rattle.new_records.specs.New.{new_record}
use Rattle.changes.specs.Dates.{ripened, began}
use Rattle.keeps.proofs.Stores.{Stored, other}
use Rattle.keeps.proofs.Keeps.{Held, facts, found_stands}
use Rattle.keeps.proofs.Leaves.{moved_leaves, count_leaves, born_leaves, heir_leaves}
use Rattle.keeps.proofs.Moved.{moved_idle}
use Rattle.keeps.proofs.Dates.{began_last, began_places}
use Rattle.batch_item.specs.Item.{Asked}
use Rattle.payload.specs.declared.Command.{Command}
use Rattle.payload.specs.Payload.{command}
use Rattle.plans.specs.Plans.{Env, Did, create_plan, rekey_plan, env_at, locate_plan}
use Rattle.act.specs.Act.{sought, step}
use Rattle.act.proofs.Went.{Kind, fails, creates, rekeys, grants, moves, shows, gets, locates, step_kind}
use Rattle.batch.specs.Batch.{Ran, answer_to, lastly, firstly, ends_batch, batch}
use Rattle.batch_keeps.proofs.Commands.{Commanded, commanded}
use Rattle.batch_keeps.proofs.Steps.{step_held, step_latest}
use Rattle.batch_keeps.proofs.Batches.{own_bytes, own_long}
use Rattle.demands.specs.Log.{Event, paired, onto, grant_by, granted}
use Rattle.demands_met.proofs.Counted.{create_allowed, kind_counts}
use Rattle.demands_met.proofs.Logged.{granted_more}
use Rattle.demands_met.proofs.Paired.{paired_end}
use Rattle.hopes.proofs.Firm.{kind_paid}

-- ---- one record

-- not Active, and past its deactivation date
abbrev pub Idle : ℕ → Record → Type 0
Idle clock r = (r.state ≡ active → ⊥) × (has_come clock r.deactivation ≡ true)

-- what dates make of a key that is past its deactivation date
ripe_idle : (clock : ℕ) (r : Record) → has_come clock r.deactivation ≡ true → Idle clock (ripened clock r)
unfolding ripened in_state
ripe_idle clock r come = (not_active, come)
  where
    not_active : (ripened clock r).state ≡ active → ⊥
    not_active e = elim (dating clock r.activation r.deactivation r.state) [
      | still a d same ↦ not_both _ come (d (sym same ∙ e))
      | starts s a d now ↦ not_both _ come d
      | stops s d now ↦ omega arith
      | passes s a d now ↦ omega arith
    ]

-- ---- the table

-- x was issued, and wherever it stands it is idle
pub record IdleIn (n : ℕ) (clock x : ℕ) (t : List ℕ) : Type 0 where
  pub issued : x ≤ last_serial t
  pub idle : (i : ℕ) → i < n → (place_at n t i).serial ≡ x → Idle clock (place_at n t i)

-- ---- one item

module _ {n : ℕ} (strip : List ℕ) (k holder : ℕ) (t : List ℕ) (asked : Asked) (held : Held n t) (fresh_bytes : Bytes (env_at n strip k).fresh) (x : ℕ) (q : IdleIn n (latest_clock t) x t) where
  abbrev env : Env
  env = env_at n strip k

  abbrev clock : ℕ
  clock = latest_clock t

  -- what stands in for x in a table after the item
  abbrev Still : Record → Type 0
  Still r = r.serial ≡ x → Idle clock r

  -- a new identifier is not x
  not_new : {A : Type 0} {serial : ℕ} → serial ≡ last_serial t + 1 → serial ≡ x → A
  not_new new e = absurd (omega (arith, q.issued, new, e))

  stored_still : {place last : ℕ} {r : Record} {u : List ℕ} → Stored n t place r last u → Still r → (i : ℕ) → i < n → Still (place_at n u i)
  stored_still {place} {last} {r} {u} st here i low = elim (ℕ_discrete i place) [
    | yes e ↦ subst Still (sym (ap (place_at n u) e ∙ st.here)) here
    | no e ↦ subst Still (sym (other n t place r last u st i low e)) (q.idle i low)
  ]

  kind_still : {operation : ℕ} (c : Command) (did : Did) → Kind env holder t c did → Commanded operation c → (i : ℕ) → i < n → Still (place_at n did.table i)
  unfolding create_plan rekey_plan locate_plan new_record heir_of heir_dated linked_to with_count moved_to with_dates in_state
  kind_still c did (fails reason) m i low = q.idle i low
  kind_still c did (shows target place e) m i low = q.idle i low
  kind_still c did (gets target place e live) m i low = q.idle i low
  kind_still c did (locates name) m i low = q.idle i low
  kind_still c did (creates wanted free room) m i low =
      stored_still (born_leaves n t held room env.fresh fresh_bytes wanted (create_allowed m)).stored (λ z. not_new refl z) i low
  kind_still c did (rekeys target offset place e alive single right room) m i low =
      let s = sought holder target in
      let b = heir_leaves n t held room env.fresh fresh_bytes offset place (find_below n t s place e) (found_stands n t s place e) alive right in
      elim (ℕ_discrete i b.place) [
        | yes new ↦ subst Still (sym (ap (place_at n did.table) new ∙ b.new)) (λ z. not_new refl z)
        | no new ↦ elim (ℕ_discrete i place) [
          | yes old ↦ subst Still (sym (ap (place_at n did.table) old ∙ b.old)) (q.idle place (find_below n t s place e))
          | no old ↦ subst Still (sym (b.others i low new old)) (q.idle i low)
        ]
      ]
  kind_still c did (grants target amount place e g) m i low =
      let s = sought holder target in
      stored_still (count_leaves n t held place (find_below n t s place e) (found_stands n t s place e) amount _ g) (q.idle place (find_below n t s place e)) i low
  kind_still c did (moves {operation = op} {code} {target} v place next e late g) m i low =
      let s = sought holder target in
      let r : Record = place_at n t place in
      stored_still (moved_leaves n t held place (find_below n t s place e) (found_stands n t s place e) op code next g)
      (λ z. let was = q.idle place (find_below n t s place e) z in moved_idle op code clock next r (move op code r.state next g) late was.1 was.0) i low

  abbrev did : Did
  did = step env holder t asked

  abbrev c : Command
  c = command asked.operation asked.payload

  step_idle : IdleIn n clock x did.table
  step_idle =
      let m = commanded asked.operation asked.payload in
      let counts = kind_counts env holder t held fresh_bytes c did (step_kind env holder t asked) m in
      record {
        issued = ⊎_elim (λ p. omega (arith, q.issued, p.1)) (λ p. omega (arith, q.issued, p.1)) counts.counted.issued;
        idle = λ i low e. kind_still c did (step_kind env holder t asked) m i low e;
      }

  -- it is granted nothing
  step_nothing : grant_by x c did.outcome ≡ 0
  step_nothing = elim (ℕ_discrete (grant_by x c did.outcome) 0) [
    | yes e ↦ e
    | no h ↦ (let p = kind_paid env holder t held fresh_bytes c did (step_kind env holder t asked) x h in absurd ((q.idle p.place p.below p.serial).0 p.usable))
  ]

-- ---- a batch

module _ (n : ℕ) (strip : List ℕ) (option : ℕ) (strip_bytes : Bytes strip) (x : ℕ) where
  -- what a batch adds to the units of x
  abbrev Claim : ℕ → List Asked → List Event → Ran → Type 0
  Claim held items log ran = granted x (onto (paired held items ran.answers) log) ≡ granted x log

  pub batch_nothing : (items : List Asked) (i holder held : ℕ) (t : List ℕ) (log : List Event) → material_size * (i + length items) ≤ length strip → Held n t → IdleIn n (latest_clock t) x t
      → Claim held items log (batch n strip option i holder t items)
  unfolding batch paired onto
  batch_nothing [] i holder held t log l h q = refl
  batch_nothing (asked ∷ later) i holder held t log l h q =
      let env = env_at n strip i in
      let fresh = own_bytes n strip option strip_bytes i (omega arith) in
      let long = own_long n strip option strip_bytes i (omega arith) in
      let same = step_latest env holder t h fresh long asked in
      turn (step env holder t asked) (step_nothing strip i holder t asked h fresh x q)
      (λ next log. batch_nothing later (i + 1) (step env holder t asked).holder next (step env holder t asked).table log (omega arith)
      (step_held env holder t h fresh long asked) (subst (λ (clock : ℕ). IdleIn n clock x (step env holder t asked).table) (sym same) (step_idle strip i holder t asked h fresh x q)))
    where
      more : (did : Did) → grant_by x (command asked.operation asked.payload) did.outcome ≡ 0
          → granted x (record { held = held; asked = asked; answer = answer_to asked did } ∷ log) ≡ granted x log
      more did z = omega (arith, granted_more x (record { held = held; asked = asked; answer = answer_to asked did }) log, z)

      turn : (did : Did) → grant_by x (command asked.operation asked.payload) did.outcome ≡ 0
          → ((next : ℕ) (log : List Event) → Claim next later log (batch n strip option (i + 1) did.holder did.table later))
          → Claim held (asked ∷ later) log
          (ifb (ends_batch option did) (lastly (answer_to asked did) did.table) (firstly (answer_to asked did) (batch n strip option (i + 1) did.holder did.table later)))
      turn did z rest =
          on_if (Claim held (asked ∷ later) log)
          (λ e. ap (λ (evs : List Event). granted x (onto evs (record { held = held; asked = asked; answer = answer_to asked did } ∷ log))) (paired_end _ later) ∙ more did z)
          (λ e. rest _ _ ∙ more did z)

-- ---- what a call begins with

module _ {n : ℕ} (t : List ℕ) (held : Held n t) (clock : ℕ) (later : latest_clock t ≤ clock) (fits : clock < 2 ^ 63) (x i : ℕ) (z : x ≡ 0 → ⊥) (low : i < n) (serial : serial_at t i ≡ x)
    (come : has_come clock (place_at n t i).deactivation ≡ true) where
  pub began_idle : IdleIn n clock x (began n clock t)
  unfolding ripened in_state
  began_idle = record {
    issued = omega (arith, began_last n t held clock later fits, (facts n t held).issued i low, serial);
    idle = λ j l e.
        let place = began_places n t held clock later fits j l in
        let there : serial_at t j ≡ x = serial_is n t j ∙ sym (ap (λ (r : Record). r.serial) place) ∙ e in
        let same : i ≡ j = (facts n t held).distinct i j low l (λ k. z (sym serial ∙ k)) (serial ∙ sym there) in
        subst (Idle clock) (sym place) (ripe_idle clock (place_at n t j) (subst (λ (k : ℕ). has_come clock (place_at n t k).deactivation ≡ true) same come));
  }
