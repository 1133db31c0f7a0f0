-- The log of a batch: the events read from the bytes are the items with their answers, each goes a tame step, and the invariant holds behind it.
-- Assumes nothing.
use Rattle.std.specs.Prelude.{Option}
use Prim.Native.Nat.{ℕ, ◌+◌, ◌*◌, ◌≤◌}
use native.Mathlib.Omega.{arith}
use mathlib.Core.Path.{◌≡◌, refl, sym, subst, ◌∙◌}
use mathlib.Core.List.{List, [], ◌∷◌}
use lib.ListN.{length}
use lib.Dec.{eqb}
use borrow.Author.Tests.{eq-eqb, ne_eqb}
use Rattle.octets.specs.If.{ifb}
use Rattle.octets.specs.Octets.{Bytes}
use Rattle.octets.proofs.If.{ifb_true, ifb_false, on_if}
use Rattle.table.specs.Layout.{material_size}
use Rattle.rules.specs.Numbers.{rekey, get_usage_allocation, activate, revoke, destroy}
use Rattle.batch_item.specs.Item.{Asked}
use Rattle.target_read.specs.declared.Target.{Target}
use Rattle.payload.specs.declared.Command.{Command}
use Rattle.payload.specs.declared.Command.TheVariants.{Rekey, GetUsageAllocation}
use Rattle.plans.specs.Plans.{Env, Did, env_at, create_plan, rekey_plan, locate_plan}
use Rattle.act.specs.Act.{step}
use Rattle.act.proofs.Went.{Moving, activating, revoking, destroying, Kind, fails, creates, rekeys, grants, moves, shows, gets, locates, step_kind}
use Rattle.answer.specs.Respond.{Answer}
use Rattle.batch.specs.Batch.{Ran, answer_to, lastly, firstly, ends_batch, batch}
use Rattle.batch_keeps.proofs.Commands.{Commanded, to_rekey, to_allocate, to_activate, to_revoke, to_destroy, commanded}
use Rattle.batch_keeps.proofs.Steps.{step_held}
use Rattle.batch_keeps.proofs.Batches.{own_bytes, own_long}
use Rattle.demands.specs.Log.{Event, held_after, paired, onto}
use Rattle.demands.specs.Demand3.{Tame, Path, arrived, went}
use Rattle.demands_met.proofs.Counted.{kind_counts}
use Rattle.demands_met.proofs.Logged.{Inv, inv_event}
use Rattle.demands_met.proofs.Tame.{event_of, step_tame}
use Rattle.demands_met.proofs.Dead.{Dead, step_dead}
use Rattle.demands_met.proofs.Ordered.{inv_order}

-- ---- the placeholder

rekey_is : {operation : ℕ} {target : Target} {offset : Option ℕ} → Commanded operation (Rekey target offset) → operation ≡ rekey
rekey_is (to_rekey o) = o

allocation_not : {operation amount : ℕ} {target : Target} → Commanded operation (GetUsageAllocation target amount) → operation ≡ rekey → ⊥
allocation_not (to_allocate o) e = let z : get_usage_allocation ≡ rekey = sym o ∙ e in omega arith

move_not : {c : Command} {operation code o : ℕ} {target : Target} → Moving c operation code target → Commanded o c → o ≡ rekey → ⊥
move_not activating (to_activate o) e = let z : activate ≡ rekey = sym o ∙ e in omega arith
move_not revoking (to_revoke o) e = let z : revoke ≡ rekey = sym o ∙ e in omega arith
move_not destroying (to_destroy o) e = let z : destroy ≡ rekey = sym o ∙ e in omega arith

-- the placeholder that the answers set is the one that the item left
kind_holder : (env : Env) (holder : ℕ) (t : List ℕ) (a : Answer) (c : Command) (did : Did) → Kind env holder t c did → Commanded a.operation c → held_after holder a did.outcome ≡ did.holder
unfolding held_after create_plan rekey_plan locate_plan
kind_holder env holder t a c did (fails reason) m = refl
kind_holder env holder t a c did (creates wanted free room) m = refl
kind_holder env holder t a c did (rekeys target offset i e alive single right room) m = ifb_true (eqb a.operation rekey) _ holder (eq-eqb a.operation rekey (rekey_is m))
kind_holder env holder t a c did (grants target amount i e g) m = ifb_false (eqb a.operation rekey) _ holder (ne_eqb a.operation rekey (allocation_not m))
kind_holder env holder t a c did (moves v i next e late g) m = ifb_false (eqb a.operation rekey) _ holder (ne_eqb a.operation rekey (move_not v m))
kind_holder env holder t a c did (shows target i e) m = refl
kind_holder env holder t a c did (gets target i e live) m = refl
kind_holder env holder t a c did (locates name) m = refl

-- ---- a batch

-- no answer is left: no event
pub paired_end : (held : ℕ) (items : List Asked) → paired held items [] ≡ []
unfolding paired
paired_end held [] = refl
paired_end held (asked ∷ items) = refl

-- what holds of the log and the table between any two items: the counts, and the dead
pub record Books (n : ℕ) (log : List Event) (t : List ℕ) : Type 0 where
  pub inv : Inv n log t
  pub dead : Dead n log t

-- from a log and a table along events to a table: a path, and what holds behind it
pub record Travelled (n : ℕ) (log : List Event) (t : List ℕ) (events : List Event) (v : List ℕ) : Type 0 where
  pub path : Path n log t events v
  pub books : Books n (onto events log) v

-- nothing happened
pub stood : {n : ℕ} {log : List Event} {t : List ℕ} → Books n log t → Travelled n log t [] t
unfolding onto
stood b = record { path = arrived; books = b }

-- one item in front of the others
pub onward : {n : ℕ} {log events : List Event} {t v : List ℕ} (ev : Event) (u : List ℕ) → Tame n ev t u → Books n (ev ∷ log) u → Travelled n (ev ∷ log) u events v → Travelled n log t (ev ∷ events) v
unfolding onto
onward {n} {log} ev u tame b rest = record { path = went ev u tame (inv_order (ev ∷ log) u b.inv b.dead) rest.path; books = rest.books }

module _ (n : ℕ) (strip : List ℕ) (option : ℕ) (strip_bytes : Bytes strip) where
  -- one item keeps the invariant
  step_inv : (i holder : ℕ) (t : List ℕ) (asked : Asked) (log : List Event) → material_size * i + material_size ≤ length strip → Inv n log t
      → Inv n (event_of holder asked (step (env_at n strip i) holder t asked) ∷ log) (step (env_at n strip i) holder t asked).table
  step_inv i holder t asked log l inv =
      let env = env_at n strip i in
      let fresh = own_bytes n strip option strip_bytes i l in
      inv_event n log t inv (event_of holder asked (step env holder t asked)) (step env holder t asked) refl
      (kind_counts env holder t inv.held fresh _ _ (step_kind env holder t asked) (commanded asked.operation asked.payload))
      (step_held env holder t inv.held fresh (own_long n strip option strip_bytes i l) asked)

  -- and the dead stay so
  step_books : (i holder : ℕ) (t : List ℕ) (asked : Asked) (log : List Event) → material_size * i + material_size ≤ length strip → Books n log t
      → Tame n (event_of holder asked (step (env_at n strip i) holder t asked)) t (step (env_at n strip i) holder t asked).table
      → Books n (event_of holder asked (step (env_at n strip i) holder t asked) ∷ log) (step (env_at n strip i) holder t asked).table
  step_books i holder t asked log l b tame =
      let did = step (env_at n strip i) holder t asked in
      let after = step_inv i holder t asked log l b.inv in
      record {
        inv = after;
        dead = step_dead log t did.table (event_of holder asked did) tame b.inv.held.right (λ x j z s. (inv_order log t b.inv b.dead).known x j z s) after.once b.dead;
      }

  -- what is shown of a batch, with the log and the table before it
  abbrev Claim : List Event → List ℕ → ℕ → List Asked → Ran → Type 0
  Claim log t holder items ran = Travelled n log t (paired holder items ran.answers) ran.table

  -- a batch goes along its events
  pub batch_travels : (items : List Asked) (i holder : ℕ) (t : List ℕ) (log : List Event) → material_size * (i + length items) ≤ length strip → Books n log t
      → Claim log t holder items (batch n strip option i holder t items)
  unfolding batch paired
  batch_travels [] i holder t log l b = stood b
  batch_travels (asked ∷ later) i holder t log l b =
      turn (step (env_at n strip i) holder t asked)
      tame
      after
      (kind_holder (env_at n strip i) holder t (answer_to asked (step (env_at n strip i) holder t asked)) _ _ (step_kind (env_at n strip i) holder t asked) (commanded asked.operation asked.payload))
      (batch_travels later (i + 1) (step (env_at n strip i) holder t asked).holder (step (env_at n strip i) holder t asked).table
      (event_of holder asked (step (env_at n strip i) holder t asked) ∷ log) (omega arith) after)
    where
      tame : Tame n (event_of holder asked (step (env_at n strip i) holder t asked)) t (step (env_at n strip i) holder t asked).table
      tame = step_tame n strip i holder t asked b.inv.held (own_bytes n strip option strip_bytes i (omega arith)) (own_long n strip option strip_bytes i (omega arith))

      after : Books n (event_of holder asked (step (env_at n strip i) holder t asked) ∷ log) (step (env_at n strip i) holder t asked).table
      after = step_books i holder t asked log (omega arith) b tame

      turn : (did : Did) → Tame n (event_of holder asked did) t did.table → Books n (event_of holder asked did ∷ log) did.table → held_after holder (answer_to asked did) did.outcome ≡ did.holder
          → Claim (event_of holder asked did ∷ log) did.table did.holder later (batch n strip option (i + 1) did.holder did.table later)
          → Claim log t holder (asked ∷ later)
          (ifb (ends_batch option did) (lastly (answer_to asked did) did.table) (firstly (answer_to asked did) (batch n strip option (i + 1) did.holder did.table later)))
      turn did tame a e rest =
          on_if (Claim log t holder (asked ∷ later))
          (λ _. onward (event_of holder asked did) did.table tame a
          (subst (λ (evs : List Event). Travelled n (event_of holder asked did ∷ log) did.table evs did.table) (sym (paired_end _ later)) (stood a)))
          (λ _. onward (event_of holder asked did) did.table tame a
          (subst (λ (k : ℕ). Travelled n (event_of holder asked did ∷ log) did.table (paired k later (batch n strip option (i + 1) did.holder did.table later).answers)
          (batch n strip option (i + 1) did.holder did.table later).table) (sym e) rest))
