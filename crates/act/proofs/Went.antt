-- How an item went, classified once: the only place where the plans and their tests are opened.
-- Assumes nothing.
use Rattle.std.specs.Prelude.{Ok}
use Prim.Native.Nat.{ℕ, ◌-◌}
use mathlib.Core.Path.{◌≡◌, refl, ap}
use mathlib.Core.Bool.{false}
use Rattle.std.specs.Prelude.{Option, None, Some}
use mathlib.Core.List.{List}
use borrow.Author.Tests.{eqb-true, not-false}
use Rattle.octets.specs.If.{ifb}
use Rattle.octets.proofs.If.{on_if}
use Rattle.table.specs.declared.Record.{Record}
use Rattle.table.specs.Records.{place_at, latest_clock}
use Rattle.search.specs.Search.{find, is_destroyed}
use Rattle.names.specs.declared.Name.{Name}
use Rattle.name_search.specs.Names.{is_taken}
use Rattle.rules.specs.declared.Reason.{Reason}
use Rattle.rules.specs.declared.Reason.TheVariants.{OperationNotSupported, InvalidField, ObjectNotFound, ObjectDestroyed, PermissionDenied, ServerLimitExceeded, WrongKeyLifecycleState, NonUniqueName}
use Rattle.rules.specs.declared.Attributes.{Attributes}
use Rattle.rules.specs.Numbers.{activate, revoke, destroy}
use Rattle.rules.specs.Tests.{due}
use Rattle.rules.specs.States.{activate_tests, revoke_tests, destroy_tests, move_tests, moved_state, next_unless, next_state, grant_tests, left_unless, granting}
use Rattle.date_rules.specs.Dates.{is_late}
use Rattle.changes.specs.Records.{moved_to, with_count}
use Rattle.heirs.specs.Heirs.{offset_wrong}
use Rattle.changes.specs.Changes.{is_full}
use Rattle.batch_item.specs.Item.{Asked}
use Rattle.target_read.specs.declared.Target.{Target}
use Rattle.payload.specs.declared.Command.{Command}
use Rattle.payload.specs.declared.Command.TheVariants.{Unsupported, Invalid, Create, Rekey, GetUsageAllocation, Activate, Revoke, Destroy, GetAttributes, Get, Locate}
use Rattle.payload.specs.Payload.{command}
use Rattle.plans.specs.declared.Outcome.TheVariants.{Showed, Got}
use Rattle.plans.specs.Plans.{Env, Did, Plan, failing, carried, create_plan, rekey_plan, changed, allocation_plan, activate_plan, revoke_plan, destroy_plan, shown_of, key_of, show_plan, get_plan, locate_plan}
use Rattle.act.specs.Act.{sought, on_found, plan, step}

-- a command that moves a state: its operation, its revocation code, its target
pub data Moving : Command → ℕ → ℕ → Target → Type 0 where
  activating : {target : Target} → Moving (Activate target) activate 0 target
  revoking : {target : Target} {code : ℕ} → Moving (Revoke target code) revoke code target
  destroying : {target : Target} → Moving (Destroy target) destroy 0 target

module _ (env : Env) (holder : ℕ) (t : List ℕ) where
  abbrev n : ℕ
  n = env.places

  -- what became of a command, with what held when it was carried out
  pub data Kind : Command → Did → Type 0 where
    fails : {c : Command} (reason : Reason) → Kind c (failing t reason)
    creates : (wanted : Attributes) → is_taken env.places t wanted.name ≡ false → is_full env.places t ≡ false → Kind (Create wanted) (create_plan env holder t wanted).did
    rekeys : (target : Target) (offset : Option ℕ) (i : ℕ) → find env.places t (sought holder target) ≡ Some i → is_destroyed (place_at env.places t i).state ≡ false
        → (place_at env.places t i).replacement ≡ 0 → offset_wrong (latest_clock t) offset (place_at env.places t i) ≡ false → is_full env.places t ≡ false
        → Kind (Rekey target offset) (rekey_plan env holder t offset i (place_at env.places t i)).did
    grants : (target : Target) (amount i : ℕ) → find env.places t (sought holder target) ≡ Some i
        → granting (place_at env.places t i).state (place_at env.places t i).unit (place_at env.places t i).count amount ≡ Ok ((place_at env.places t i).count - amount)
        → Kind (GetUsageAllocation target amount) (changed env holder t i (with_count ((place_at env.places t i).count - amount) (place_at env.places t i)))
    moves : {c : Command} {operation code : ℕ} {target : Target} (m : Moving c operation code target) (i next : ℕ) → find env.places t (sought holder target) ≡ Some i
        → is_late operation (latest_clock t) (place_at env.places t i).deactivation ≡ false → next_state operation code (place_at env.places t i).state ≡ Ok next
        → Kind c (changed env holder t i (moved_to operation code (latest_clock t) next (place_at env.places t i)))
    shows : (target : Target) (i : ℕ) → find env.places t (sought holder target) ≡ Some i
        → Kind (GetAttributes target) (record { outcome = Showed (shown_of (place_at env.places t i)); table = t; holder = holder })
    gets : (target : Target) (i : ℕ) → find env.places t (sought holder target) ≡ Some i → is_destroyed (place_at env.places t i).state ≡ false
        → Kind (Get target) (record { outcome = Got (key_of (place_at env.places t i)); table = t; holder = holder })
    locates : (name : Name) → Kind (Locate name) (locate_plan env holder t name).did

  -- a plan as its tests decide
  abbrev decided : Plan → Did
  decided p = carried t p.did (due p.tests)

  by_create : (wanted : Attributes) → Kind (Create wanted) (decided (create_plan env holder t wanted))
  unfolding create_plan due carried
  by_create wanted = on_if Went (λ u. fails NonUniqueName) (λ u. on_if Went (λ e. fails ServerLimitExceeded) (λ e. creates wanted u e))
    where
      Went : Option Reason → Type 0
      Went o = Kind (Create wanted) (carried t (create_plan env holder t wanted).did o)

  by_rekey : (target : Target) (offset : Option ℕ) (i : ℕ) → find n t (sought holder target) ≡ Some i → Kind (Rekey target offset) (decided (rekey_plan env holder t offset i (place_at n t i)))
  unfolding rekey_plan due carried
  by_rekey target offset i e =
      on_if Went (λ d. fails ObjectDestroyed)
      (λ d. on_if Went (λ p. fails PermissionDenied)
      (λ p. on_if Went (λ w. fails InvalidField)
      (λ w. on_if Went (λ f. fails ServerLimitExceeded)
      (λ f. rekeys target offset i e d (eqb-true _ 0 (not-false _ p)) w f))))
    where
      -- what became of it, by the reason that is due
      Went : Option Reason → Type 0
      Went o = Kind (Rekey target offset) (carried t (rekey_plan env holder t offset i (place_at n t i)).did o)

  by_grant : (target : Target) (amount i : ℕ) → find n t (sought holder target) ≡ Some i
      → Kind (GetUsageAllocation target amount) (decided (allocation_plan env holder t amount i (place_at n t i)))
  unfolding allocation_plan carried granting left_unless
  by_grant target amount i e = go (due (grant_tests r.state r.unit r.count amount)) refl
    where
      r : Record
      r = place_at n t i

      go : (o : Option Reason) → due (grant_tests r.state r.unit r.count amount) ≡ o
          → Kind (GetUsageAllocation target amount) (carried t (changed env holder t i (with_count (r.count - amount) r)) o)
      go None q = grants target amount i e (granted q)
        where
          granted : due (grant_tests r.state r.unit r.count amount) ≡ None → granting r.state r.unit r.count amount ≡ Ok (r.count - amount)
          granted q = ap (left_unless (r.count - amount)) q
      go (Some reason) q = fails reason

  by_move : {c : Command} {operation code : ℕ} {target : Target} → Moving c operation code target → (i : ℕ) → find n t (sought holder target) ≡ Some i
      → is_late operation (latest_clock t) (place_at n t i).deactivation ≡ false → (o : Option Reason) → due (move_tests operation code (place_at n t i).state) ≡ o
      → Kind c (carried t (changed env holder t i (moved_to operation code (latest_clock t) (moved_state operation code (place_at n t i).state) (place_at n t i))) o)
  unfolding carried next_state next_unless
  by_move {operation} {code} m i e l None q = moves m i (moved_state operation code (place_at n t i).state) e l (ap (next_unless (moved_state operation code (place_at n t i).state)) q)
  by_move m i e l (Some reason) q = fails reason

  by_activate : (target : Target) (i : ℕ) → find n t (sought holder target) ≡ Some i → Kind (Activate target) (decided (activate_plan env holder t i (place_at n t i)))
  unfolding activate_plan due carried move_tests ifb
  by_activate target i e =
      on_if (λ (o : Option Reason). Kind (Activate target) (carried t (activate_plan env holder t i (place_at n t i)).did o)) (λ l. fails WrongKeyLifecycleState)
      (λ l. by_move activating i e l (due (activate_tests (place_at n t i).state)) refl)

  by_get : (target : Target) (i : ℕ) → find n t (sought holder target) ≡ Some i → Kind (Get target) (decided (get_plan env holder t i (place_at n t i)))
  unfolding get_plan due carried
  by_get target i e = on_if (λ (o : Option Reason). Kind (Get target) (carried t (get_plan env holder t i (place_at n t i)).did o)) (λ d. fails ObjectDestroyed) (λ d. gets target i e d)

  by_locate : (name : Name) → Kind (Locate name) (decided (locate_plan env holder t name))
  unfolding locate_plan due carried
  by_locate name = locates name

  -- the plan of a target operation, by where its record is
  by_found : {c : Command} (own : ℕ → Record → Plan) (target : Target) → ((i : ℕ) → find n t (sought holder target) ≡ Some i → Kind c (decided (own i (place_at n t i))))
      → (f : Option ℕ) → find n t (sought holder target) ≡ f → Kind c (decided (on_found env holder t own f))
  unfolding on_found carried due ifb
  by_found own target k (Some i) e = k i e
  by_found own target k None e = fails ObjectNotFound

  pub kind : (c : Command) → Kind c (decided (plan env holder t c))
  unfolding plan carried due ifb activate_plan revoke_plan destroy_plan show_plan move_tests
  kind Unsupported = fails OperationNotSupported
  kind Invalid = fails InvalidField
  kind (Create wanted) = by_create wanted
  kind (Rekey target offset) = by_found (rekey_plan env holder t offset) target (by_rekey target offset) (find n t (sought holder target)) refl
  kind (GetUsageAllocation target amount) = by_found (allocation_plan env holder t amount) target (by_grant target amount) (find n t (sought holder target)) refl
  kind (Activate target) = by_found (activate_plan env holder t) target (by_activate target) (find n t (sought holder target)) refl
  kind (Revoke target code) = by_found (revoke_plan env holder t code) target (λ i e. by_move revoking i e refl (due (revoke_tests code (place_at n t i).state)) refl) (find n t (sought holder target)) refl
  kind (Destroy target) = by_found (destroy_plan env holder t) target (λ i e. by_move destroying i e refl (due (destroy_tests (place_at n t i).state)) refl) (find n t (sought holder target)) refl
  kind (GetAttributes target) = by_found (show_plan env holder t) target (λ i e. shows target i e) (find n t (sought holder target)) refl
  kind (Get target) = by_found (get_plan env holder t) target (by_get target) (find n t (sought holder target)) refl
  kind (Locate name) = by_locate name

  -- how a step went
  pub step_kind : (asked : Asked) → Kind (command asked.operation asked.payload) (step env holder t asked)
  unfolding step
  step_kind asked = kind (command asked.operation asked.payload)
