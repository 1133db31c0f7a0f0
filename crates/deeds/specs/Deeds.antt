-- What is asked of the record at a place, each deed as the plan of its operations. Nothing here has to be believed: `act` shows that a command meets its own plan.
-- Assumes nothing.
use Rattle.std.specs.Prelude.{ℕ, List, [], ◌∷◌}
use Rattle.octets.specs.If.{ifb}
use Rattle.table.specs.declared.Record.{Record}
use Rattle.table.specs.Records.{latest_clock}
use Rattle.search.specs.Search.{is_destroyed}
use Rattle.rules.specs.declared.Reason.TheVariants.{ObjectDestroyed, WrongKeyLifecycleState}
use Rattle.rules.specs.Tests.{◌⇒◌}
use Rattle.rules.specs.States.{move_tests}
use Rattle.date_rules.specs.Dates.{is_late}
use Rattle.plans.specs.declared.Outcome.TheVariants.{Showed, Got}
use Rattle.plans.specs.declared.Performed.{Performed}
use Rattle.plans.specs.Plans.{Env, Did, Plan, failed, shown_of, key_of, rekey_plan, allocation_plan, show_plan, get_plan, changed, moved, in_places}
use Rattle.deeds.specs.declared.Deed.{Deed}
use Rattle.deeds.specs.declared.Deed.TheVariants.{Replace, Allocate, Move, Show, Give}

-- ---- answers

-- Get Attributes shows the record and keeps the placeholder
abbrev pub showing : ℕ → Record → Performed
showing holder r = record { outcome = Showed (shown_of r); holder = holder }

-- Get hands the key out and keeps the placeholder, unless the key is destroyed
unfoldable pub giving : ℕ → Record → Performed
giving holder r = ifb (is_destroyed r.state) (failed ObjectDestroyed) (record { outcome = Got (key_of r); holder = holder })

-- ---- plans

-- a record stored anew at place i
abbrev pub storing : ℕ → ℕ → List ℕ → ℕ → Record → Did
storing n holder t i r = changed (in_places n []) holder t i r

-- Activate, Revoke and Destroy as one; only an Activate can be late
unfoldable pub move_plan : ℕ → ℕ → List ℕ → ℕ → ℕ → ℕ → Record → Plan
move_plan n holder t operation code i r = record {
  tests = is_late operation (latest_clock t) r.deactivation ⇒ WrongKeyLifecycleState ∷ move_tests operation code r.state;
  did = moved (in_places n []) holder t operation code i r;
}

module _ (env : Env) (holder : ℕ) (t : List ℕ) where
  -- what is asked of the record at place i
  unfoldable pub deed_plan : Deed → ℕ → Record → Plan
  deed_plan (Replace offset) = rekey_plan env holder t offset
  deed_plan (Allocate amount) = allocation_plan env holder t amount
  deed_plan (Move operation code) = move_plan env.places holder t operation code
  deed_plan Show = show_plan env holder t
  deed_plan Give = get_plan env holder t
