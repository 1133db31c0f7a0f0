-- 01, "Operations": which record an item is about, and which operation's plan its command has.
-- Assumes nothing. There is no byte of output in it.
use Rattle.std.specs.Prelude.{Option, None, Some}
use Rattle.std.specs.Prelude.{ℕ, List}
use Rattle.table.specs.declared.Record.{Record}
use Rattle.table.specs.Records.{place_at}
use Rattle.search.specs.Search.{find}
use Rattle.rules.specs.declared.Reason.TheVariants.{OperationNotSupported, InvalidField, ObjectNotFound}
use Rattle.batch_item.specs.Item.{Asked}
use Rattle.target_read.specs.declared.Target.{Target}
use Rattle.target_read.specs.declared.Target.TheVariants.{Placeholder, Serial}
use Rattle.payload.specs.declared.Command.{Command}
use Rattle.payload.specs.declared.Command.TheVariants.{Unsupported, Invalid, Create, Rekey, GetUsageAllocation, Activate, Revoke, Destroy, GetAttributes, Get, Locate}
use Rattle.payload.specs.Payload.{command}
use Rattle.plans.specs.Plans.{Env, Did, Plan, refusal, carried_out, create_plan, rekey_plan, allocation_plan, activate_plan, revoke_plan, destroy_plan, show_plan, get_plan, locate_plan, in_places}

-- the serial that an item is about: the one that it names, or the placeholder's; 0 is none
unfoldable pub sought : ℕ → Target → ℕ
sought holder Placeholder = holder
sought holder (Serial serial) = serial

module _ (env : Env) (holder : ℕ) (t : List ℕ) where
  -- "Object Not Found (no such record, or no identifier and no placeholder), then the operation's own"
  unfoldable pub on_found : (ℕ → Record → Plan) → Option ℕ → Plan
  on_found own (Some i) = own i (place_at env.places t i)
  on_found own None = refusal t ObjectNotFound

  -- the plan of an operation on the record that it is about
  abbrev pub targeted : (ℕ → Record → Plan) → Target → Plan
  targeted own target = on_found own (find env.places t (sought holder target))

  -- "Order: Operation Not Supported, Invalid Field, Object Not Found, then the operation's own, as listed"
  unfoldable pub plan : Command → Plan
  plan Unsupported = refusal t OperationNotSupported
  plan Invalid = refusal t InvalidField
  plan (Create wanted) = create_plan env holder t wanted
  plan (Rekey target offset) = targeted (rekey_plan env holder t offset) target
  plan (GetUsageAllocation target amount) = targeted (allocation_plan env holder t amount) target
  plan (Activate target) = targeted (activate_plan env holder t) target
  plan (Revoke target code) = targeted (revoke_plan env holder t code) target
  plan (Destroy target) = targeted (destroy_plan env holder t) target
  plan (GetAttributes target) = targeted (show_plan env holder t) target
  plan (Get target) = targeted (get_plan env holder t) target
  plan (Locate name) = locate_plan env holder t name

  -- one item carried out
  unfoldable pub step : Asked → Did
  step asked = carried_out t (plan (command asked.operation asked.payload))

-- ---- one command, as `perform` carries it out

-- a command carried out on a table of n places with an item's part of the fresh strip
unfoldable pub performing : ℕ → List ℕ → ℕ → List ℕ → Command → Did
performing n fresh holder t command = carried_out t (plan (in_places n fresh) holder t command)
