-- 01, "Operations", and 02, L4 and L6: each payload's shape and allowed values. "A payload holds what its line names, in that order, and nothing else."
-- Assumes nothing. "One of wrong shape or with a value not allowed here fails with Invalid Field."
use Rattle.std.specs.Prelude.{ℕ, eqb}
use Rattle.std.specs.Prelude.{Option, None, Some}
use Rattle.octets.specs.If.{ifb}
use Rattle.octets.specs.Maybe.{◌>>=◌, ◌>>◌}
use Rattle.ttlv_types.specs.Types.{long_integer, enumeration, interval}
use Rattle.ttlv.specs.Items.{Items, ended}
use Rattle.fields.specs.Fields.{body_of, number_of, optional}
use Rattle.tags.specs.Tags.{attributes, object_type, offset, revocation_reason, revocation_reason_code, usage_limits_count}
use Rattle.attributes_read.specs.Attributes.{attributes_in}
use Rattle.name_read.specs.Name.{only_name_in}
use Rattle.values.specs.Values.{above_zero}
use Rattle.rules.specs.Numbers.{create, rekey, locate, get, get_attributes, get_usage_allocation, activate, revoke, destroy}
use Rattle.rules.specs.States.{code_ok}
use Rattle.target_read.specs.declared.Target.{Target}
use Rattle.target_read.specs.Target.{target_in}
use Rattle.payload.specs.declared.Command.{Command}
use Rattle.payload.specs.declared.Command.TheVariants.{Unsupported, Invalid, Create, Rekey, GetUsageAllocation, Activate, Revoke, Destroy, GetAttributes, Get, Locate}

-- ---- Create

-- "Object Type = 2": a symmetric key
abbrev pub symmetric_key : ℕ
symmetric_key = 2

-- "Object Type = 2; Attributes { .. }"
unfoldable pub create_in : Items → Option Command
create_in t = do
  (kind, r) ← number_of object_type enumeration t
  eqb kind symmetric_key
  (body, s) ← body_of attributes r
  ended s
  wanted ← attributes_in body
  Some (Create wanted)

-- ---- the target operations

-- 02, L4: "Add the optional Offset (Interval, unsigned seconds)"
unfoldable pub rekey_in : Items → Option Command
rekey_in t = do
  (target, r) ← target_in t
  (given, s) ← optional offset (number_of offset interval) r
  ended s
  Some (Rekey target given)

-- Activate, Destroy, Get Attributes, Get: nothing more in the request
unfoldable pub alone_in : (Target → Command) → Items → Option Command
alone_in command t = do
  (target, r) ← target_in t
  ended r
  Some (command target)

-- "Usage Limits Count, Long Integer above 0": a Long Integer is signed
unfoldable pub allocation_in : Items → Option Command
allocation_in t = do
  (target, r) ← target_in t
  (amount, s) ← number_of usage_limits_count long_integer r
  above_zero amount
  ended s
  Some (GetUsageAllocation target amount)

-- "Revocation Reason { Code 1 to 7 }"
unfoldable pub revoke_in : Items → Option Command
revoke_in t = do
  (target, r) ← target_in t
  (body, s) ← body_of revocation_reason r
  ended s
  (code, u) ← number_of revocation_reason_code enumeration body
  code_ok code
  ended u
  Some (Revoke target code)

-- ---- Locate

-- "Attributes with the Name alone"
unfoldable pub locate_in : Items → Option Command
locate_in t = do
  (body, r) ← body_of attributes t
  ended r
  name ← only_name_in body
  Some (Locate name)

-- ---- all of them

unfoldable pub or_invalid : Option Command → Command
or_invalid None = Invalid
or_invalid (Some command) = command

-- what an item with this operation and this payload asks for
unfoldable pub command : ℕ → Items → Command
command operation t =
    ifb (eqb operation create) (or_invalid (create_in t))
    (ifb (eqb operation rekey) (or_invalid (rekey_in t))
    (ifb (eqb operation get_usage_allocation) (or_invalid (allocation_in t))
    (ifb (eqb operation activate) (or_invalid (alone_in Activate t))
    (ifb (eqb operation revoke) (or_invalid (revoke_in t))
    (ifb (eqb operation destroy) (or_invalid (alone_in Destroy t))
    (ifb (eqb operation get_attributes) (or_invalid (alone_in GetAttributes t))
    (ifb (eqb operation get) (or_invalid (alone_in Get t))
    (ifb (eqb operation locate) (or_invalid (locate_in t))
    Unsupported))))))))
