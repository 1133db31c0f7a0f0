-- What each command says in the papers' terms, case by case: the operation, and the reason of a failure.
-- Assumes nothing. The laws that tie these to the reader's promise stand in the proofs of the same name.
use Rattle.std.specs.Prelude.{ℕ, Option, None, Some}
use Rattle.rules.specs.Numbers.{create, rekey, locate, get, get_attributes, get_usage_allocation, activate, revoke, destroy}
use Rattle.rules.specs.declared.Reason.{Reason}
use Rattle.rules.specs.declared.Reason.TheVariants.{OperationNotSupported, InvalidField}
use Rattle.payload.specs.declared.Command.{Command}
use Rattle.payload.specs.declared.Command.TheVariants.{Unsupported, Invalid, Create, Rekey, GetUsageAllocation, Activate, Revoke, Destroy, GetAttributes, Get, Locate}

-- the number of the operation that a command carries out
unfoldable pub operation_of : Command → Option ℕ
operation_of Unsupported = None
operation_of Invalid = None
operation_of (Create wanted) = Some create
operation_of (Rekey target _) = Some rekey
operation_of (GetUsageAllocation target amount) = Some get_usage_allocation
operation_of (Activate target) = Some activate
operation_of (Revoke target code) = Some revoke
operation_of (Destroy target) = Some destroy
operation_of (GetAttributes target) = Some get_attributes
operation_of (Get target) = Some get
operation_of (Locate name) = Some locate

-- the reason with which it fails before any record is looked at
unfoldable pub reason_of : Command → Option Reason
reason_of Unsupported = Some OperationNotSupported
reason_of Invalid = Some InvalidField
reason_of (Create wanted) = None
reason_of (Rekey target _) = None
reason_of (GetUsageAllocation target amount) = None
reason_of (Activate target) = None
reason_of (Revoke target code) = None
reason_of (Destroy target) = None
reason_of (GetAttributes target) = None
reason_of (Get target) = None
reason_of (Locate name) = None
