-- The numbers of operations, states, results and reasons, as the papers give them.
-- Assumes nothing.
use Rattle.std.specs.Prelude.{ℕ}
use Rattle.rules.specs.declared.Reason.{Reason}
use Rattle.rules.specs.declared.Reason.TheVariants.{OperationNotSupported, InvalidField, ObjectNotFound, ObjectDestroyed, PermissionDenied, WrongKeyLifecycleState, UsageLimitExceeded, ServerLimitExceeded, NonUniqueName}

-- ---- operations

abbrev pub create : ℕ
create = 0x01

abbrev pub rekey : ℕ
rekey = 0x04

abbrev pub locate : ℕ
locate = 0x08

abbrev pub get : ℕ
get = 0x0A

abbrev pub get_attributes : ℕ
get_attributes = 0x0B

abbrev pub get_usage_allocation : ℕ
get_usage_allocation = 0x11

abbrev pub activate : ℕ
activate = 0x12

abbrev pub revoke : ℕ
revoke = 0x13

abbrev pub destroy : ℕ
destroy = 0x14

-- ---- states

abbrev pub pre_active : ℕ
pre_active = 1

abbrev pub active : ℕ
active = 2

abbrev pub deactivated : ℕ
deactivated = 3

abbrev pub compromised : ℕ
compromised = 4

abbrev pub destroyed : ℕ
destroyed = 5

abbrev pub destroyed_compromised : ℕ
destroyed_compromised = 6

-- ---- results

-- "Status is 0 for success, 1 for failed"; 02, L8: "status 3 (Operation Undone)"
abbrev pub success : ℕ
success = 0

abbrev pub operation_failed : ℕ
operation_failed = 1

abbrev pub operation_undone : ℕ
operation_undone = 3

-- ---- reasons

-- the Result Reason number of each failure, from the enumeration of KMIP 2.1
abbrev pub reason_number : Reason → ℕ
reason_number OperationNotSupported = 0x05
reason_number InvalidField = 0x07
reason_number PermissionDenied = 0x0C
reason_number UsageLimitExceeded = 0x1A
reason_number ObjectDestroyed = 0x36
reason_number ObjectNotFound = 0x37
reason_number ServerLimitExceeded = 0x3A
reason_number WrongKeyLifecycleState = 0x43
reason_number NonUniqueName = 0x35
