-- What the answers of this crate say in the papers' numbers: a Result Status, and with it the Result Reason.
-- Assumes nothing.
use Rattle.std.specs.Prelude.{Option, None, Some}
use Rattle.rules.specs.declared.Reason.{Reason}
use Rattle.std.specs.Prelude.{ℕ}
use Rattle.rules.specs.Numbers.{success, operation_undone}
use Rattle.rules.specs.Said.{Said, says, fails}

-- of an item: a failure with the number of its reason, or a success
unfoldable pub failure_says : Option Reason → Said
failure_says (Some reason) = fails reason
failure_says None = says 0

-- of the items in front of the first failure: the status that they carry, "status 3 (Operation Undone)" where there is one
unfoldable pub trial_says : Option (ℕ × Reason) → ℕ
trial_says None = success
trial_says (Some (index, reason)) = operation_undone
