-- What each answer of the reader of targets says in the papers' terms, case by case: the reason of a failure.
-- Assumes nothing. The law that ties this to the reader's promise stands in the proofs of the same name.
use Rattle.std.specs.Prelude.{ℕ}
use Rattle.target_read.specs.declared.Target.{Target}
use Rattle.std.specs.Prelude.{Option, None, Some}
use Rattle.rules.specs.declared.Reason.{Reason}
use Rattle.rules.specs.declared.Reason.TheVariants.{InvalidField}

unfoldable pub target_reason : Option (Target × ℕ) → Option Reason
target_reason (Some (target, next)) = None
target_reason None = Some InvalidField
