-- What each answer of the readers of attributes says in the papers' terms, case by case: the reason of a failure.
-- Assumes nothing. The laws that tie these to the readers' promises stand in the proofs of the same name.
use Rattle.std.specs.Prelude.{ℕ, Option, None, Some}
use Rattle.rules.specs.declared.Attributes.{Attributes}
use Rattle.rules.specs.declared.Reason.{Reason}
use Rattle.rules.specs.declared.Reason.TheVariants.{InvalidField}
use Rattle.names.specs.declared.Name.{Name}
use Rattle.runs.specs.declared.run.Run.{Run}
use Rattle.attributes_read.specs.declared.Limit.{Limit}

unfoldable pub limit_reason : Option Limit → Option Reason
limit_reason (Some limit) = None
limit_reason None = Some InvalidField

unfoldable pub limits_reason : Option (Option Limit × Run) → Option Reason
limits_reason (Some limit) = None
limits_reason None = Some InvalidField

unfoldable pub date_reason : Option (Option ℕ × Run) → Option Reason
date_reason (Some date) = None
date_reason None = Some InvalidField

unfoldable pub dated_reason : Option (ℕ × ℕ × Name) → Option Reason
dated_reason (Some dated) = None
dated_reason None = Some InvalidField

unfoldable pub attributes_reason : Option Attributes → Option Reason
attributes_reason (Some wanted) = None
attributes_reason None = Some InvalidField
