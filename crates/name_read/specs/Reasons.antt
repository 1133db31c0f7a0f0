-- What each answer of the readers of names says in the papers' terms, case by case: the reason of a failure.
-- Assumes nothing. The law that ties it to the readers' promises stands in the proofs of the same name.
use Rattle.std.specs.Prelude.{Option, None, Some}
use Rattle.rules.specs.declared.Reason.{Reason}
use Rattle.rules.specs.declared.Reason.TheVariants.{InvalidField}
use Rattle.names.specs.declared.Name.{Name}

unfoldable pub name_reason : Option Name → Option Reason
name_reason (Some name) = None
name_reason None = Some InvalidField
