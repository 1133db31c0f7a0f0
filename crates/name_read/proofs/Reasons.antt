-- What the readers' answers say in the papers' terms: a name that cannot be read is Invalid Field.
-- Assumes nothing. The promises are of the answers themselves; this law says what the definition of the same name in specs gives of them.
use mathlib.Core.Path.{◌≡◌, refl}
use Rattle.std.specs.Prelude.{Option, None, Some}
use Rattle.rules.specs.Tests.{read_reason}
use Rattle.names.specs.declared.Name.{Name}
use Rattle.name_read.specs.Reasons.{name_reason}

pub name_reason_lem : (o : Option Name) → name_reason o ≡ read_reason o
unfolding name_reason read_reason
name_reason_lem None = refl
name_reason_lem (Some name) = refl
