-- `names::same_name`. The tests are those of the definition, in its order.
-- Assumes nothing.
use mathlib.Core.Path.{refl}
use Rattle.names.specs.Names.{same_name}
use Rattle.names.proofs.same_name.Goals as goal

pub returns : goal.returns
unfolding same_name
returns c = refl
