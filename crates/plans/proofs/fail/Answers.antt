-- `fail` meets its contract: the reason, and the placeholder empty.
-- Assumes nothing.
use mathlib.Core.Path.{refl}
use Rattle.plans.proofs.fail.Goals as goal

pub returns : goal.returns
returns c = refl
