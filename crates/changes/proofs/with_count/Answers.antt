-- `with_count` meets its contract: only the count is another.
-- Assumes nothing.
use mathlib.Core.Path.{refl}
use Rattle.changes.specs.Records.{with_count}
use Rattle.changes.proofs.with_count.Goals as goal

pub returns : goal.returns
unfolding with_count
returns c = refl
