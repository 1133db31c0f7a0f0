-- `table::set_latest_clock`. The latest clock is the field behind the place count.
-- Assumes nothing.
use Rattle.table.specs.Records.{with_clock}
use Rattle.table.proofs.set_latest_clock.Goals as goal

pub returns : goal.returns
unfolding with_clock
returns c = c.put.ensures
