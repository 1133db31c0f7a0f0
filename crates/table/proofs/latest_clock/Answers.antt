-- `table::latest_clock`. The latest clock is the field behind the place count.
-- Assumes nothing.
use Rattle.table.specs.Records.{latest_clock}
use Rattle.table.proofs.latest_clock.Goals as goal

pub returns : goal.returns
unfolding latest_clock
returns c = c.number_at.ensures.0
