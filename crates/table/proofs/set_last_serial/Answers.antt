-- `table::set_last_serial`. The field at the front is written.
-- Assumes nothing.
use Rattle.table.specs.Records.{with_last}
use Rattle.table.proofs.set_last_serial.Goals as goal

pub returns : goal.returns
unfolding with_last
returns c = c.put.ensures
