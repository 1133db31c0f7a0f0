-- `table::last_serial`. The last serial is the field at the front.
-- Assumes nothing.
use Rattle.table.specs.Records.{last_serial}
use Rattle.table.proofs.last_serial.Goals as goal

pub returns : goal.returns
unfolding last_serial
returns c = c.number_at.ensures.0
