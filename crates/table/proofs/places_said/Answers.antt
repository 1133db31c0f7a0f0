-- `table::places_said`. The place count is the second field.
-- Assumes nothing.
use Rattle.table.specs.Records.{places_said}
use Rattle.table.proofs.places_said.Goals as goal

pub returns : goal.returns
unfolding places_said
returns c = c.number_at.ensures.0
