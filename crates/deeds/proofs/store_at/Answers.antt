-- `store_at` meets its contract: one store, and the record's serial.
-- Assumes nothing.
use Rattle.deeds.proofs.Returns.{stored}
use Rattle.deeds.proofs.store_at.Goals as goal

pub returns : goal.returns
returns c = search stored
