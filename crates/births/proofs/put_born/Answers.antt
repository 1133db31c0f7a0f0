-- `put_born` meets its contract: the record stored, then its serial the last issued.
-- Assumes nothing.
use Rattle.births.proofs.Returns.{born_stored}
use Rattle.births.proofs.put_born.Goals as goal

pub returns : goal.returns
returns c = search born_stored
