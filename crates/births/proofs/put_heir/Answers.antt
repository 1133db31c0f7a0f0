-- `put_heir` meets its contract: the old record names its replacement, which is stored after it.
-- Assumes nothing.
use Rattle.births.proofs.Returns.{heir_stored}
use Rattle.births.proofs.put_heir.Goals as goal

pub returns : goal.returns
returns c = search heir_stored
