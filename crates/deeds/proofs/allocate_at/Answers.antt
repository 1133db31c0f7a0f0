-- `allocate_at` meets its contract: what is left stored, or the reason why nothing is granted.
-- Assumes nothing.
use Rattle.deeds.proofs.Returns.{grants, grant_denied}
use Rattle.deeds.proofs.allocate_at.Goals as goal

pub returns-in-Ok : goal.returns-in-Ok
returns-in-Ok c = search grants

pub returns-in-Err : goal.returns-in-Err
returns-in-Err c = search grant_denied
