-- `linked_to` meets its contract: only the replacement serial is another, and the name is gone.
-- Assumes nothing.
use Rattle.heirs.specs.Heirs.{linked_to}
use Rattle.heirs.proofs.linked_to.Goals as goal

pub returns : goal.returns
unfolding linked_to
returns c = rw c.no_name-nameless.ensures
