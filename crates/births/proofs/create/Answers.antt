-- `create` meets its contract: a name that is taken, or a new object if there is a place for it.
-- Assumes nothing.
use Rattle.births.proofs.Returns.{create_taken, create_untaken}
use Rattle.births.proofs.create.Goals as goal

pub returns-then-is_taken : goal.returns-then-is_taken
returns-then-is_taken c = search create_taken

pub returns : goal.returns
returns c = search create_untaken
