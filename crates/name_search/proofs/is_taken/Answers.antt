-- `name_search::is_taken`. Taken is what is found.
-- Assumes nothing.
use Rattle.name_search.proofs.Finds.{taken_is}
use Rattle.name_search.proofs.is_taken.Goals as goal

pub returns : goal.returns
returns c = search taken_is
