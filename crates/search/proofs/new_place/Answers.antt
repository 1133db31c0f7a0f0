-- `search::new_place`. A destroyed place is looked for only where none is free.
-- Assumes nothing.
use Rattle.std.proofs.Common.{rules}
use Rattle.search.specs.Search.{new_place, or_else}
use Rattle.search.proofs.new_place.Goals as goal

pub returns : goal.returns
unfolding new_place or_else
returns c = search rules
