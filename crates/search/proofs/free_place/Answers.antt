-- `search::free_place`. A free place is one whose serial is zero.
-- Assumes nothing.
use Rattle.search.specs.Search.{free_place}
use Rattle.search.proofs.free_place.Goals as goal

pub returns : goal.returns
unfolding free_place
returns c = c.place_with.ensures
