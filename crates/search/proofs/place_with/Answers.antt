-- `search::place_with`. The test is that of the definition.
-- Assumes nothing.
use Rattle.std.proofs.Common.{rules}
use Rattle.search.specs.Search.{has_serial}
use Rattle.search.proofs.First.{first_is}
use Rattle.search.proofs.place_with.Goals as goal

pub returns : goal.returns
returns c = first_is c.first_place.ensures (has_serial c.args.t.now c.args.serial) (λ i b h p. search rules)
