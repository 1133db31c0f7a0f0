-- `search::destroyed_place`. The test is that of the definition.
-- Assumes nothing.
use Rattle.std.proofs.Common.{rules}
use Rattle.table.specs.Records.{state_at}
use Rattle.search.specs.Search.{is_destroyed, destroyed_place}
use Rattle.search.proofs.First.{first_is}
use Rattle.search.proofs.destroyed_place.Goals as goal

pub returns : goal.returns
unfolding destroyed_place
returns c = first_is c.first_place.ensures (λ i. is_destroyed (state_at c.args.t.now i)) (λ i b h p. search rules)
