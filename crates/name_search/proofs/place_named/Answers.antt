-- `name_search::place_named`. The test is that of the definition.
-- Assumes nothing.
use Rattle.std.proofs.Common.{rules}
use Rattle.search.proofs.First.{first_is}
use Rattle.name_search.specs.Names.{has_name}
use Rattle.name_search.proofs.place_named.Goals as goal

pub returns : goal.returns
returns c = first_is c.first_place.ensures (has_name c.args.n c.args.t.now c.args.name) (λ i b h p. search rules)
