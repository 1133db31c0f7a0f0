-- `locate::serial_named`. The serial of what is found, or 0.
-- Assumes nothing.
use Rattle.std.proofs.Common.{rules}
use Rattle.locate.proofs.Meets.{line_there}
use Rattle.plans.specs.Plans.{serial_found}
use Rattle.locate.proofs.serial_named.Goals as goal

pub map_or-requires : goal.map_or-requires
map_or-requires c = λ i at. let there = line_there _ _ _ _ c.find_name.ensures c.requires i at in search rules

pub returns : goal.returns
unfolding serial_found
returns c = search rules
