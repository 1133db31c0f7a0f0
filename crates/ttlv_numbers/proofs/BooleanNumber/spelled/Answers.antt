-- `spelled` of a Boolean: 1 for true, 0 for false.
-- Assumes nothing.
use Rattle.std.proofs.Common.{rules}
use Rattle.octets.specs.If.{ifb}
use Rattle.ttlv_numbers.specs.Bit.{bit}
use Rattle.ttlv_numbers.proofs.BooleanNumber.spelled.Goals as goal

pub returns : goal.returns
unfolding bit ifb
returns c = let value = c.from.ensures in search rules
