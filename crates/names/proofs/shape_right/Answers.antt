-- `names::shape_right`. The length, the seven zeros, and what is past the length.
-- Assumes nothing.
use Rattle.names.proofs.Returns.{shaped_there}
use Rattle.names.proofs.shape_right.Goals as goal

pub returns : goal.returns
returns c =
    shaped_there c.args.m c.fewer-len.ensures c.bytes_of-room.ensures c.all_zero.ensures
