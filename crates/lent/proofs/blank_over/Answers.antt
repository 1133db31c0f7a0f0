-- `lent::blank_over`. Zeros, and then the place count in them.
-- Assumes nothing.
use Rattle.lent.proofs.Fills.{blank_made}
use Rattle.lent.proofs.blank_over.Goals as goal

pub returns : goal.returns
returns c =
    blank_made c.args.t.now c.args.n c.requires c.fill.ensures c.put.ensures
