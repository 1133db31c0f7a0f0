-- `batch_item::take_id`. The bytes stored over sixteen zeros.
-- Assumes nothing.
use Rattle.batch_item.proofs.Item.{id_filled}
use Rattle.batch_item.proofs.take_id.Goals as goal

pub returns : goal.returns
returns c =
    id_filled c.args.v.now _ c.requires c.put_all.ensures
