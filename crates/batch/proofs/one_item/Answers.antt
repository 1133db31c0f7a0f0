-- `batch::one_item`. What the functions answer, put together by one law.
-- Assumes nothing.
use Rattle.batch.proofs.Item.{id_short, item_is}
use Rattle.batch.proofs.one_item.Goals as goal

pub write_answer-used-requires : goal.write_answer-used-requires
write_answer-used-requires c =
    let is = c.carry_item-carried.ensures in
    (c.requires.room, id_short c.requires.carries.reads is.operation is.id)

pub returns : goal.returns
returns c =
    item_is c.requires.carries.reads c.carry_item-carried.ensures c.is_failed-failed.ensures c.write_answer-used.ensures
