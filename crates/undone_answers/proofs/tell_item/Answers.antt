-- `undone_answers::tell_item`. The operation and the ID are those of the item, and so the answer is its own.
-- Assumes nothing.
use mathlib.Core.Path.{subst}
use Rattle.ttlv.specs.Items.{nil, group}
use Rattle.tags.specs.Tags.{batch_item}
use Rattle.answer.specs.Respond.{Answer, answer_items}
use Rattle.answer.specs.Front.{longest_item}
use Rattle.named_write.specs.Puts.{Puts}
use Rattle.batch.proofs.Item.{operation_is, id_is, id_short, answer_is}
use Rattle.undone_answers.proofs.tell_item.Goals as goal

pub write_answer-requires : goal.write_answer-requires
write_answer-requires c =
    let one = c.requires.reads in
    let read = c.read_item-parts.ensures in
    (c.requires.room, id_short one (operation_is one read) (id_is one read))

pub returns : goal.returns
returns c =
    let asks = c.requires.reads in
    let is = c.read_item-parts.ensures in
    let a = c.args in
    subst (λ (x : Answer). Puts longest_item (group batch_item (answer_items x) nil) a.out.now c.write_answer.new.out c.write_answer.result)
    (answer_is asks (operation_is asks is) (id_is asks is) a.outcome) c.write_answer.ensures
