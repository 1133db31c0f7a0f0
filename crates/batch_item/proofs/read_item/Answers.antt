-- `batch_item::read_item`. The parts that the item reader found, with the ID carried by its struct.
-- Assumes nothing.
use mathlib.Core.Path.{refl, sym, ap, ◌∙◌}
use mathlib.Core.Bool.{false≢true}
use Rattle.octets.specs.Maybe.{is_some}
use Rattle.batch_item.proofs.Item.{id_fits, payload_ends, parts_are}
use Rattle.batch_item.proofs.read_item.Goals as goal

pub returns-in_default : goal.returns-in_default
unfolding is_some
returns-in_default c = absurd (false≢true (ap is_some c.in_default.ensures ∙ c.requires.1))

pub take_id-requires-2 : goal.take_id-requires-2
take_id-requires-2 c = id_fits c.args.body.now c.requires.0 (sym c.in-Some.ensures)

pub overflow_sub-result : goal.overflow_sub-result
overflow_sub-result c =
    (payload_ends c.args.body.now c.requires.0 (sym c.in-Some.ensures) c.in-Some.payload.bytes.now c.in-Some.payload.run refl).0

pub returns : goal.returns
returns c =
    parts_are c.args.body.now c.requires.0 (sym c.in-Some.ensures) c.take_id-2.ensures
    (payload_ends c.args.body.now c.requires.0 (sym c.in-Some.ensures) c.in-Some.payload.bytes.now c.in-Some.payload.run refl).1
