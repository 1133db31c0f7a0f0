-- `batch::run_items`. Between two items: what is answered stands in the room, and the rest of the batch gives the whole.
-- Assumes nothing.
use Prim.Native.Nat.{◌<◌}
use mathlib.Core.Path.{sym, ◌∙◌}
use native.Mathlib.Omega.{arith}
use Rattle.frame.specs.Frame.{batch_most}
use Rattle.batch.proofs.Left.{Next, next_item, next_index, rest_less}
use Rattle.batch.proofs.Written.{room_left}
use Rattle.batch.proofs.Turns.{begins, ended, next_runs, stopped, again}
use Rattle.batch.proofs.run_items.Goals.{In-Some}
use Rattle.batch.proofs.run_items.Goals as goal

pub loop-next-init : goal.loop-next-init
loop-next-init c = begins c.args.option c.requires

pub overflow_cast-count : goal.overflow_cast-count
overflow_cast-count c = omega (arith, c.loop-next.invariant.items.few)

pub shape_of-table-in_default : goal.shape_of-table-in_default
shape_of-table-in_default c = c.loop-next.invariant.table ∙ sym c.requires.carries.table

pub shape_of-out-in_default : goal.shape_of-out-in_default
shape_of-out-in_default c = c.loop-next.invariant.written.same

pub returns-in_default : goal.returns-in_default
returns-in_default c = ended c.loop-next.invariant (sym c.body_field.ensures ∙ c.in_default.is)

item : (c : In-Some) → Next c.loop-next.invariant.items c.in-Some.next
item c = next_item c.loop-next.invariant.items (sym c.body_field.ensures ∙ c.in-Some.is)

index : (c : In-Some) → c.loop-next.i < batch_most
index c = next_index c.loop-next.invariant.items (item c)

pub overflow_mul-from : goal.overflow_mul-from
overflow_mul-from c = omega (arith, index c)

pub overflow_add-to : goal.overflow_add-to
overflow_add-to c = omega (arith, index c)

pub slice_bounds-one_item-count : goal.slice_bounds-one_item-count
slice_bounds-one_item-count c = (item c).past

pub slice_bounds-one_item-start : goal.slice_bounds-one_item-start
slice_bounds-one_item-start c = omega (arith, (item c).past, (item c).within)

pub slice_bounds-one_item-end : goal.slice_bounds-one_item-end
slice_bounds-one_item-end c = (item c).within

pub slice_bounds-one_item-start-in-loop-next : goal.slice_bounds-one_item-start-in-loop-next
slice_bounds-one_item-start-in-loop-next c = omega (arith, index (goal.at.slice_bounds-one_item-start-in-loop-next c).In-Some, c.loop-next.invariant.strip)

pub slice_bounds-one_item-end-in-loop-next : goal.slice_bounds-one_item-end-in-loop-next
slice_bounds-one_item-end-in-loop-next c = omega (arith, index (goal.at.slice_bounds-one_item-end-in-loop-next c).In-Some, c.loop-next.invariant.strip)

pub slice_bounds-one_item-count-in-loop-next-2 : goal.slice_bounds-one_item-count-in-loop-next-2
slice_bounds-one_item-count-in-loop-next-2 c = room_left c.loop-next.invariant.written (index (goal.at.slice_bounds-one_item-count-in-loop-next-2 c).In-Some)

pub slice_bounds-one_item-start-in-loop-next-2 : goal.slice_bounds-one_item-start-in-loop-next-2
slice_bounds-one_item-start-in-loop-next-2 c = slice_bounds-one_item-count-in-loop-next-2 c

pub one_item-done-requires : goal.one_item-done-requires
one_item-done-requires c = next_runs c.loop-next.invariant (item (goal.at.one_item-done-requires c).In-Some)

pub overflow_add-at : goal.overflow_add-at
overflow_add-at c = omega (arith, index (goal.at.overflow_add-at c).In-Some, c.loop-next.invariant.written.used, c.one_item-done.ensures.few)

pub overflow_add-i : goal.overflow_add-i
overflow_add-i c = omega (arith, index (goal.at.overflow_add-i c).In-Some)

pub overflow_cast-count-then-ends : goal.overflow_cast-count-then-ends
overflow_cast-count-then-ends c = omega (arith, index (goal.at.overflow_cast-count-then-ends c).In-Some)

pub returns-then-ends : goal.returns-then-ends
returns-then-ends c =
    let d = c.one_item-done in
    stopped c.loop-next.invariant (item (goal.at.returns-then-ends c).In-Some) d.ensures d.auto.out c.ends.ensures c.if-ends.true

pub slice_bounds-left-count : goal.slice_bounds-left-count
slice_bounds-left-count c = (item (goal.at.slice_bounds-left-count c).In-Some).within

pub slice_bounds-left-start : goal.slice_bounds-left-start
slice_bounds-left-start c = omega (arith, slice_bounds-left-count c)

pub loop-next-smaller : goal.loop-next-smaller
loop-next-smaller c = rest_less c.loop-next.invariant.items (item (goal.at.loop-next-smaller c).In-Some)

pub loop-next-preserved : goal.loop-next-preserved
loop-next-preserved c =
    let kept = c.one_item-done.auto in
    again c.loop-next.invariant (item (goal.at.loop-next-preserved c).In-Some) c.one_item-done.ensures kept.out c.ends.ensures c.if-ends.false kept.table
