-- `settle::try_items`. Between two items none has failed, and the rest of the batch decides.
-- Assumes nothing.
use Prim.Native.Nat.{◌<◌}
use mathlib.Core.Path.{sym, ◌∙◌}
use native.Mathlib.Omega.{arith}
use Rattle.frame.specs.Frame.{batch_most}
use Rattle.batch.proofs.Left.{Next, next_item, next_index, rest_less}
use Rattle.settle.proofs.Trying.{begins, ended, next_carries, stopped, again}
use Rattle.settle.proofs.try_items.Goals.{In-Some}
use Rattle.settle.proofs.try_items.Goals as goal

pub loop-next-init : goal.loop-next-init
loop-next-init c = begins c.requires

-- ---- no item is left

pub shape_of-table-in_default : goal.shape_of-table-in_default
shape_of-table-in_default c = c.loop-next.invariant.table ∙ sym c.requires.table

pub returns-in_default : goal.returns-in_default
returns-in_default c = ended c.loop-next.invariant (sym c.body_field.ensures ∙ c.in_default.is)

-- ---- an item is left: between which two it stands, where it ends, and that it is the next of the batch

item : (c : In-Some) → Next c.loop-next.invariant.items c.in-Some.next
item c = next_item c.loop-next.invariant.items (sym c.body_field.ensures ∙ c.in-Some.is)

index : (c : In-Some) → c.loop-next.i < batch_most
index c = next_index c.loop-next.invariant.items (item c)

pub overflow_mul-from : goal.overflow_mul-from
overflow_mul-from c = omega (arith, index c)

pub overflow_add-to : goal.overflow_add-to
overflow_add-to c = omega (arith, index c)

pub slice_bounds-carry_item-count : goal.slice_bounds-carry_item-count
slice_bounds-carry_item-count c = (item c).past

pub slice_bounds-carry_item-start : goal.slice_bounds-carry_item-start
slice_bounds-carry_item-start c = omega (arith, (item c).past, (item c).within)

pub slice_bounds-carry_item-end : goal.slice_bounds-carry_item-end
slice_bounds-carry_item-end c = (item c).within

-- ---- the item is lent its body and its part of the strip

pub slice_bounds-carry_item-start-in-loop-next : goal.slice_bounds-carry_item-start-in-loop-next
slice_bounds-carry_item-start-in-loop-next c = omega (arith, index (goal.at.slice_bounds-carry_item-start-in-loop-next c).In-Some, c.loop-next.invariant.strip)

pub slice_bounds-carry_item-end-in-loop-next : goal.slice_bounds-carry_item-end-in-loop-next
slice_bounds-carry_item-end-in-loop-next c = omega (arith, index (goal.at.slice_bounds-carry_item-end-in-loop-next c).In-Some, c.loop-next.invariant.strip)

pub carry_item-carried-requires : goal.carry_item-carried-requires
carry_item-carried-requires c = next_carries c.loop-next.invariant (item (goal.at.carry_item-carried-requires c).In-Some)

-- ---- the item is carried out

pub returns-in-Some-failure_of : goal.returns-in-Some-failure_of
returns-in-Some-failure_of c =
    stopped c.loop-next.invariant (item (goal.at.returns-in-Some-failure_of c).In-Some) c.carry_item-carried.ensures c.failure_of.ensures _ c.in-Some-failure_of.is

-- ---- the batch goes on

pub overflow_add-i : goal.overflow_add-i
overflow_add-i c = omega (arith, index (goal.at.overflow_add-i c).In-Some)

pub slice_bounds-left-count : goal.slice_bounds-left-count
slice_bounds-left-count c = (item (goal.at.slice_bounds-left-count c).In-Some).within

pub slice_bounds-left-start : goal.slice_bounds-left-start
slice_bounds-left-start c = omega (arith, slice_bounds-left-count c)

pub loop-next-smaller : goal.loop-next-smaller
loop-next-smaller c = rest_less c.loop-next.invariant.items (item (goal.at.loop-next-smaller c).In-Some)

pub loop-next-preserved : goal.loop-next-preserved
loop-next-preserved c =
    again c.loop-next.invariant (item (goal.at.loop-next-preserved c).In-Some) c.carry_item-carried.ensures c.failure_of.ensures c.in_default-failure_of.is c.carry_item-carried.auto.table
