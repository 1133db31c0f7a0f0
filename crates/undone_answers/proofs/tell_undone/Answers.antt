-- `undone_answers::tell_undone`. Between two items: what is answered stands in the room, and the answers to the rest make the whole.
-- Assumes nothing.
use Prim.Native.Nat.{◌<◌}
use mathlib.Core.Path.{refl, sym, ◌∙◌}
use native.Mathlib.Omega.{arith}
use borrow.Author.Tests.{eq-eqb, ne_eqb}
use Rattle.frame.specs.Frame.{batch_most}
use Rattle.batch.proofs.Left.{Next, next_item, next_index, rest_less}
use Rattle.batch.proofs.Written.{room_left}
use Rattle.undone_answers.proofs.Telling.{begins, ended, next_tells, stopped, again}
use Rattle.undone_answers.proofs.tell_undone.Goals.{In-Some}
use Rattle.undone_answers.proofs.tell_undone.Goals as goal

pub loop-next-init : goal.loop-next-init
loop-next-init c = begins c.args.index c.args.reason c.requires

pub overflow_cast-count : goal.overflow_cast-count
overflow_cast-count c = omega (arith, c.loop-next.invariant.items.few)

pub shape_of-out-in_default : goal.shape_of-out-in_default
shape_of-out-in_default c = c.loop-next.invariant.written.same

pub returns-in_default : goal.returns-in_default
returns-in_default c = ended c.loop-next.invariant (sym c.body_field.ensures ∙ c.in_default.is)

item : (c : In-Some) → Next c.loop-next.invariant.items c.in-Some.next
item c = next_item c.loop-next.invariant.items (sym c.body_field.ensures ∙ c.in-Some.is)

before_last : (c : In-Some) → c.loop-next.i < batch_most
before_last c = next_index c.loop-next.invariant.items (item c)

pub slice_bounds-tell_item-count : goal.slice_bounds-tell_item-count
slice_bounds-tell_item-count c = (item (goal.at.slice_bounds-tell_item-count c).In-Some).past

pub slice_bounds-tell_item-start : goal.slice_bounds-tell_item-start
slice_bounds-tell_item-start c = omega (arith, (item (goal.at.slice_bounds-tell_item-start c).In-Some).past, (item (goal.at.slice_bounds-tell_item-start c).In-Some).within)

pub slice_bounds-tell_item-end : goal.slice_bounds-tell_item-end
slice_bounds-tell_item-end c = (item (goal.at.slice_bounds-tell_item-end c).In-Some).within

pub slice_bounds-tell_item-count-in-loop-next : goal.slice_bounds-tell_item-count-in-loop-next
slice_bounds-tell_item-count-in-loop-next c = room_left c.loop-next.invariant.written (before_last (goal.at.slice_bounds-tell_item-count-in-loop-next c).In-Some)

pub slice_bounds-tell_item-start-in-loop-next : goal.slice_bounds-tell_item-start-in-loop-next
slice_bounds-tell_item-start-in-loop-next c = slice_bounds-tell_item-count-in-loop-next c

pub tell_item-used-requires : goal.tell_item-used-requires
tell_item-used-requires c = next_tells c.loop-next.invariant (item (goal.at.tell_item-used-requires c).In-Some)

pub overflow_add-at : goal.overflow_add-at
overflow_add-at c =
    omega (arith, before_last (goal.at.overflow_add-at c).In-Some, c.loop-next.invariant.written.used, c.tell_item-used.ensures.few)

pub overflow_add-i : goal.overflow_add-i
overflow_add-i c = omega (arith, before_last (goal.at.overflow_add-i c).In-Some)

pub overflow_cast-count-then-failed : goal.overflow_cast-count-then-failed
overflow_cast-count-then-failed c = omega (arith, before_last (goal.at.overflow_cast-count-then-failed c).In-Some)

pub returns-then-failed : goal.returns-then-failed
returns-then-failed c =
    let d = c.tell_item-used in
    stopped c.loop-next.invariant (item (goal.at.returns-then-failed c).In-Some) refl c.said_of-said.ensures d.ensures d.auto.out (eq-eqb c.loop-next.i c.args.index c.if-failed.true)

pub slice_bounds-left-count : goal.slice_bounds-left-count
slice_bounds-left-count c = (item (goal.at.slice_bounds-left-count c).In-Some).within

pub slice_bounds-left-start : goal.slice_bounds-left-start
slice_bounds-left-start c = omega (arith, slice_bounds-left-count c)

pub loop-next-smaller : goal.loop-next-smaller
loop-next-smaller c = rest_less c.loop-next.invariant.items (item (goal.at.loop-next-smaller c).In-Some)

pub loop-next-preserved : goal.loop-next-preserved
loop-next-preserved c =
    let done = c.tell_item-used in
    again c.loop-next.invariant (item (goal.at.loop-next-preserved c).In-Some) refl c.said_of-said.ensures done.ensures done.auto.out (ne_eqb c.loop-next.i c.args.index c.if-failed.false)
