-- `move_at` meets its contract: too late, or the next state stored, or the reason why there is none.
-- Assumes nothing.
use Rattle.deeds.proofs.Returns.{move_late, moves, move_fails}
use Rattle.deeds.proofs.move_at.Goals as goal

pub returns-then-is_late : goal.returns-then-is_late
returns-then-is_late c =
    move_late _ _ _ _ _ _ _ c.load-old.ensures _ c.latest_clock-clock.ensures _ c.is_late.ensures c.if-is_late.true _ c.fail.ensures

pub returns-in-Ok : goal.returns-in-Ok
returns-in-Ok c =
    moves _ _ _ _ _ _ _ c.load-old.ensures _ c.latest_clock-clock.ensures _ c.is_late.ensures c.if-is_late.false
    _ c.next_state.ensures _ c.in-Ok.is _ c.moved_to-moved.ensures _ c.store_at.ensures

pub returns-in-Err : goal.returns-in-Err
returns-in-Err c =
    move_fails _ _ _ _ _ _ _ c.load-old.ensures _ c.latest_clock-clock.ensures _ c.is_late.ensures c.if-is_late.false
    _ c.next_state.ensures _ c.in-Err.is _ c.fail-in-Err.ensures
