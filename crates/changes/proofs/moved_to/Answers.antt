-- `moved_to` meets its contract: the dates first; Destroy zeroes the material, any other operation keeps it.
-- Assumes nothing.
use native.Mathlib.Omega.{arith}
use Rattle.changes.specs.Records.{in_state, with_dates}
use Rattle.changes.proofs.Moves.{moved_destroy, moved_other}
use Rattle.changes.proofs.moved_to.Goals as goal

pub returns-then-operation-eq-DESTROY : goal.returns-then-operation-eq-DESTROY
unfolding in_state with_dates
returns-then-operation-eq-DESTROY c =
    let a = c.args in
    moved_destroy a.operation a.code a.clock a.state a.old c.date_after-activation.ensures c.stops.ensures c.date_after-deactivation.ensures (omega arith)

pub returns-else-operation-eq-DESTROY : goal.returns-else-operation-eq-DESTROY
unfolding in_state with_dates
returns-else-operation-eq-DESTROY c =
    let a = c.args in
    moved_other a.operation a.code a.clock a.state a.old c.date_after-activation.ensures c.stops.ensures c.date_after-deactivation.ensures (omega arith)
