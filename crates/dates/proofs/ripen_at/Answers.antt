-- `ripen_at` meets its contract: what is not due is left, and what is due is stored in its new state.
-- Assumes nothing.
use mathlib.Core.Bool.{not}
use mathlib.Core.Path.{ap}
use Rattle.changes.specs.Records.{in_state}
use Rattle.dates.proofs.Returns.{leaves, ripens}
use Rattle.dates.proofs.ripen_at.Goals as goal

pub returns-then-not-is_ripe : goal.returns-then-not-is_ripe
returns-then-not-is_ripe c =
    let a = c.args in
    leaves a.n a.clock a.t.now a.i _ c.is_ripe.ensures (ap not c.if-not-is_ripe.true)

pub returns : goal.returns
unfolding in_state
returns c =
    let a = c.args in
    ripens a.n a.clock a.t.now a.i _ c.is_ripe.ensures (ap not c.if-not-is_ripe.false) _ c.load-old.ensures _ c.dated_state-state.ensures _ c.store.ensures
