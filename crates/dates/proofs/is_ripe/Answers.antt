-- `is_ripe` meets its contract: a free place waits for nothing; elsewhere the state that the dates make is compared with the state.
-- Assumes nothing.
use Rattle.dates.proofs.Returns.{free_waits, key_waits}
use Rattle.dates.proofs.is_ripe.Goals as goal

pub returns-then-serial_at-eq0 : goal.returns-then-serial_at-eq0
returns-then-serial_at-eq0 c =
    let a = c.args in
    free_waits a.n a.clock a.t.now a.i _ c.serial_at.ensures c.if-serial_at-eq0.true

pub returns : goal.returns
returns c =
    let a = c.args in
    key_waits a.n a.clock a.t.now a.i _ c.serial_at.ensures c.if-serial_at-eq0.false c.line-line.ensures c.body-body.ensures
    c.number_at-state.ensures.0
    c.number_at-activation.ensures.0
    c.number_at-deactivation.ensures.0
    c.dated_state.ensures
