-- `begin` meets its contract: the later clock stored, and the sweep by it.
-- Assumes nothing.
use Rattle.dates.proofs.Returns.{begins}
use Rattle.dates.proofs.begin.Goals as goal

pub returns : goal.returns
returns c =
    let a = c.args in
    begins a.n a.given a.t.now _ _ c.latest_clock-latest.ensures c.max-clock.ensures _ c.set_latest_clock.ensures _ c.ripen.ensures
