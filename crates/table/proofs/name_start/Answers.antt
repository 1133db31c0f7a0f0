-- `table::name_start`. The number is read where the name's bytes begin.
-- Assumes nothing.
use Rattle.table.proofs.Places.{name_starts}
use Rattle.table.proofs.name_start.Goals as goal

pub returns : goal.returns
returns c =
    let a = c.args in
    name_starts a.n a.t.now a.i c.body-at.ensures c.number_at.ensures.0
