-- `date_rules::is_late`. The test of the date is that of its function.
-- Assumes nothing.
use mathlib.Core.Path.{ap}
use mathlib.Core.Bool.{Bool, ◌&&◌}
use lib.Dec.{eqb}
use Rattle.rules.specs.Numbers.{activate}
use Rattle.date_rules.proofs.is_late.Goals as goal

pub returns : goal.returns
returns c = ap (λ (b : Bool). eqb c.args.operation activate && b) c.has_come.ensures
