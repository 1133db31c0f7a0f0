-- `sought` meets its contract: the serial named, or the placeholder's.
-- Assumes nothing.
use mathlib.Core.Path.{sym, ap}
use Rattle.act.specs.Act.{sought}
use Rattle.act.proofs.sought.Goals as goal

pub returns-in-Placeholder : goal.returns-in-Placeholder
unfolding sought
returns-in-Placeholder c = sym (ap (sought c.args.holder) c.in-Placeholder.is)

pub returns-in-Serial : goal.returns-in-Serial
unfolding sought
returns-in-Serial c = sym (ap (sought c.args.holder) c.in-Serial.is)
