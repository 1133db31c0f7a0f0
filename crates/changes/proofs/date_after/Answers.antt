-- `date_after` meets its contract: the clock where the date is set, else the date.
-- Assumes nothing.
use mathlib.Core.Path.{sym}
use Rattle.octets.proofs.If.{ifb_true, ifb_false}
use Rattle.changes.proofs.date_after.Goals as goal

pub returns-then-sets : goal.returns-then-sets
returns-then-sets c = sym (ifb_true _ _ _ c.if-sets.true)

pub returns : goal.returns
returns c = sym (ifb_false _ _ _ c.if-sets.false)
