-- `batch::ends`. By whether the item failed.
-- Assumes nothing.
use mathlib.Core.Path.{◌≡◌}
use mathlib.Core.Bool.{true, false}
use Rattle.batch.proofs.ends.Goals as goal

pub returns-then-not-failed : goal.returns-then-not-failed
returns-then-not-failed c = let e : c.args.failed ≡ false = c.if-not-failed.true in rw e

pub returns : goal.returns
returns c = let e : c.args.failed ≡ true = c.if-not-failed.false in rw e
