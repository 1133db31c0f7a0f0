-- `batch::run_items`. Between two items: what is answered stands in the room, and the rest of the batch gives the whole.
-- Assumes nothing.
use lib.ListN.{length}
use Rattle.batch.specs.Runs.{ran_over}
use Rattle.batch.proofs.Turns.{Mid}
use Rattle.batch.proofs.run_items.Given as goal

abbrev pub invariant-loop-next : goal.invariant-loop-next
invariant-loop-next l = Mid l.n (ran_over l.n l.items l.fresh l.option l.initial.table) l.fresh l.option l.initial.out l.table l.out l.left l.i l.holder l.at

abbrev pub decreases-loop-next : goal.decreases-loop-next
decreases-loop-next l = length l.left
