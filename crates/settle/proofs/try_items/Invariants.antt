-- `settle::try_items`. Between two items none has failed, and the rest of the batch decides.
-- Assumes nothing.
use lib.ListN.{length}
use Rattle.frame.specs.Frame.{undo}
use Rattle.batch.specs.Runs.{ran_over}
use Rattle.settle.proofs.Trying.{Trying}
use Rattle.settle.proofs.try_items.Given as goal

abbrev pub invariant-loop-next : goal.invariant-loop-next
invariant-loop-next l = Trying l.n (ran_over l.n l.items l.fresh undo l.initial.table) l.fresh l.table l.left l.i l.holder

abbrev pub decreases-loop-next : goal.decreases-loop-next
decreases-loop-next l = length l.left
