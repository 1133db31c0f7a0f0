-- `rewrite::rewrite`. What is written is the front of the message, and what is left is a run.
-- Assumes nothing.
use lib.ListN.{length}
use Rattle.rewrite.proofs.Walk.{Mid}
use Rattle.rewrite.proofs.rewrite.Given as goal

abbrev pub invariant-loop-t : goal.invariant-loop-t
invariant-loop-t l = Mid l.s l.initial.out l.out l.at l.t

abbrev pub decreases-loop-t : goal.decreases-loop-t
decreases-loop-t l = length l.t
