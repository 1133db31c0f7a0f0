-- `cardslib::script`. What is left shrinks with each line.
-- Assumes nothing.
use Rattle.std.proofs.Common.{length, ◌≡◌}
use Rattle.cardslib.proofs.script.Given as goal

abbrev pub invariant-loop-left : goal.invariant-loop-left
invariant-loop-left g l =
    (length l.table ≡ length l.initial.table) × (length l.out ≡ length l.initial.out) × (length l.second ≡ length l.initial.second)

abbrev pub decreases-loop-left : goal.decreases-loop-left
decreases-loop-left g l = length l.left
