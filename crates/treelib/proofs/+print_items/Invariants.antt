-- `treelib::print_items`. What is left gets shorter; a structure's own run is printed one level less deep, and the depth falls.
-- Assumes nothing.
use Rattle.std.proofs.Common.{length}
use Rattle.treelib.proofs.+print_items.Given as goal

abbrev pub decreases-print_items : goal.decreases-print_items
decreases-print_items g l = l.depth

abbrev pub invariant-loop-tag : goal.invariant-loop-tag
invariant-loop-tag g l = Unit {0}

abbrev pub decreases-loop-tag : goal.decreases-loop-tag
decreases-loop-tag g l = length l.t
