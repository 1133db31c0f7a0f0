-- `undone_answers::tell_undone`. Between two items: what is answered stands in the room, and the answers to the rest make the whole.
-- Assumes nothing.
use lib.ListN.{length}
use Rattle.undone_answers.specs.Undone.{undone_over}
use Rattle.undone_answers.proofs.Telling.{Telling}
use Rattle.undone_answers.proofs.tell_undone.Given as goal

abbrev pub invariant-loop-next : goal.invariant-loop-next
invariant-loop-next l = Telling (undone_over l.index l.reason l.items) l.index l.reason l.initial.out l.out l.left l.i l.at

abbrev pub decreases-loop-next : goal.decreases-loop-next
decreases-loop-next l = length l.left
