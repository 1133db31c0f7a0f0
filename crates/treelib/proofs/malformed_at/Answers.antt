-- `treelib::malformed_at`. The first fault, or else the first item by its kind.
-- Assumes nothing.
use mathlib.Core.Path.{◌≡◌, sym, ap, ◌∙◌}
use native.Mathlib.Omega.{arith}
use lib.ListN.{length}
use borrow.Author.Tests.{lt-ltb, le-ltb}
use Rattle.octets.proofs.If.{ifb_true, ifb_false}
use Rattle.ttlv.specs.Parse.{depth_most}
use Rattle.ttlv_fault.specs.Fault.{fault_of}
use Rattle.treelib.specs.Malformed.{first_end, malformed_at}
use Rattle.treelib.proofs.malformed_at.Goals.{After-read_first}
use Rattle.treelib.proofs.malformed_at.Goals as goal

pub returns-then-fault-s : goal.returns-then-fault-s
unfolding malformed_at
returns-then-fault-s c =
    let s = c.args.s.now in
    let e = c.first_fault-fault.ensures in
    e ∙ sym (ifb_true _ _ _ (lt-ltb (fault_of depth_most s) (length s) (omega arith)))

-- no item is malformed: where the first one ends
whole : (c : After-read_first) → malformed_at c.args.s.now ≡ first_end c.read_first.result
unfolding malformed_at
whole c =
    let run = c.args.s.now in
    let fault = c.first_fault-fault.ensures in
    ifb_false _ _ _ (le-ltb (fault_of depth_most run) (length run) (omega arith)) ∙ ap first_end (sym c.read_first.ensures)

pub returns-in-End : goal.returns-in-End
unfolding first_end
returns-in-End c = sym (whole (goal.at.returns-in-End c).After-read_first ∙ ap first_end c.in-End.is)

pub returns-in-Bad : goal.returns-in-Bad
unfolding first_end
returns-in-Bad c = sym (whole (goal.at.returns-in-Bad c).After-read_first ∙ ap first_end c.in-Bad.is)

pub returns-in-Value : goal.returns-in-Value
unfolding first_end
returns-in-Value c = sym (whole (goal.at.returns-in-Value c).After-read_first ∙ ap first_end c.in-Value.is)

pub returns-in-Group : goal.returns-in-Group
unfolding first_end
returns-in-Group c = sym (whole (goal.at.returns-in-Group c).After-read_first ∙ ap first_end c.in-Group.is)
