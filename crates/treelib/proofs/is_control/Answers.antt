-- `treelib::is_control`. The tests compute to the definition's, with what the calls answer.
-- Assumes nothing.
use Rattle.treelib.proofs.is_control.Goals as goal

pub returns : goal.returns
returns c = rw (c.is_upper_control.ensures, c.is_upper_control-2.ensures)
