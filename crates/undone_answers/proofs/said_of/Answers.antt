-- `undone_answers::said_of`. By whether the item failed.
-- Assumes nothing.
use mathlib.Core.Path.{sym}
use Rattle.octets.proofs.If.{ifb_true, ifb_false}
use Rattle.undone_answers.specs.Undone.{said_of}
use Rattle.undone_answers.proofs.said_of.Goals as goal

pub returns-then-failed : goal.returns-then-failed
unfolding said_of
returns-then-failed c = sym (ifb_true _ _ _ c.if-failed.true)

pub returns : goal.returns
unfolding said_of
returns c = sym (ifb_false _ _ _ c.if-failed.false)
