-- `script::decimal`. By whether the character is a digit.
-- Assumes nothing.
use mathlib.Core.Path.{sym}
use Rattle.octets.proofs.If.{ifb_true, ifb_false}
use Rattle.script.proofs.decimal.Goals as goal

pub returns-then-c : goal.returns-then-c
returns-then-c c = sym (ifb_true _ _ _ c.if-c.true)

pub returns-else-c : goal.returns-else-c
returns-else-c c = sym (ifb_false _ _ _ c.if-c.false)
