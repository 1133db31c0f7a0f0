-- `hex::character`. The test of the digit picks the character.
-- Assumes nothing.
use mathlib.Core.Path.{sym}
use borrow.Author.Tests.{lt-ltb, le-ltb}
use Rattle.octets.proofs.If.{ifb_true, ifb_false}
use Rattle.hex_digits.proofs.character.Goals as goal

pub returns-then-d-lt10 : goal.returns-then-d-lt10
returns-then-d-lt10 c = sym (ifb_true _ _ _ (lt-ltb c.args.d 10 c.if-d-lt10.true))

pub returns : goal.returns
returns c = sym (ifb_false _ _ _ (le-ltb c.args.d 10 c.if-d-lt10.false))
