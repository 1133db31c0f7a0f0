-- `hex::pair_of`. Both halves of a byte are digits.
-- Assumes nothing.
use native.Mathlib.Omega.{arith}
use Rattle.hex_digits.proofs.pair_of.Goals as goal

pub character-requires : goal.character-requires
character-requires c = omega arith

pub character-requires-2 : goal.character-requires-2
character-requires-2 c = omega arith

pub returns : goal.returns
returns c = rw (c.character.ensures, c.character-2.ensures)
