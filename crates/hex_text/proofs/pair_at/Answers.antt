-- `hex_text::pair_at`. By whether there are two characters.
-- Assumes nothing.
use mathlib.Core.Path.{sym, ◌∙◌}
use native.Mathlib.Omega.{arith}
use Rattle.hex_text.proofs.Texts.{first_two, first_cut}
use Rattle.hex_text.proofs.pair_at.Goals as goal

pub returns-then-s-i-lt2 : goal.returns-then-s-i-lt2
returns-then-s-i-lt2 c = sym (first_cut c.args.s.now c.args.i c.requires c.if-s-i-lt2.true)

pub returns : goal.returns
returns c = c.byte_of.ensures ∙ sym (first_two c.args.s.now c.args.i c.requires (omega arith))
