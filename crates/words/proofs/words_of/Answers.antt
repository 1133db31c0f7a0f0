-- `words::words_of`. All of the bytes.
-- Assumes nothing.
use mathlib.Core.Path.{ap, ◌∙◌}
use native.Mathlib.Omega.{arith}
use lib.Seq.{take_all}
use Rattle.words.specs.Words.{words_of}
use Rattle.words.proofs.words_of.Goals as goal

pub returns : goal.returns
returns c = c.words_at.ensures ∙ ap words_of (take_all 32 c.args.bytes (omega arith))
