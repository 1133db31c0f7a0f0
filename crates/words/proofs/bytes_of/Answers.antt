-- `words::bytes_of`. The numbers stored over 32 zeros.
-- Assumes nothing.
use mathlib.Core.Path.{refl, ◌∙◌}
use Rattle.words.proofs.Laws.{words_whole}
use Rattle.words.proofs.bytes_of.Goals as goal

pub returns : goal.returns
returns c = c.put_words.ensures ∙ words_whole _ c.args.w refl
