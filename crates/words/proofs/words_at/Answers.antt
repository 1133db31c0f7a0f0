-- `words::words_at`. Four numbers, each read where it stands.
-- Assumes nothing.
use Rattle.words.proofs.Laws.{words_there}
use Rattle.words.proofs.words_at.Goals as goal

pub returns : goal.returns
returns c =
    let a = c.args in
    words_there a.s.now a.at c.number_at.ensures.0 c.number_at-2.ensures.0 c.number_at-3.ensures.0 c.number_at-4.ensures.0
