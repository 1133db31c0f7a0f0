-- `words::put_words`. Four numbers, stored one behind the other.
-- Assumes nothing.
use Rattle.words.proofs.Laws.{words_chain}
use Rattle.words.proofs.put_words.Goals as goal

pub returns : goal.returns
returns c =
    let a = c.args in
    words_chain a.t.now a.at a.w c.put.ensures c.put-2.ensures c.put-3.ensures c.put-4.ensures
