-- `names::name_of`. The length that is kept, no zeros but zeros, and the bytes filled up.
-- Assumes nothing.
use Rattle.names.proofs.Returns.{named}
use Rattle.names.proofs.name_of.Goals as goal

pub returns : goal.returns
returns c =
    named c.args.v.now c.fewer-len.ensures c.fill.ensures c.words_of-words.ensures
