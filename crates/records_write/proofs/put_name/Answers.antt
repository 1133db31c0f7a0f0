-- `records_write::put_name`. The length, the zeros and the name bytes, one after another.
-- Assumes nothing.
use Rattle.names.proofs.Stored.{name_chain}
use Rattle.records_write.proofs.put_name.Goals as goal

pub returns : goal.returns
returns c =
    let a = c.args in
    name_chain a.t.now a.at a.name c.put.ensures c.put-2.ensures c.put_words.ensures
