-- `table::name_at`. The length, the zeros and the name bytes, each read where it stands, are the name.
-- Assumes nothing.
use Rattle.table.proofs.Places.{name_read_lem}
use Rattle.table.proofs.name_at.Goals as goal

pub returns : goal.returns
returns c =
    let a = c.args in
    name_read_lem a.n a.t.now a.i c.body-at.ensures c.number_at-len.ensures.0 c.number_at-zeros.ensures.0 c.words_at-words.ensures
