-- `records_write::put_line`. The six fields, written one after another, are the line.
-- Assumes nothing.
use Rattle.table.proofs.Lines.{line_chain}
use Rattle.records_write.proofs.put_line.Goals as goal

pub returns : goal.returns
returns c =
    let a = c.args in
    line_chain a.t.now a.at a.serial a.state a.unit a.bits a.replaced a.replacement
    c.put.ensures
    c.put-2.ensures
    c.put-3.ensures
    c.put-4.ensures
    c.put-5.ensures
    c.put-6.ensures
