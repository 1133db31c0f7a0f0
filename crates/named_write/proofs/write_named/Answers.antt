-- `named_write::write_named`. The text of the serial.
-- Assumes nothing.
use Rattle.named_write.proofs.Named.{wrote_named}
use Rattle.named_write.proofs.write_named.Goals as goal

pub returns : goal.returns
returns c =
    let a = c.args in
    wrote_named a.tag a.serial c.text_of-text.result c.text_of-text.ensures c.write_text.ensures
