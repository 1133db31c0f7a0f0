-- `attributes_write::write_last`. The links, and the name behind them.
-- Assumes nothing.
use Rattle.ttlv.specs.Items.{nil}
use Rattle.answer.specs.Respond.{name_items, replaced_object_link, replacement_object_link}
use Rattle.named_write.proofs.Compose.{puts_then}
use Rattle.attributes_write.proofs.Parts.{links_join}
use Rattle.attributes_write.proofs.write_last.Goals as goal

pub returns : goal.returns
returns c =
    let a = c.args in
    rw (← links_join replaced_object_link replacement_object_link a.replaced a.replacement (name_items a.name nil)) (puts_then c.write_links-n.ensures c.write_name-m.ensures)
