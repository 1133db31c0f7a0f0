-- `attributes_write::write_links`. The second link behind the first.
-- Assumes nothing.
use Rattle.ttlv.specs.Items.{nil}
use Rattle.answer.specs.Respond.{link_items, replaced_object_link, replacement_object_link}
use Rattle.named_write.proofs.Compose.{puts_then}
use Rattle.attributes_write.proofs.Parts.{link_join}
use Rattle.attributes_write.proofs.write_links.Goals as goal

pub returns : goal.returns
returns c =
    let a = c.args in
    rw (← link_join replaced_object_link a.replaced (link_items replacement_object_link a.replacement nil)) (puts_then c.write_link-n.ensures c.write_link-m.ensures)
