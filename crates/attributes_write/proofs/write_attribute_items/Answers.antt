-- `attributes_write::write_attribute_items`. The numbers, then the dates, then the limit, then what stands last.
-- Assumes nothing.
use Rattle.ttlv.specs.Items.{nil}
use Rattle.ttlv_put.specs.Write.{join}
use Rattle.answer.specs.Respond.{attribute_items, link_items, name_items, replaced_object_link, replacement_object_link}
use Rattle.named_write.proofs.Compose.{puts_then}
use Rattle.attributes_write.proofs.Parts.{dated_join}
use Rattle.attributes_write.proofs.write_attribute_items.Goals as goal

pub returns : goal.returns
unfolding attribute_items join
returns c =
    let s = c.args.shown in
    let last = link_items replaced_object_link s.replaced (link_items replacement_object_link s.replacement (name_items s.name nil)) in
    rw (← dated_join s last) (puts_then (puts_then (puts_then c.write_always-n.ensures c.write_dates-m.ensures) c.write_limits-k.ensures) c.write_last-l.ensures)
