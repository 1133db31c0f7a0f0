-- `attributes_write::write_dates`. The second date behind the first.
-- Assumes nothing.
use Rattle.ttlv.specs.Items.{nil}
use Rattle.tags.specs.Tags.{activation_date, deactivation_date}
use Rattle.answer.specs.Respond.{date_items}
use Rattle.named_write.proofs.Compose.{puts_then}
use Rattle.attributes_write.proofs.Parts.{date_join}
use Rattle.attributes_write.proofs.write_dates.Goals as goal

pub returns : goal.returns
returns c =
    let a = c.args in
    rw (← date_join activation_date a.activation (date_items deactivation_date a.deactivation nil)) (puts_then c.write_date-n.ensures c.write_date-m.ensures)
