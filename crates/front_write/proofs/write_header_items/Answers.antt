-- `front_write::write_header_items`. The version, then Time Stamp, then Batch Count.
-- Assumes nothing.
use native.Mathlib.Omega.{arith}
use Rattle.ttlv_types.specs.Types.{integer, date_time}
use Rattle.tags.specs.Tags.{batch_count, time_stamp}
use Rattle.ttlv_put.specs.Write.{join}
use Rattle.answer.specs.Respond.{header_items, version_items}
use Rattle.named_write.proofs.Compose.{then_long, then_word}
use Rattle.front_write.proofs.write_header_items.Goals as goal

pub returns : goal.returns
unfolding header_items version_items join
returns c =
    let a = c.args in
    let stamp = then_long c.write_version-n.ensures time_stamp date_time a.clock c.write_number.ensures (omega arith) in
    then_word stamp batch_count integer a.count c.write_number-2.ensures (omega arith)
