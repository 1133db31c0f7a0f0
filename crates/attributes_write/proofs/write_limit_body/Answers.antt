-- `attributes_write::write_limit_body`. The three numbers, one behind another.
-- Assumes nothing.
use native.Mathlib.Omega.{arith}
use Rattle.ttlv_types.specs.Types.{long_integer, enumeration}
use Rattle.tags.specs.Tags.{usage_limits_total, usage_limits_count, usage_limits_unit}
use Rattle.ttlv_put.specs.Write.{join}
use Rattle.named_write.proofs.Compose.{puts_long, then_long, then_word}
use Rattle.attributes_write.proofs.write_limit_body.Goals as goal

pub returns : goal.returns
unfolding join
returns c =
    let a = c.args in
    let total = puts_long usage_limits_total long_integer a.total c.write_number.ensures (omega arith) in
    let count = then_long total usage_limits_count long_integer a.count c.write_number-2.ensures (omega arith) in
    then_word count usage_limits_unit enumeration a.unit c.write_number-3.ensures (omega arith)
