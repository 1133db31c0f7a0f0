-- `attributes_write::write_always`. The four numbers, one behind another.
-- Assumes nothing.
use native.Mathlib.Omega.{arith}
use Rattle.ttlv_types.specs.Types.{integer, enumeration}
use Rattle.tags.specs.Tags.{cryptographic_algorithm, cryptographic_length, cryptographic_usage_mask, state_tag}
use Rattle.attributes_read.specs.Attributes.{aes}
use Rattle.ttlv_put.specs.Write.{join}
use Rattle.named_write.proofs.Compose.{puts_word, then_word}
use Rattle.attributes_write.proofs.write_always.Goals as goal

pub returns : goal.returns
unfolding join
returns c =
    let a = c.args in
    let algorithm = puts_word cryptographic_algorithm enumeration aes c.write_number.ensures (omega arith) in
    let bits = then_word algorithm cryptographic_length integer a.bits c.write_number-2.ensures (omega arith) in
    let mask = then_word bits cryptographic_usage_mask integer a.mask c.write_number-3.ensures (omega arith) in
    then_word mask state_tag enumeration a.state c.write_number-4.ensures (omega arith)
