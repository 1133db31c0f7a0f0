-- `key_write::write_form`. One number behind the other.
-- Assumes nothing.
use native.Mathlib.Omega.{arith}
use Rattle.tags.specs.Tags.{cryptographic_algorithm, cryptographic_length}
use Rattle.ttlv_types.specs.Types.{integer, enumeration}
use Rattle.ttlv_put.specs.Write.{join}
use Rattle.attributes_read.specs.Attributes.{aes}
use Rattle.named_write.proofs.Compose.{puts_word, then_word}
use Rattle.key_write.proofs.write_form.Goals as goal

pub returns : goal.returns
unfolding join
returns c =
    let a = c.args in
    then_word (puts_word cryptographic_algorithm enumeration aes c.write_number.ensures (omega arith)) cryptographic_length integer a.bits c.write_number-2.ensures (omega arith)
