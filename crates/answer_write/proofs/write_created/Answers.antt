-- `answer_write::write_created`. The Object Type, and the name behind it.
-- Assumes nothing.
use native.Mathlib.Omega.{arith}
use mathlib.Core.Path.{refl}
use Rattle.ttlv_types.specs.Types.{enumeration}
use Rattle.tags.specs.Tags.{object_type, unique_identifier}
use Rattle.payload.specs.Payload.{symmetric_key}
use Rattle.ttlv_put.specs.Write.{join}
use Rattle.ttlv_put.proofs.Holds.{holds_left}
use Rattle.named_write.proofs.Named.{puts_named}
use Rattle.named_write.proofs.Compose.{puts_word, puts_then}
use Rattle.answer_write.proofs.write_created.Goals as goal

pub returns : goal.returns
unfolding join
returns c =
    let a = c.args in
    let typed = puts_word object_type enumeration symmetric_key c.write_number.ensures (omega arith) in
    puts_then typed (puts_named unique_identifier a.serial refl c.write_named-n.ensures (omega (arith, holds_left typed.holds)))
