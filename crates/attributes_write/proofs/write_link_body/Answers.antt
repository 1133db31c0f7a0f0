-- `attributes_write::write_link_body`. The type, and the name behind it.
-- Assumes nothing.
use native.Mathlib.Omega.{arith}
use mathlib.Core.Path.{refl}
use Rattle.ttlv_types.specs.Types.{enumeration}
use Rattle.tags.specs.Tags.{link_type, linked_object_identifier}
use Rattle.ttlv_put.specs.Write.{join}
use Rattle.ttlv_put.proofs.Holds.{holds_left}
use Rattle.named_write.proofs.Named.{puts_named}
use Rattle.named_write.proofs.Compose.{puts_word, puts_then}
use Rattle.attributes_write.proofs.write_link_body.Goals as goal

pub returns : goal.returns
unfolding join
returns c =
    let a = c.args in
    let typed = puts_word link_type enumeration a.kind c.write_number.ensures (omega arith) in
    puts_then typed (puts_named linked_object_identifier a.serial refl c.write_named-n.ensures (omega (arith, holds_left typed.holds)))
