-- `name_write::write_name_body`. The value, and the type behind it.
-- Assumes nothing.
use native.Mathlib.Omega.{arith}
use Rattle.ttlv_types.specs.Types.{enumeration}
use Rattle.tags.specs.Tags.{name_type}
use Rattle.ttlv_put.specs.Write.{join}
use Rattle.name_read.specs.Name.{uninterpreted_text}
use Rattle.named_write.proofs.Compose.{then_word}
use Rattle.name_write.proofs.write_name_body.Goals as goal

pub returns : goal.returns
unfolding join
returns c =
    then_word c.write_name_value-n.ensures name_type enumeration uninterpreted_text c.write_number.ensures (omega (arith, c.write_name_value-n.ensures.few))
