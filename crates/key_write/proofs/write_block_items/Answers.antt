-- `key_write::write_block_items`. The format, then the value, then algorithm and length.
-- Assumes nothing.
use native.Mathlib.Omega.{arith}
use Rattle.tags.specs.Tags.{key_format_type}
use Rattle.ttlv_types.specs.Types.{enumeration}
use Rattle.ttlv_put.specs.Write.{join}
use Rattle.answer.specs.Respond.{raw}
use Rattle.named_write.proofs.Compose.{puts_word, puts_then}
use Rattle.key_write.proofs.write_block_items.Goals as goal

pub returns : goal.returns
unfolding join
returns c =
    puts_then (puts_then (puts_word key_format_type enumeration raw c.write_number.ensures (omega arith)) c.write_key_value-n.ensures) c.write_form-m.ensures
