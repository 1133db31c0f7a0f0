-- `front_write::write_version_body`. The two numbers, one behind the other.
-- Assumes nothing.
use native.Mathlib.Omega.{arith}
use Rattle.ttlv_types.specs.Types.{integer}
use Rattle.tags.specs.Tags.{protocol_version_major, protocol_version_minor}
use Rattle.ttlv_put.specs.Write.{join}
use Rattle.named_write.proofs.Compose.{puts_word, then_word}
use Rattle.front_write.proofs.write_version_body.Goals as goal

pub returns : goal.returns
unfolding join
returns c =
    let major = puts_word protocol_version_major integer 2 c.write_number.ensures (omega arith) in
    then_word major protocol_version_minor integer 1 c.write_number-2.ensures (omega arith)
