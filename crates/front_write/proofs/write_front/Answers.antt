-- `front_write::write_front`. The head of the message, and the header behind it.
-- Assumes nothing.
use native.Mathlib.Omega.{arith}
use mathlib.Core.Path.{refl}
use Prim.Native.Nat.{◌+◌}
use Rattle.tags.specs.Tags.{response_message}
use Rattle.ttlv_put.proofs.Holds.{holds_then}
use Rattle.answer.specs.Front.{header_size, front}
use Rattle.named_write.proofs.Compose.{holds_structure}
use Rattle.front_write.proofs.write_front.Goals as goal

pub returns : goal.returns
unfolding front
returns c =
    let a = c.args in
    let message = holds_structure response_message (header_size + a.n) refl c.write_structure.ensures (omega arith) (omega arith) (omega arith) in
    (holds_then message c.write_header.ensures.holds).bytes
