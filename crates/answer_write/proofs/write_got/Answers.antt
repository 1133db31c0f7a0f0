-- `answer_write::write_got`. What Create answers, and the key behind it.
-- Assumes nothing.
use native.Mathlib.Omega.{arith}
use Rattle.ttlv_put.specs.Write.{join}
use Rattle.ttlv_put.proofs.Holds.{holds_left}
use Rattle.named_write.proofs.Compose.{puts_then}
use Rattle.answer_write.proofs.write_got.Goals as goal

pub write_key-m-requires : goal.write_key-m-requires
write_key-m-requires c =
    let p = c.write_created-n.ensures in
    omega (arith, p.few, holds_left p.holds)

pub returns : goal.returns
unfolding join
returns c =
    puts_then c.write_created-n.ensures c.write_key-m.ensures
