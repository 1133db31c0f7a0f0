-- `ttlv_put::put_head`. Three puts, one behind the other.
-- Assumes nothing.
use native.Mathlib.Omega.{arith}
use Rattle.ttlv_put.proofs.Puts.{head_puts}
use Rattle.ttlv_put.proofs.put_head.Goals as goal

pub returns : goal.returns
returns c =
    let a = c.args in
    head_puts a.tag a.kind a.n a.out.now (omega arith) c.put.ensures c.put-2.ensures c.put-3.ensures
