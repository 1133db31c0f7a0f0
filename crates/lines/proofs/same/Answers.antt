-- `lines::same`. The test of std, byte by byte.
-- Assumes nothing.
use native.Mathlib.Omega.{arith}
use lib.ListN.{length}
use lib.Seq.{take_all}
use Rattle.lines.proofs.Lines.{same_pointwise}
use Rattle.lines.proofs.same.Goals as goal

pub returns : goal.returns
returns c =
    let e = c.eq.ensures in
    let p = same_pointwise c.args.a.now c.args.b.now in
    let t = take_all (length c.args.b.now) c.args.b.now (omega arith) in
    cc
