-- `octets::put`. What is left to write gives the whole.
-- Assumes nothing.
use mathlib.Core.Path.{◌≡◌, ◌∙◌}
use lib.Seq.{sets}
use native.Mathlib.Omega.{arith}
use Rattle.octets.specs.Octets.{be}
use Rattle.octets.proofs.Stores.{sets_be_back}
use Rattle.octets.proofs.put.Goals as goal

pub loop-k-preserved : goal.loop-k-preserved
loop-k-preserved c =
    let l = c.loop-k in
    sets_be_back l.t c.args.at l.k l.rest (omega arith) ∙ l.invariant

pub returns : goal.returns
unfolding be
returns c =
    let l = c.loop-k in
    let a = c.args in
    let e : l.k ≡ 0 = omega arith in
    let z : sets l.t a.at (be 0 l.rest) ≡ sets a.t.now a.at (be a.width a.v) = rw e at l.invariant in
    z
