-- `octets::put_all`. What is written so far is a run of stores of what was read so far.
-- Assumes nothing.
use mathlib.Core.Path.{◌≡◌, ap, ◌∙◌}
use lib.ListN.{take, length-set}
use lib.Seq.{sets, take_all}
use native.Mathlib.Omega.{arith}
use Rattle.octets.proofs.Stores.{sets_more}
use Rattle.octets.proofs.put_all.Goals as goal

pub loop-k-preserved : goal.loop-k-preserved
loop-k-preserved c =
    let l = c.loop-k in
    let a = c.args in
    let e : l.t ≡ sets a.t.now a.at (take l.k a.s.now) = l.invariant.1 in
    (rw length-set l.invariant.0, rw e (sets_more a.t.now a.at a.s.now l.k (omega arith)))

pub returns : goal.returns
returns c =
    let l = c.loop-k in
    let a = c.args in
    l.invariant.1 ∙ ap (sets a.t.now a.at) (take_all l.k a.s.now (omega arith))
