-- `octets::every`. The running test and what is left decide.
-- Assumes nothing.
use mathlib.Core.Path.{sym, ap, ◌∙◌}
use mathlib.Core.Bool.{Bool, ◌&&◌}
use Prim.Native.Nat.{◌+◌, ◌<◌}
use native.Mathlib.Omega.{arith}
use lib.ListN.{length, drop, get_or}
use Rattle.octets.specs.Octets.{all}
use Rattle.octets.proofs.All.{all_on, all_end}
use Rattle.octets.proofs.Bools.{and_true}
use Rattle.octets.proofs.every.Goals as goal

pub loop-b-preserved : goal.loop-b-preserved
loop-b-preserved g c p h =
    let l = c.loop-b in
    let s = c.args.s.now in
    let inside : l.b-index < length s = omega arith in
    let t = h (get_or s l.b-index 0) c.test-clear.result (omega arith) c.test-clear.ensures in
    l.invariant p h ∙ all_on p s l.b-index l.clear inside ∙ ap (λ (b : Bool). (l.clear && b) && all p (drop (l.b-index + 1) s)) (sym t)

pub returns : goal.returns
returns g c p h =
    let l = c.loop-b in
    let s = c.args.s.now in
    sym (l.invariant p h ∙ and_true l.clear (all p (drop l.b-index s)) (all_end p s l.b-index (omega arith)))
