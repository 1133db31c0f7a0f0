-- `lent::fill_strip`. What is written counts up from 0.
-- Assumes nothing.
use mathlib.Core.Path.{◌≡◌, refl, sym, ap, ◌∙◌}
use lib.ListN.{length}
use lib.Seq.{take_all}
use native.Mathlib.Omega.{arith}
use Rattle.octets.specs.Octets.{counted_from}
use Rattle.lent.proofs.Fills.{counted_on}
use Rattle.lent.proofs.fill_strip.Goals as goal

pub loop-i-init : goal.loop-i-init
unfolding counted_from
loop-i-init c = refl

pub loop-i-preserved : goal.loop-i-preserved
loop-i-preserved c = counted_on c.loop-i.s c.loop-i.i (omega arith) c.loop-i.invariant

pub returns : goal.returns
returns c =
    let l = c.loop-i in
    let end : l.i ≡ length c.args.s.now = omega arith in
    sym (take_all l.i l.s (omega arith)) ∙ l.invariant ∙ ap (counted_from 0) end
