-- `ripen` meets its contract: what is left of the sweep gives the whole.
-- Assumes nothing.
use mathlib.Core.Path.{sym, ap, ◌∙◌}
use native.Mathlib.Omega.{arith}
use borrow.Author.Rules.{rules}
use Rattle.changes.proofs.Sweep.{left, left_end, left_more}
use Rattle.dates.proofs.Returns.{left_start}
use Rattle.dates.proofs.ripen.Goals as goal

pub loop-i-init : goal.loop-i-init
loop-i-init c = (search rules, left_start _ _ _)

pub loop-i-preserved : goal.loop-i-preserved
loop-i-preserved c =
    let a = c.args in
    let l = c.loop-i in
    (search rules, ap (left a.n a.clock _) c.ripen_at.ensures ∙ left_more a.n a.clock l.t l.i (omega arith) ∙ l.invariant.1)

pub returns : goal.returns
returns c = sym (left_end c.args.n c.args.clock c.loop-i.t c.loop-i.i (omega arith)) ∙ c.loop-i.invariant.1
