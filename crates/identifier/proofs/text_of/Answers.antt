-- `identifier::text_of`. The digits that are left to write, and what is written behind them, are the whole text.
-- Assumes nothing.
use mathlib.Core.Path.{◌≡◌, refl, ◌∙◌}
use native.Mathlib.Omega.{arith}
use mathlib.Core.List.{append-nil}
use lib.ListN.{length-set}
use Rattle.identifier.specs.Identifier.{digits, identifier}
use Rattle.identifier.proofs.Turns.{writing_goes}
use Rattle.identifier.proofs.text_of.Goals as goal

pub loop-k-init : goal.loop-k-init
unfolding identifier
loop-k-init c = (refl, append-nil _)

pub loop-k-preserved : goal.loop-k-preserved
loop-k-preserved c =
    let l = c.loop-k in
    (rw length-set l.invariant.0, rw c.character.ensures (writing_goes l.text l.k l.rest (omega arith) (omega arith) ∙ l.invariant.1))

pub returns : goal.returns
unfolding digits
returns c =
    let l = c.loop-k in
    let e : l.k ≡ 0 = omega arith in
    rw e at l.invariant.1
