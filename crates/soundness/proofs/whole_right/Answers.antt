-- `soundness::whole_right`. The size is tested first, so the lead is there to be read.
-- Assumes nothing.
use Prim.Native.Nat.{ℕ}
use mathlib.Core.Path.{sym, ap, ◌∙◌}
use native.Mathlib.Omega.{arith}
use lib.Dec.{eqb}
use borrow.Author.Tests.{eqb-true}
use Rattle.table.specs.Layout.{Table}
use Rattle.values.specs.Values.{not_negative}
use Rattle.soundness.specs.Sound.{count_right, latest_right}
use Rattle.octets.proofs.Bools.{and_cong}
use Rattle.soundness.proofs.Checked.{whole_sized, whole_unsized}
use Rattle.soundness.proofs.whole_right.Goals.{Else-not-size_right}
use Rattle.soundness.proofs.whole_right.Goals as goal

pub returns-then-not-size_right : goal.returns-then-not-size_right
returns-then-not-size_right c =
    let a = c.args in
    sym (whole_unsized a.n a.t.now (sym c.size_right.ensures ∙ c.if-not-size_right.true))

-- the table has the size of n places from where its lead is read
sized : (c : Else-not-size_right) → Table c.args.n c.args.t.now
sized c = eqb-true _ _ (sym c.size_right.ensures ∙ c.if-not-size_right.false)

pub places_said-said-requires : goal.places_said-said-requires
places_said-said-requires c = omega (arith, sized c)

pub latest_clock-latest-requires : goal.latest_clock-latest-requires
latest_clock-latest-requires c = omega (arith, sized (goal.at.latest_clock-latest-requires c).Else-not-size_right)

pub returns : goal.returns
unfolding count_right latest_right
returns c =
    let a = c.args in
    and_cong (ap (λ (x : ℕ). eqb x a.n) c.places_said-said.ensures) (c.not_negative.ensures ∙ ap not_negative c.latest_clock-latest.ensures)
    ∙ sym (whole_sized a.n a.t.now (sized (goal.at.returns c).Else-not-size_right))
