-- `soundness::zeros_right`. What is lent is the zeros field of the place.
-- Assumes nothing.
use Prim.Native.Nat.{ℕ, ◌+◌}
use mathlib.Core.Path.{ap, ◌∙◌}
use Rattle.octets.specs.Octets.{all_zero}
use Rattle.table.specs.Layout.{body_start, zeros_in}
use Rattle.soundness.specs.Sound.{zeros_right}
use Rattle.soundness.proofs.Parts.{lent_part_lem}
use Rattle.soundness.proofs.zeros_right.Goals as goal

pub returns : goal.returns
unfolding zeros_right
returns c =
    let a = c.args in
    let b = c.body-zeros in
    c.all_zero.ensures ∙ ap all_zero (lent_part_lem a.t.now (b.result + zeros_in) (body_start a.n a.i + zeros_in) 4 (ap (λ (at : ℕ). at + zeros_in) b.ensures))
