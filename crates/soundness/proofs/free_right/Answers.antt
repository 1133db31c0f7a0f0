-- `soundness::free_right`. What is lent is the line and the body of the place.
-- Assumes nothing.
use mathlib.Core.Path.{ap, ◌∙◌}
use Rattle.octets.specs.Octets.{all_zero}
use Rattle.table.specs.Layout.{line_start, body_start, line_size, body_size}
use Rattle.soundness.specs.Sound.{free_right}
use Rattle.octets.proofs.Bools.{and_cong}
use Rattle.soundness.proofs.Parts.{lent_part_lem}
use Rattle.soundness.proofs.free_right.Goals as goal

pub returns : goal.returns
unfolding free_right
returns c =
    let a = c.args in
    let l = c.line-line in
    let b = c.body-body in
    and_cong
    (c.all_zero.ensures ∙ ap all_zero (lent_part_lem a.t.now l.result (line_start a.i) line_size l.ensures))
    (c.all_zero-2.ensures ∙ ap all_zero (lent_part_lem a.t.now b.result (body_start a.n a.i) body_size b.ensures))
