-- `soundness::material_right`. What is lent is the material from where its zeros start.
-- Assumes nothing.
use mathlib.Core.Path.{sym, ap, ◌∙◌}
use Rattle.octets.specs.Octets.{all_zero}
use Rattle.soundness.proofs.Parts.{material_lent}
use Rattle.record_rules.proofs.Material.{material_zeros}
use Rattle.soundness.proofs.material_right.Goals as goal

pub returns : goal.returns
returns c =
    let a = c.args in
    let p = c.requires in
    let z = c.zeros_from in
    c.all_zero.ensures
    ∙ ap all_zero (material_lent a.n a.t.now a.i a.p c.body-start.result z.result p.place p.held c.body-start.ensures z.ensures)
    ∙ sym (material_zeros a.p)
