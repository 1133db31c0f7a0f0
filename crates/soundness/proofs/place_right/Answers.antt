-- `soundness::place_right`. Each arm is the definition's, by its test on the serial.
-- Assumes nothing.
use mathlib.Core.Path.{sym, ap, ◌∙◌}
use borrow.Author.Tests.{eq-eqb, ne_eqb}
use Rattle.octets.proofs.If.{ifb_true, ifb_false}
use Rattle.soundness.specs.Checked.{standing_right, place_right}
use Rattle.soundness.proofs.place_right.Goals as goal

pub returns-then-serial_at-eq0 : goal.returns-then-serial_at-eq0
unfolding place_right
returns-then-serial_at-eq0 c = c.free_right.ensures ∙ sym (ifb_true _ _ _ (eq-eqb _ 0 (sym c.serial_at.ensures ∙ c.if-serial_at-eq0.true)))

pub returns : goal.returns
unfolding place_right
returns c =
    let a = c.args in
    c.standing_right.ensures
    ∙ ap (standing_right a.n a.t.now a.i) c.load-p.ensures
    ∙ sym (ifb_false _ _ _ (ne_eqb _ 0 (λ e. c.if-serial_at-eq0.false (c.serial_at.ensures ∙ e))))
