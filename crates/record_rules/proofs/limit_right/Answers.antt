-- `record_rules::limit_right`. Each arm is the definition's, by its test on the unit.
-- Assumes nothing.
use borrow.Author.Tests.{eq-eqb, ne_eqb}
use Rattle.octets.proofs.If.{ifb_true, ifb_false}
use Rattle.octets.proofs.Bools.{and_cong}
use mathlib.Core.Path.{refl, sym, ◌∙◌}
use Rattle.record_rules.specs.Rules.{limit_right}
use Rattle.record_rules.proofs.limit_right.Goals as goal

pub returns-then-p-eq0 : goal.returns-then-p-eq0
unfolding limit_right
returns-then-p-eq0 c = sym (ifb_true _ _ _ (eq-eqb _ 0 c.if-p-eq0.true))

pub returns : goal.returns
unfolding limit_right
returns c =
    and_cong (and_cong c.unit_ok.ensures c.total_ok.ensures) refl
    ∙ sym (ifb_false _ _ _ (ne_eqb _ 0 c.if-p-eq0.false))
