-- `twin_rules::own_name`. No name is not looked for; else it is what the search found.
-- Assumes nothing.
use mathlib.Core.Path.{sym, ap, ◌∙◌}
use mathlib.Core.Bool.{not}
use borrow.Author.Tests.{eq-eqb, ne_eqb}
use Rattle.octets.proofs.If.{ifb_true, ifb_false}
use Rattle.twin_rules.specs.Checked.{is_at, own_name}
use Rattle.twin_rules.proofs.Serials.{at_eq}
use Rattle.twin_rules.proofs.own_name.Goals as goal

pub returns-then-name-eq0 : goal.returns-then-name-eq0
unfolding own_name
returns-then-name-eq0 c = sym (ifb_false _ _ _ (ap not (eq-eqb _ 0 c.if-name-eq0.true)))

pub returns : goal.returns
unfolding own_name
returns c =
    let a = c.args in
    c.eq.ensures ∙ at_eq a.i _ ∙ ap (is_at a.i) c.find_name.ensures ∙ sym (ifb_true _ _ _ (ap not (ne_eqb _ 0 c.if-name-eq0.false)))
