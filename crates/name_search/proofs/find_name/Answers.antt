-- `name_search::find_name`. No name is not looked for.
-- Assumes nothing.
use mathlib.Core.Path.{sym, ap, ◌∙◌}
use mathlib.Core.Bool.{Bool, not}
use borrow.Author.Tests.{eq-eqb, ne_eqb}
use Rattle.name_search.proofs.Finds.{find_named, find_unnamed}
use Rattle.name_search.proofs.find_name.Goals as goal

pub returns-then-name-eq0 : goal.returns-then-name-eq0
returns-then-name-eq0 c =
    let a = c.args in
    sym (find_unnamed a.n a.t.now a.name (ap (λ (b : Bool). not b) (eq-eqb _ 0 c.if-name-eq0.true)))

pub returns : goal.returns
returns c =
    let a = c.args in
    c.place_named.ensures ∙ sym (find_named a.n a.t.now a.name (ap (λ (b : Bool). not b) (ne_eqb _ 0 c.if-name-eq0.false)))
