-- `search::find`. Zero is not looked for.
-- Assumes nothing.
use mathlib.Core.Path.{sym, ◌∙◌}
use borrow.Author.Tests.{eq-eqb}
use Rattle.octets.proofs.If.{ifb_true}
use Rattle.search.proofs.Finds.{find_first}
use Rattle.search.specs.Search.{find}
use Rattle.search.proofs.find.Goals as goal

pub returns-then-serial-eq0 : goal.returns-then-serial-eq0
unfolding find
returns-then-serial-eq0 c = sym (ifb_true _ _ _ (eq-eqb c.args.serial 0 c.if-serial-eq0.true))

pub returns : goal.returns
returns c =
    let a = c.args in
    c.place_with.ensures ∙ sym (find_first a.n a.t.now a.serial c.if-serial-eq0.false)
