-- `lines::is_silent`. By whether there is a first byte.
-- Assumes nothing.
use mathlib.Core.Path.{sym, ◌∙◌}
use borrow.Author.Tests.{eqb-true, eqb-false}
use Rattle.lines.proofs.Lines.{silent_none, silent_first}
use Rattle.lines.proofs.is_silent.Goals as goal

pub returns-then-is_empty : goal.returns-then-is_empty
returns-then-is_empty c =
    let e = c.if-is_empty.true in
    let s = silent_none c.args.line.now (eqb-true _ _ (sym c.is_empty.ensures ∙ e)) in
    cc

pub returns-else-is_empty : goal.returns-else-is_empty
returns-else-is_empty c = sym (silent_first c.args.line.now (eqb-false _ _ (sym c.is_empty.ensures ∙ c.if-is_empty.false)))
