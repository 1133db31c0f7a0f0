-- `name_read::read_last_name`. By whether anything is left.
-- Assumes nothing.
use mathlib.Core.Path.{sym, ap, ◌∙◌}
use Rattle.std.specs.Prelude.{Some}
use Rattle.name_read.proofs.Read.{last_none, last_name}
use Rattle.name_read.proofs.read_last_name.Goals as goal

pub returns-then-is_empty : goal.returns-then-is_empty
returns-then-is_empty c = ap Some c.no_name.ensures ∙ sym (last_none _ (sym c.if-is_empty.ensures))

pub returns : goal.returns
returns c = c.read_only_name.ensures ∙ sym (last_name _ (sym c.if-is_empty.ensures))
