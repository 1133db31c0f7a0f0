-- `name_search::has_name`. Names whose first bytes differ are not the same.
-- Assumes nothing.
use mathlib.Core.Path.{sym, ap, ◌∙◌}
use Rattle.names.specs.declared.Name.{Name}
use Rattle.names.specs.Names.{same_name}
use Rattle.names.proofs.Same.{other_start}
use Rattle.table.specs.Records.{name_at}
use Rattle.name_search.proofs.has_name.Goals as goal

pub returns-then-name_start-words : goal.returns-then-name_start-words
returns-then-name_start-words c =
    let a = c.args in
    sym (other_start (name_at a.n a.t.now a.i) a.name (λ e. c.if-name_start-words.true (c.name_start.ensures ∙ e)))

pub returns : goal.returns
returns c =
    let a = c.args in
    c.same_name.ensures ∙ ap (λ (m : Name). same_name m a.name) c.name_at.ensures
