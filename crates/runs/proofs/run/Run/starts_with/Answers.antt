-- `Run::starts_with`. What the field reader found, as items.
-- Assumes nothing.
use mathlib.Core.Path.{sym, ◌∙◌}
use Rattle.fields.proofs.Lift.{starts_lifts}
use Rattle.runs.proofs.run.Run.starts_with.Goals as goal

pub returns : goal.returns
returns c = let a = c.args in c.starts_with.ensures ∙ sym (starts_lifts a.self.bytes.now a.self.run a.tag)
