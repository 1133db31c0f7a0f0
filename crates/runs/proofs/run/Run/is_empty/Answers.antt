-- `Run::is_empty`. No item is left where no byte is.
-- Assumes nothing.
use mathlib.Core.Path.{sym, ◌∙◌}
use Rattle.fields.proofs.Lift.{ended_lifts}
use Rattle.runs.proofs.run.Run.is_empty.Goals as goal

pub returns : goal.returns
returns c = let a = c.args in c.is_empty.ensures ∙ sym (ended_lifts a.self.bytes.now a.self.run)
