-- `date_rules::dated_state`. One date after the other.
-- Assumes nothing.
use mathlib.Core.Path.{ap, ◌∙◌}
use Rattle.date_rules.specs.Dates.{started_state, stopped_state, dated_state}
use Rattle.date_rules.proofs.dated_state.Goals as goal

pub returns : goal.returns
unfolding started_state stopped_state dated_state
returns c =
    let a = c.args in
    c.moved_by.ensures ∙ ap (stopped_state a.clock a.deactivation) c.moved_by-now.ensures
