-- `frame::read_version`. Step by step, as the definition goes.
-- Assumes nothing.
use mathlib.Core.Path.{sym, ◌∙◌}
use Rattle.frame.specs.Frame.{version_in}
use Rattle.runs.proofs.Steps.{stops, goes, fails, holds}
use Rattle.frame.proofs.read_version.Goals as goal

pub returns-in_err-major : goal.returns-in_err-major
unfolding version_in
returns-in_err-major c =
    c.from_residual.ensures ∙ sym (stops _ (sym c.in_err-major.ensures))

pub returns-in_err-minor : goal.returns-in_err-minor
unfolding version_in
returns-in_err-minor c =
    c.from_residual-in_err-minor.ensures ∙ sym (goes _ (sym c.in_ok-major.ensures) ∙ stops _ (sym c.in_err-minor.ensures))

pub returns-in_err-end : goal.returns-in_err-end
unfolding version_in
returns-in_err-end c =
    c.from_residual-in_err-end.ensures ∙ sym (goes _ (sym c.in_ok-major.ensures) ∙ goes _ (sym c.in_ok-minor.ensures)
    ∙ fails _ (sym c.in_err-end.ensures))

pub returns : goal.returns
unfolding version_in
returns c =
    sym (goes _ (sym c.in_ok-major.ensures) ∙ goes _ (sym c.in_ok-minor.ensures) ∙ holds _ (sym c.in_ok-end.ensures))
