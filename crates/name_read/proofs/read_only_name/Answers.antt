-- `name_read::read_only_name`. Step by step, as the definition goes.
-- Assumes nothing.
use mathlib.Core.Path.{sym, ◌∙◌}
use Rattle.runs.proofs.Steps.{stops, goes, fails, holds}
use Rattle.name_read.specs.Name.{name_first, only_name_in}
use Rattle.name_read.proofs.read_only_name.Goals as goal

pub returns-in_err-body : goal.returns-in_err-body
unfolding only_name_in name_first
returns-in_err-body c = c.from_residual.ensures ∙ sym (stops _ (stops _ (sym c.in_err-body.ensures)))

pub returns-in_err-name : goal.returns-in_err-name
unfolding only_name_in name_first
returns-in_err-name c =
    c.from_residual-in_err-name.ensures
    ∙ sym (stops _ (goes _ (sym c.in_ok-body.ensures) ∙ stops _ (sym c.in_err-name.ensures)))

pub returns-in_err-end : goal.returns-in_err-end
unfolding only_name_in name_first
returns-in_err-end c =
    c.from_residual-in_err-end.ensures
    ∙ sym (goes _ (goes _ (sym c.in_ok-body.ensures) ∙ goes _ (sym c.in_ok-name.ensures)) ∙ fails _ (sym c.in_err-end.ensures))

pub returns : goal.returns
unfolding only_name_in name_first
returns c =
    sym (goes _ (goes _ (sym c.in_ok-body.ensures) ∙ goes _ (sym c.in_ok-name.ensures)) ∙ holds _ (sym c.in_ok-end.ensures))
