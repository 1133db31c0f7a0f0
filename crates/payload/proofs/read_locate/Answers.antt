-- `payload::read_locate`. Step by step, as the definition goes.
-- Assumes nothing.
use mathlib.Core.Path.{sym, ◌∙◌}
use Rattle.payload.specs.Payload.{locate_in}
use Rattle.runs.proofs.Steps.{stops, goes, fails, holds}
use Rattle.payload.proofs.read_locate.Goals as goal

pub returns-in_err-body : goal.returns-in_err-body
unfolding locate_in
returns-in_err-body c =
    c.from_residual.ensures ∙ sym (stops _ (sym c.in_err-body.ensures))

pub returns-in_err-end : goal.returns-in_err-end
unfolding locate_in
returns-in_err-end c =
    c.from_residual-in_err-end.ensures ∙ sym (goes _ (sym c.in_ok-body.ensures) ∙ fails _ (sym c.in_err-end.ensures))

pub returns-in_err-name : goal.returns-in_err-name
unfolding locate_in
returns-in_err-name c =
    c.from_residual-in_err-name.ensures ∙ sym (goes _ (sym c.in_ok-body.ensures) ∙ holds _ (sym c.in_ok-end.ensures)
    ∙ stops _ (sym c.in_err-name.ensures))

pub returns : goal.returns
unfolding locate_in
returns c =
    sym (goes _ (sym c.in_ok-body.ensures) ∙ holds _ (sym c.in_ok-end.ensures) ∙ goes _ (sym c.in_ok-name.ensures))
