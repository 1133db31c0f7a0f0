-- `payload::read_allocation`. Step by step, as the definition goes.
-- Assumes nothing.
use mathlib.Core.Path.{sym, ◌∙◌}
use Rattle.payload.specs.Payload.{allocation_in}
use Rattle.runs.proofs.Steps.{stops, goes, fails, holds}
use Rattle.payload.proofs.read_allocation.Goals as goal

pub returns-in_err-target : goal.returns-in_err-target
unfolding allocation_in
returns-in_err-target c =
    c.from_residual.ensures ∙ sym (stops _ (sym c.in_err-target.ensures))

pub returns-in_err-amount : goal.returns-in_err-amount
unfolding allocation_in
returns-in_err-amount c =
    c.from_residual-in_err-amount.ensures ∙ sym (goes _ (sym c.in_ok-target.ensures) ∙ stops _ (sym c.in_err-amount.ensures))

pub returns-then-not-above_zero : goal.returns-then-not-above_zero
unfolding allocation_in
returns-then-not-above_zero c =
    sym (goes _ (sym c.in_ok-target.ensures) ∙ goes _ (sym c.in_ok-amount.ensures) ∙ fails _ (sym c.if-not-above_zero.ensures))

pub returns-in_err-end : goal.returns-in_err-end
unfolding allocation_in
returns-in_err-end c =
    c.from_residual-in_err-end.ensures ∙ sym (goes _ (sym c.in_ok-target.ensures) ∙ goes _ (sym c.in_ok-amount.ensures)
    ∙ holds _ (sym c.if-not-above_zero.ensures) ∙ fails _ (sym c.in_err-end.ensures))

pub returns : goal.returns
unfolding allocation_in
returns c =
    sym (goes _ (sym c.in_ok-target.ensures) ∙ goes _ (sym c.in_ok-amount.ensures) ∙ holds _ (sym c.if-not-above_zero.ensures)
    ∙ holds _ (sym c.in_ok-end.ensures))
