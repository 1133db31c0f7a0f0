-- `attributes_read::read_dated`. Step by step, as the definition goes.
-- Assumes nothing.
use mathlib.Core.Path.{sym, ◌∙◌}
use Rattle.attributes_read.specs.Attributes.{dated_in}
use Rattle.attributes_read.proofs.Given.{dates, given}
use Rattle.runs.proofs.Steps.{stops, goes, fails, holds}
use Rattle.attributes_read.proofs.read_dated.Goals as goal

pub returns-in_err-activation : goal.returns-in_err-activation
unfolding dated_in
returns-in_err-activation c =
    c.from_residual.ensures ∙ sym (stops _ (sym c.in_err-activation.ensures))

pub returns-in_err-deactivation : goal.returns-in_err-deactivation
unfolding dated_in
returns-in_err-deactivation c =
    c.from_residual-in_err-deactivation.ensures ∙ sym (goes _ (sym c.in_ok-activation.ensures) ∙ stops _ (sym c.in_err-deactivation.ensures))

pub returns-then-not-in_order : goal.returns-then-not-in_order
unfolding dated_in
returns-then-not-in_order c =
    sym (goes _ (sym c.in_ok-activation.ensures) ∙ goes _ (sym c.in_ok-deactivation.ensures)
    ∙ fails _ (dates c.in_ok-activation.activation c.in_ok-deactivation.deactivation c.unwrap_or-activation.ensures c.unwrap_or-deactivation.ensures (sym c.if-not-in_order.ensures)))

pub returns-in_err-name : goal.returns-in_err-name
unfolding dated_in
returns-in_err-name c =
    c.from_residual-in_err-name.ensures ∙ sym (goes _ (sym c.in_ok-activation.ensures) ∙ goes _ (sym c.in_ok-deactivation.ensures)
    ∙ holds _ (dates c.in_ok-activation.activation c.in_ok-deactivation.deactivation c.unwrap_or-activation.ensures c.unwrap_or-deactivation.ensures (sym c.if-not-in_order.ensures))
    ∙ stops _ (sym c.in_err-name.ensures))

pub returns : goal.returns
unfolding dated_in
returns c =
    given c.in_ok-activation.activation c.in_ok-deactivation.deactivation c.unwrap_or-activation.ensures c.unwrap_or-deactivation.ensures ∙ sym (goes _ (sym c.in_ok-activation.ensures)
    ∙ goes _ (sym c.in_ok-deactivation.ensures)
    ∙ holds _ (dates c.in_ok-activation.activation c.in_ok-deactivation.deactivation c.unwrap_or-activation.ensures c.unwrap_or-deactivation.ensures (sym c.if-not-in_order.ensures))
    ∙ goes _ (sym c.in_ok-name.ensures))
