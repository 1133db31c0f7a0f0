-- `attributes_read::read_limited`. Step by step, as the definition goes.
-- Assumes nothing.
use mathlib.Core.Path.{sym, ◌∙◌}
use Rattle.attributes_read.specs.Attributes.{limited_in}
use Rattle.attributes_read.proofs.Given.{wanted}
use Rattle.runs.proofs.Steps.{stops, goes}
use Rattle.attributes_read.proofs.read_limited.Goals as goal

pub returns-in_err-limit : goal.returns-in_err-limit
unfolding limited_in
returns-in_err-limit c =
    c.from_residual.ensures ∙ sym (stops _ (sym c.in_err-limit.ensures))

pub returns-in_err-activation : goal.returns-in_err-activation
unfolding limited_in
returns-in_err-activation c =
    c.from_residual-in_err-activation.ensures ∙ sym (goes _ (sym c.in_ok-limit.ensures) ∙ stops _ (sym c.in_err-activation.ensures))

pub returns : goal.returns
unfolding limited_in
returns c =
    wanted _ _ _ _ _ c.in_ok-limit.limit _ c.unwrap_or-limit.ensures ∙ sym (goes _ (sym c.in_ok-limit.ensures) ∙ goes _ (sym c.in_ok-activation.ensures))
