-- `attributes_read::read_date`. Step by step, as the definition goes.
-- Assumes nothing.
use mathlib.Core.Path.{sym, ap, ◌∙◌}
use Rattle.std.specs.Prelude.{option_map}
use Rattle.runs.specs.Runs.{behind}
use Rattle.runs.proofs.Steps.{stops, goes, fails, holds, there, absent}
use Rattle.attributes_read.specs.Attributes.{date_first}
use Rattle.attributes_read.proofs.read_date.Goals as goal

pub returns-then-not-starts_with : goal.returns-then-not-starts_with
returns-then-not-starts_with c = sym (absent _ _ _ (sym c.if-not-starts_with.ensures))

pub returns-in_err-date : goal.returns-in_err-date
unfolding date_first
returns-in_err-date c =
    ap (option_map behind) c.from_residual.ensures
    ∙ sym (there _ _ _ (sym c.if-not-starts_with.ensures) ∙ stops _ (stops _ (sym c.in_err-date.ensures)))

pub returns-then-not-above_zero : goal.returns-then-not-above_zero
unfolding date_first
returns-then-not-above_zero c =
    sym (there _ _ _ (sym c.if-not-starts_with.ensures) ∙ stops _ (goes _ (sym c.in_ok-date.ensures) ∙ fails _ (sym c.if-not-above_zero.ensures)))

pub returns : goal.returns
unfolding date_first
returns c =
    sym (there _ _ _ (sym c.if-not-starts_with.ensures) ∙ goes _ (goes _ (sym c.in_ok-date.ensures) ∙ holds _ (sym c.if-not-above_zero.ensures)))
