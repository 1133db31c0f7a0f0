-- `attributes_read::read_limits`. Step by step, as the definition goes.
-- Assumes nothing.
use mathlib.Core.Path.{sym, ap, ◌∙◌}
use Rattle.std.specs.Prelude.{option_map}
use Rattle.runs.specs.Runs.{behind}
use Rattle.runs.proofs.Steps.{stops, goes, fails, holds, there, absent}
use Rattle.attributes_read.specs.Attributes.{limit_first}
use Rattle.attributes_read.proofs.read_limits.Goals as goal

pub returns-then-not-starts_with : goal.returns-then-not-starts_with
returns-then-not-starts_with c = sym (absent _ _ _ (sym c.if-not-starts_with.ensures))

pub returns-then-not-protects : goal.returns-then-not-protects
unfolding limit_first
returns-then-not-protects c =
    sym (there _ _ _ (sym c.if-not-starts_with.ensures) ∙ stops _ (fails _ (sym c.if-not-protects.ensures)))

pub returns-in_err-body : goal.returns-in_err-body
unfolding limit_first
returns-in_err-body c =
    ap (option_map behind) c.from_residual.ensures
    ∙ sym (there _ _ _ (sym c.if-not-starts_with.ensures) ∙ stops _ (holds _ (sym c.if-not-protects.ensures) ∙ stops _ (sym c.in_err-body.ensures)))

pub returns-in_err-limit : goal.returns-in_err-limit
unfolding limit_first
returns-in_err-limit c =
    ap (option_map behind) c.from_residual-in_err-limit.ensures
    ∙ sym (there _ _ _ (sym c.if-not-starts_with.ensures)
    ∙ stops _ (holds _ (sym c.if-not-protects.ensures) ∙ goes _ (sym c.in_ok-body.ensures) ∙ stops _ (sym c.in_err-limit.ensures)))

pub returns : goal.returns
unfolding limit_first
returns c =
    sym (there _ _ _ (sym c.if-not-starts_with.ensures)
    ∙ goes _ (holds _ (sym c.if-not-protects.ensures) ∙ goes _ (sym c.in_ok-body.ensures) ∙ goes _ (sym c.in_ok-limit.ensures)))
