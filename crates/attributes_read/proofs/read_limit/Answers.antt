-- `attributes_read::read_limit`. Step by step, as the definition goes.
-- Assumes nothing.
use mathlib.Core.Path.{sym, ◌∙◌}
use Rattle.attributes_read.specs.Attributes.{limit_in}
use Rattle.runs.proofs.Steps.{stops, goes, fails, holds}
use Rattle.attributes_read.proofs.read_limit.Goals as goal

pub returns-in_err-total : goal.returns-in_err-total
unfolding limit_in
returns-in_err-total c =
    c.from_residual.ensures ∙ sym (stops _ (sym c.in_err-total.ensures))

pub returns-then-not-total_ok : goal.returns-then-not-total_ok
unfolding limit_in
returns-then-not-total_ok c =
    sym (goes _ (sym c.in_ok-total.ensures) ∙ fails _ (sym c.if-not-total_ok.ensures))

pub returns-in_err-unit : goal.returns-in_err-unit
unfolding limit_in
returns-in_err-unit c =
    c.from_residual-in_err-unit.ensures ∙ sym (goes _ (sym c.in_ok-total.ensures) ∙ holds _ (sym c.if-not-total_ok.ensures)
    ∙ stops _ (sym c.in_err-unit.ensures))

pub returns-then-not-unit_ok : goal.returns-then-not-unit_ok
unfolding limit_in
returns-then-not-unit_ok c =
    sym (goes _ (sym c.in_ok-total.ensures) ∙ holds _ (sym c.if-not-total_ok.ensures) ∙ goes _ (sym c.in_ok-unit.ensures)
    ∙ fails _ (sym c.if-not-unit_ok.ensures))

pub returns-in_err-end : goal.returns-in_err-end
unfolding limit_in
returns-in_err-end c =
    c.from_residual-in_err-end.ensures ∙ sym (goes _ (sym c.in_ok-total.ensures) ∙ holds _ (sym c.if-not-total_ok.ensures)
    ∙ goes _ (sym c.in_ok-unit.ensures) ∙ holds _ (sym c.if-not-unit_ok.ensures) ∙ fails _ (sym c.in_err-end.ensures))

pub returns : goal.returns
unfolding limit_in
returns c =
    sym (goes _ (sym c.in_ok-total.ensures) ∙ holds _ (sym c.if-not-total_ok.ensures) ∙ goes _ (sym c.in_ok-unit.ensures)
    ∙ holds _ (sym c.if-not-unit_ok.ensures) ∙ holds _ (sym c.in_ok-end.ensures))
