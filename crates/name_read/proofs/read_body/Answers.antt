-- `name_read::read_body`. Step by step, as the definition goes.
-- Assumes nothing.
use mathlib.Core.Path.{sym, ap, ◌∙◌}
use borrow.Author.Tests.{eq-eqb, ne_eqb}
use Rattle.std.specs.Prelude.{Some}
use Rattle.name_read.specs.Name.{uninterpreted_text, name_body}
use Rattle.runs.proofs.Steps.{stops, goes, fails, holds}
use Rattle.name_read.proofs.read_body.Goals as goal

pub returns-in_err-text : goal.returns-in_err-text
unfolding name_body
returns-in_err-text c =
    c.from_residual.ensures ∙ sym (stops _ (sym c.in_err-text.ensures))

pub returns-then-not-name_ok : goal.returns-then-not-name_ok
unfolding name_body
returns-then-not-name_ok c =
    sym (goes _ (sym c.in_ok-text.ensures) ∙ fails _ (sym c.if-not-name_ok.ensures))

pub returns-in_err-kind : goal.returns-in_err-kind
unfolding name_body
returns-in_err-kind c =
    c.from_residual-in_err-kind.ensures ∙ sym (goes _ (sym c.in_ok-text.ensures) ∙ holds _ (sym c.if-not-name_ok.ensures)
    ∙ stops _ (sym c.in_err-kind.ensures))

pub returns-then-kind-ne-UNINTERPRETED_TEXT : goal.returns-then-kind-ne-UNINTERPRETED_TEXT
unfolding name_body
returns-then-kind-ne-UNINTERPRETED_TEXT c =
    sym (goes _ (sym c.in_ok-text.ensures) ∙ holds _ (sym c.if-not-name_ok.ensures) ∙ goes _ (sym c.in_ok-kind.ensures)
    ∙ fails _ (ne_eqb _ uninterpreted_text c.if-kind-ne-UNINTERPRETED_TEXT.true))

pub returns-in_err-end : goal.returns-in_err-end
unfolding name_body
returns-in_err-end c =
    c.from_residual-in_err-end.ensures ∙ sym (goes _ (sym c.in_ok-text.ensures) ∙ holds _ (sym c.if-not-name_ok.ensures)
    ∙ goes _ (sym c.in_ok-kind.ensures) ∙ holds _ (eq-eqb _ uninterpreted_text c.if-kind-ne-UNINTERPRETED_TEXT.false)
    ∙ fails _ (sym c.in_err-end.ensures))

pub returns : goal.returns
unfolding name_body
returns c =
    ap Some c.name_of.ensures ∙ sym (goes _ (sym c.in_ok-text.ensures) ∙ holds _ (sym c.if-not-name_ok.ensures)
    ∙ goes _ (sym c.in_ok-kind.ensures) ∙ holds _ (eq-eqb _ uninterpreted_text c.if-kind-ne-UNINTERPRETED_TEXT.false)
    ∙ holds _ (sym c.in_ok-end.ensures))
