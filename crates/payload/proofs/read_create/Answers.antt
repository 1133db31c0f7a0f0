-- `payload::read_create`. Step by step, as the definition goes.
-- Assumes nothing.
use mathlib.Core.Path.{sym, ◌∙◌}
use borrow.Author.Tests.{eq-eqb, ne_eqb}
use Rattle.payload.specs.Payload.{symmetric_key, create_in}
use Rattle.runs.proofs.Steps.{stops, goes, fails, holds}
use Rattle.payload.proofs.read_create.Goals as goal

pub returns-in_err-kind : goal.returns-in_err-kind
unfolding create_in
returns-in_err-kind c =
    c.from_residual.ensures ∙ sym (stops _ (sym c.in_err-kind.ensures))

pub returns-then-kind-ne-SYMMETRIC_KEY : goal.returns-then-kind-ne-SYMMETRIC_KEY
unfolding create_in
returns-then-kind-ne-SYMMETRIC_KEY c =
    sym (goes _ (sym c.in_ok-kind.ensures) ∙ fails _ (ne_eqb _ symmetric_key c.if-kind-ne-SYMMETRIC_KEY.true))

pub returns-in_err-body : goal.returns-in_err-body
unfolding create_in
returns-in_err-body c =
    c.from_residual-in_err-body.ensures ∙ sym (goes _ (sym c.in_ok-kind.ensures)
    ∙ holds _ (eq-eqb _ symmetric_key c.if-kind-ne-SYMMETRIC_KEY.false) ∙ stops _ (sym c.in_err-body.ensures))

pub returns-in_err-end : goal.returns-in_err-end
unfolding create_in
returns-in_err-end c =
    c.from_residual-in_err-end.ensures ∙ sym (goes _ (sym c.in_ok-kind.ensures)
    ∙ holds _ (eq-eqb _ symmetric_key c.if-kind-ne-SYMMETRIC_KEY.false) ∙ goes _ (sym c.in_ok-body.ensures)
    ∙ fails _ (sym c.in_err-end.ensures))

pub returns-in_err-wanted : goal.returns-in_err-wanted
unfolding create_in
returns-in_err-wanted c =
    c.from_residual-in_err-wanted.ensures ∙ sym (goes _ (sym c.in_ok-kind.ensures)
    ∙ holds _ (eq-eqb _ symmetric_key c.if-kind-ne-SYMMETRIC_KEY.false) ∙ goes _ (sym c.in_ok-body.ensures)
    ∙ holds _ (sym c.in_ok-end.ensures) ∙ stops _ (sym c.in_err-wanted.ensures))

pub returns : goal.returns
unfolding create_in
returns c =
    sym (goes _ (sym c.in_ok-kind.ensures) ∙ holds _ (eq-eqb _ symmetric_key c.if-kind-ne-SYMMETRIC_KEY.false)
    ∙ goes _ (sym c.in_ok-body.ensures) ∙ holds _ (sym c.in_ok-end.ensures) ∙ goes _ (sym c.in_ok-wanted.ensures))
