-- `payload::read_revoke`. Step by step, as the definition goes.
-- Assumes nothing.
use mathlib.Core.Path.{sym, ◌∙◌}
use Rattle.payload.specs.Payload.{revoke_in}
use Rattle.runs.proofs.Steps.{stops, goes, fails, holds}
use Rattle.payload.proofs.read_revoke.Goals as goal

pub returns-in_err-target : goal.returns-in_err-target
unfolding revoke_in
returns-in_err-target c =
    c.from_residual.ensures ∙ sym (stops _ (sym c.in_err-target.ensures))

pub returns-in_err-body : goal.returns-in_err-body
unfolding revoke_in
returns-in_err-body c =
    c.from_residual-in_err-body.ensures ∙ sym (goes _ (sym c.in_ok-target.ensures) ∙ stops _ (sym c.in_err-body.ensures))

pub returns-in_err-end : goal.returns-in_err-end
unfolding revoke_in
returns-in_err-end c =
    c.from_residual-in_err-end.ensures ∙ sym (goes _ (sym c.in_ok-target.ensures) ∙ goes _ (sym c.in_ok-body.ensures)
    ∙ fails _ (sym c.in_err-end.ensures))

pub returns-in_err-code : goal.returns-in_err-code
unfolding revoke_in
returns-in_err-code c =
    c.from_residual-in_err-code.ensures ∙ sym (goes _ (sym c.in_ok-target.ensures) ∙ goes _ (sym c.in_ok-body.ensures)
    ∙ holds _ (sym c.in_ok-end.ensures) ∙ stops _ (sym c.in_err-code.ensures))

pub returns-then-not-code_ok : goal.returns-then-not-code_ok
unfolding revoke_in
returns-then-not-code_ok c =
    sym (goes _ (sym c.in_ok-target.ensures) ∙ goes _ (sym c.in_ok-body.ensures) ∙ holds _ (sym c.in_ok-end.ensures)
    ∙ goes _ (sym c.in_ok-code.ensures) ∙ fails _ (sym c.if-not-code_ok.ensures))

pub returns-in_err-end-2 : goal.returns-in_err-end-2
unfolding revoke_in
returns-in_err-end-2 c =
    c.from_residual-in_err-end-2.ensures ∙ sym (goes _ (sym c.in_ok-target.ensures) ∙ goes _ (sym c.in_ok-body.ensures)
    ∙ holds _ (sym c.in_ok-end.ensures) ∙ goes _ (sym c.in_ok-code.ensures) ∙ holds _ (sym c.if-not-code_ok.ensures)
    ∙ fails _ (sym c.in_err-end-2.ensures))

pub returns : goal.returns
unfolding revoke_in
returns c =
    sym (goes _ (sym c.in_ok-target.ensures) ∙ goes _ (sym c.in_ok-body.ensures) ∙ holds _ (sym c.in_ok-end.ensures)
    ∙ goes _ (sym c.in_ok-code.ensures) ∙ holds _ (sym c.if-not-code_ok.ensures) ∙ holds _ (sym c.in_ok-end-2.ensures))
