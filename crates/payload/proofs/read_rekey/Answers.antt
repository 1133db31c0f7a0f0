-- `payload::read_rekey`. By what stands behind the target.
-- Assumes nothing.
use mathlib.Core.Path.{sym, ◌∙◌}
use Rattle.runs.proofs.Steps.{stops, goes}
use Rattle.payload.specs.Payload.{rekey_in}
use Rattle.payload.proofs.Offsets.{no_offset, none_behind, more_behind, an_offset}
use Rattle.payload.proofs.read_rekey.Goals as goal

pub returns-in_err-target : goal.returns-in_err-target
unfolding rekey_in
returns-in_err-target c = c.from_residual.ensures ∙ sym (stops _ (sym c.in_err-target.ensures))

pub returns-then-is_empty : goal.returns-then-is_empty
unfolding rekey_in
returns-then-is_empty c = sym (goes _ (sym c.in_ok-target.ensures) ∙ no_offset _ _ (sym c.if-is_empty.ensures))

pub returns-in_err-seconds : goal.returns-in_err-seconds
unfolding rekey_in
returns-in_err-seconds c =
    c.from_residual-in_err-seconds.ensures
    ∙ sym (goes _ (sym c.in_ok-target.ensures) ∙ none_behind _ _ (sym c.if-is_empty.ensures) (sym c.in_err-seconds.ensures))

pub returns-in_err-end : goal.returns-in_err-end
unfolding rekey_in
returns-in_err-end c =
    c.from_residual-in_err-end.ensures
    ∙ sym (goes _ (sym c.in_ok-target.ensures) ∙ more_behind _ _ (sym c.in_ok-seconds.ensures) (sym c.in_err-end.ensures))

pub returns : goal.returns
unfolding rekey_in
returns c = sym (goes _ (sym c.in_ok-target.ensures) ∙ an_offset _ _ (sym c.in_ok-seconds.ensures) (sym c.in_ok-end.ensures))
