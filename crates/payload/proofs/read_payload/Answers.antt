-- `payload::read_payload`. By the number of the operation.
-- Assumes nothing.
use mathlib.Core.Path.{sym, ap, ◌∙◌}
use native.Mathlib.Omega.{arith}
use Rattle.payload.specs.Payload.{or_invalid}
use Rattle.payload.proofs.Commands.{of_create, of_rekey, of_allocation, of_activate, of_revoke, of_destroy, of_attributes, of_get, of_locate, of_none}
use Rattle.payload.proofs.read_payload.Goals as goal

pub returns-in-1 : goal.returns-in-1
returns-in-1 c = ap or_invalid c.read_create.ensures ∙ sym (of_create _ _ c.in-1.is)

pub returns-in-4 : goal.returns-in-4
returns-in-4 c = ap or_invalid c.read_rekey.ensures ∙ sym (of_rekey _ _ c.in-4.is)

pub returns-in-17 : goal.returns-in-17
returns-in-17 c = ap or_invalid c.read_allocation.ensures ∙ sym (of_allocation _ _ c.in-17.is)

pub returns-in-19 : goal.returns-in-19
returns-in-19 c = ap or_invalid c.read_revoke.ensures ∙ sym (of_revoke _ _ c.in-19.is)

pub returns-in-8 : goal.returns-in-8
returns-in-8 c = ap or_invalid c.read_locate.ensures ∙ sym (of_locate _ _ c.in-8.is)

pub returns-in-18 : goal.returns-in-18
returns-in-18 c = ap or_invalid c.read_alone.ensures ∙ sym (of_activate _ _ c.in-18.is)

pub returns-in-20 : goal.returns-in-20
returns-in-20 c = ap or_invalid c.read_alone-in-20.ensures ∙ sym (of_destroy _ _ c.in-20.is)

pub returns-in-11 : goal.returns-in-11
returns-in-11 c = ap or_invalid c.read_alone-in-11.ensures ∙ sym (of_attributes _ _ c.in-11.is)

pub returns-in-10 : goal.returns-in-10
returns-in-10 c = ap or_invalid c.read_alone-in-10.ensures ∙ sym (of_get _ _ c.in-10.is)

pub returns-in_default : goal.returns-in_default
unfolding or_invalid
returns-in_default c =
    sym (of_none c.args.operation _
    (λ e. omega arith) (λ e. omega arith) (λ e. omega arith) (λ e. omega arith) (λ e. omega arith)
    (λ e. omega arith) (λ e. omega arith) (λ e. omega arith) (λ e. omega arith))
