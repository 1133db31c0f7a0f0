-- `payload::read_alone`. Step by step, as the definition goes.
-- Assumes nothing.
use mathlib.Core.Path.{sym, ap, ◌∙◌}
use Rattle.std.specs.Prelude.{Some}
use Rattle.payload.specs.Payload.{alone_in}
use Rattle.runs.proofs.Steps.{stops, goes, fails, holds}
use Rattle.payload.proofs.read_alone.Goals as goal

pub returns-in_err-target : goal.returns-in_err-target
unfolding alone_in
returns-in_err-target c =
    c.from_residual.ensures ∙ sym (stops _ (sym c.in_err-target.ensures))

pub returns-in_err-end : goal.returns-in_err-end
unfolding alone_in
returns-in_err-end c =
    c.from_residual-in_err-end.ensures ∙ sym (goes _ (sym c.in_ok-target.ensures) ∙ fails _ (sym c.in_err-end.ensures))

pub returns : goal.returns
unfolding alone_in
returns c =
    ap Some c.alone.ensures ∙ sym (goes _ (sym c.in_ok-target.ensures) ∙ holds _ (sym c.in_ok-end.ensures))
