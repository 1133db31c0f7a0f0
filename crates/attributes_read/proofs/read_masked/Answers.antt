-- `attributes_read::read_masked`. Step by step, as the definition goes.
-- Assumes nothing.
use mathlib.Core.Path.{sym, ◌∙◌}
use Rattle.attributes_read.specs.Attributes.{masked_in}
use Rattle.runs.proofs.Steps.{stops, goes, fails, holds}
use Rattle.attributes_read.proofs.read_masked.Goals as goal

pub returns-in_err-mask : goal.returns-in_err-mask
unfolding masked_in
returns-in_err-mask c =
    c.from_residual.ensures ∙ sym (stops _ (sym c.in_err-mask.ensures))

pub returns-then-not-mask_ok : goal.returns-then-not-mask_ok
unfolding masked_in
returns-then-not-mask_ok c =
    sym (goes _ (sym c.in_ok-mask.ensures) ∙ fails _ (sym c.if-not-mask_ok.ensures))

pub returns : goal.returns
unfolding masked_in
returns c =
    c.read_limited.ensures ∙ sym (goes _ (sym c.in_ok-mask.ensures) ∙ holds _ (sym c.if-not-mask_ok.ensures))
