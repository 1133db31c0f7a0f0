-- No second answer meets the contract of `told`.
-- Assumes nothing.
use mathlib.Core.Path.{sym, ◌∙◌}
use Rattle.outcomes.specs.Outcomes.{OneAnswer}
use Rattle.refusal.proofs.told.Reads as told

pub told_unique : OneAnswer told.Post
told_unique κs a r r' s s' p q = p ∙ sym q
