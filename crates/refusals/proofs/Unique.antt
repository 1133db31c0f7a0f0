-- No second answer meets the contract of a refusal.
-- Assumes nothing.
use mathlib.Core.Path.{sym, ◌∙◌}
use Rattle.outcomes.specs.Outcomes.{OneAnswer}
use Rattle.refusal.proofs.Numbers.{refused_once}
use Rattle.refusals.proofs.early_refusal.Reads as early
use Rattle.refusals.proofs.late_refusal.Reads as late

pub early_refusal_unique : OneAnswer early.Post
early_refusal_unique κs a r r' s s' p q = refused_once r r' (p ∙ sym q)

pub late_refusal_unique : OneAnswer late.Post
late_refusal_unique κs a r r' s s' p q = refused_once r r' (p ∙ sym q)
