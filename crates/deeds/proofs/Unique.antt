-- No second outcome meets the contract of a public function of this crate, as the checker reads the contract.
-- Assumes nothing.
use mathlib.Core.Path.{sym, ◌∙◌}
use Rattle.outcomes.specs.Outcomes.{OneOutcome}
use Rattle.plans.proofs.Plans.{left_one}
use Rattle.deeds.proofs.act_at.Reads as act_at_reads

-- one answer and one table
pub act_at_unique : OneOutcome act_at_reads.Post (λ k s. s.0.now)
act_at_unique κs a r r' s s' p q = left_one (p ∙ sym q)
