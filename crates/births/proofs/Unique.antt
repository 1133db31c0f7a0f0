-- No second outcome meets the contract of a public function of this crate, as the checker reads the contract.
-- Assumes nothing.
use mathlib.Core.Path.{sym, ◌∙◌}
use Rattle.outcomes.specs.Outcomes.{OneOutcome}
use Rattle.plans.proofs.Plans.{left_one}
use Rattle.births.proofs.create.Reads as create_reads
use Rattle.births.proofs.rekey_at.Reads as rekey_at_reads

-- one answer and one table
pub create_unique : OneOutcome create_reads.Post (λ k s. s.0.now)
create_unique κs a r r' s s' p q = left_one (p ∙ sym q)

pub rekey_at_unique : OneOutcome rekey_at_reads.Post (λ k s. s.0.now)
rekey_at_unique κs a r r' s s' p q = left_one (p ∙ sym q)
