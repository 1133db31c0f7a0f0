-- No second outcome meets the contract of a public function of this crate, as the checker reads the contract.
-- Assumes nothing.
use mathlib.Core.Path.{sym, ◌∙◌}
use Rattle.outcomes.specs.Outcomes.{OneAnswer}
use Rattle.plans.proofs.is_failed.Reads as is_failed_reads
use Rattle.plans.proofs.fail.Reads as fail_reads

pub is_failed_unique : OneAnswer is_failed_reads.Post
is_failed_unique κs a r r' s s' p q = p ∙ sym q

pub fail_unique : OneAnswer fail_reads.Post
fail_unique κs a r r' s s' p q = p ∙ sym q
