-- No second answer meets the contract of a public function of this crate, as the checker reads the contract.
-- Assumes nothing.
use mathlib.Core.Path.{sym, ◌∙◌}
use Rattle.outcomes.specs.Outcomes.{OneAnswer}
use Rattle.date_rules.proofs.dated_state.Reads as dated_state_reads
use Rattle.date_rules.proofs.is_late.Reads as is_late_reads

pub dated_state_unique : OneAnswer dated_state_reads.Post
dated_state_unique κs a r r' s s' p q = p ∙ sym q

pub is_late_unique : OneAnswer is_late_reads.Post
is_late_unique κs a r r' s s' p q = p ∙ sym q
