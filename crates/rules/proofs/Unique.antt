-- No second answer meets the contract of a function of this crate, as the checker reads the contract.
-- Assumes nothing.
use mathlib.Core.Path.{sym, ◌∙◌}
use Rattle.outcomes.specs.Outcomes.{OneAnswer}
use Rattle.rules.proofs.reason_number.Reads as reason_number_reads
use Rattle.rules.proofs.next_state.Reads as next_state_reads
use Rattle.rules.proofs.grant.Reads as grant_reads

pub reason_number_unique : OneAnswer reason_number_reads.Post
reason_number_unique κs a r r' s s' p q = p ∙ sym q

pub next_state_unique : OneAnswer next_state_reads.Post
next_state_unique κs a r r' s s' p q = p ∙ sym q

pub grant_unique : OneAnswer grant_reads.Post
grant_unique κs a r r' s s' p q = p ∙ sym q
