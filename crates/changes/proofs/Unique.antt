-- No second answer meets the contract of a function of this crate, as the checker reads the contract.
-- Assumes nothing.
use mathlib.Core.Path.{sym, ◌∙◌}
use Rattle.outcomes.specs.Outcomes.{OneAnswer}
use Rattle.changes.proofs.moved_to.Reads as moved_to_reads
use Rattle.changes.proofs.with_count.Reads as with_count_reads

pub moved_to_unique : OneAnswer moved_to_reads.Post
moved_to_unique κs a r r' s s' p q = p ∙ sym q

pub with_count_unique : OneAnswer with_count_reads.Post
with_count_unique κs a r r' s s' p q = p ∙ sym q
