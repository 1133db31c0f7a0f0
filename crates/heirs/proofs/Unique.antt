-- No second answer meets the contract of a function of this crate, as the checker reads the contract.
-- Assumes nothing.
use mathlib.Core.Path.{sym, ◌∙◌}
use Rattle.outcomes.specs.Outcomes.{OneAnswer}
use Rattle.heirs.proofs.heir_dates.Reads as heir_dates_reads
use Rattle.heirs.proofs.heir_of.Reads as heir_of_reads
use Rattle.heirs.proofs.linked_to.Reads as linked_to_reads

pub heir_dates_unique : OneAnswer heir_dates_reads.Post
heir_dates_unique κs a r r' s s' p q = p ∙ sym q

pub heir_of_unique : OneAnswer heir_of_reads.Post
heir_of_unique κs a r r' s s' p q = p ∙ sym q

pub linked_to_unique : OneAnswer linked_to_reads.Post
linked_to_unique κs a r r' s s' p q = p ∙ sym q
