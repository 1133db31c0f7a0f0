-- That no second outcome meets a contract, for each public function, of the contract as the checker reads it.
-- Assumes nothing.
use mathlib.Core.Path.{sym, ◌∙◌}
use Rattle.outcomes.specs.Outcomes.{OneAnswer}
use Rattle.record_rules.proofs.values_right.Reads as values_right_reads
use Rattle.record_rules.proofs.serials_right.Reads as serials_right_reads
use Rattle.record_rules.proofs.zeros_from.Reads as zeros_from_reads
use Rattle.record_rules.proofs.times_right.Reads as times_right_reads

pub values_right_unique : OneAnswer values_right_reads.Post
values_right_unique κs a r r' s s' p q = p ∙ sym q

pub serials_right_unique : OneAnswer serials_right_reads.Post
serials_right_unique κs a r r' s s' p q = p ∙ sym q

pub zeros_from_unique : OneAnswer zeros_from_reads.Post
zeros_from_unique κs a r r' s s' p q = p ∙ sym q

pub times_right_unique : OneAnswer times_right_reads.Post
times_right_unique κs a r r' s s' p q = p ∙ sym q
