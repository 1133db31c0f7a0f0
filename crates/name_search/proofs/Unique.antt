-- No second answer meets the public function's contract, as the checker reads it.
-- Assumes nothing.
use mathlib.Core.Path.{sym, ◌∙◌}
use Rattle.outcomes.specs.Outcomes.{OneAnswer}
use Rattle.name_search.proofs.find_name.Reads as find_name_reads
use Rattle.name_search.proofs.is_taken.Reads as is_taken_reads

pub find_name_unique : OneAnswer find_name_reads.Post
find_name_unique κs a r r' s s' p q = p ∙ sym q

pub is_taken_unique : OneAnswer is_taken_reads.Post
is_taken_unique κs a r r' s s' p q = p ∙ sym q
