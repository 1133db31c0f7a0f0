-- No second answer meets the public function's contract, as the checker reads it.
-- Assumes nothing.
use mathlib.Core.Path.{sym, ◌∙◌}
use Rattle.outcomes.specs.Outcomes.{OneAnswer}
use Rattle.locate.proofs.locate.Reads as locate_reads

pub locate_unique : OneAnswer locate_reads.Post
locate_unique κs a r r' s s' p q = p ∙ sym q
