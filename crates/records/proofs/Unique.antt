-- That no second outcome meets a contract, for each public function, of the contract as the checker reads it.
-- Assumes nothing.
use mathlib.Core.Path.{sym, ◌∙◌}
use Rattle.outcomes.specs.Outcomes.{OneAnswer}
use Rattle.records.proofs.load.Reads as load_reads
use Rattle.records.proofs.link_at.Reads as link_at_reads

pub load_unique : OneAnswer load_reads.Post
load_unique κs a r r' s s' p q = p ∙ sym q

pub link_at_unique : OneAnswer link_at_reads.Post
link_at_unique κs a r r' s s' p q = p ∙ sym q
