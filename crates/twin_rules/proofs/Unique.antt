-- That no second outcome meets a contract, for each public function, of the contract as the checker reads it.
-- Assumes nothing.
use mathlib.Core.Path.{sym, ◌∙◌}
use Rattle.outcomes.specs.Outcomes.{OneAnswer}
use Rattle.twin_rules.proofs.own_place.Reads as own_place_reads
use Rattle.twin_rules.proofs.own_name.Reads as own_name_reads

pub own_place_unique : OneAnswer own_place_reads.Post
own_place_unique κs a r r' s s' p q = p ∙ sym q

pub own_name_unique : OneAnswer own_name_reads.Post
own_name_unique κs a r r' s s' p q = p ∙ sym q
