-- That no second outcome meets the contract of the public function, as the checker reads it.
-- Assumes nothing.
use mathlib.Core.Path.{sym, ◌∙◌}
use Rattle.outcomes.specs.Outcomes.{OneLeft}
use Rattle.records_write.proofs.store.Reads as store_reads

pub store_unique : OneLeft store_reads.Post (λ k s. s.0.now)
store_unique κs a r r' s s' p q = p ∙ sym q
