-- No second outcome: what two calls with the same inputs ensure is the same, answer and room. Stated on the contract as the checker reads it.
-- Assumes nothing.
use Rattle.outcomes.specs.Outcomes.{OneOutcome}
use Rattle.ttlv_put.proofs.Unique.{wrote_unique}
use Rattle.named_write.proofs.write_named.Reads as write_named

pub write_named_unique : OneOutcome write_named.Post (λ k s. s.0.now)
write_named_unique κs a r r' s s' p q = wrote_unique p q
