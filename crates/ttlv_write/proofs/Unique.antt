-- No second outcome: what two calls with the same inputs ensure is the same, answer and room. Stated on the contracts as the checker reads them.
-- Assumes nothing.
use Rattle.outcomes.specs.Outcomes.{OneOutcome}
use Rattle.ttlv_put.proofs.Unique.{wrote_unique}
use Rattle.ttlv_write.proofs.write_bytes.Reads as write_bytes
use Rattle.ttlv_write.proofs.write_text.Reads as write_text
use Rattle.ttlv_write.proofs.write_big_integer.Reads as write_big_integer

pub write_bytes_unique : OneOutcome write_bytes.Post (λ k s. s.0.now)
write_bytes_unique κs a r r' s s' p q = wrote_unique p q

pub write_text_unique : OneOutcome write_text.Post (λ k s. s.0.now)
write_text_unique κs a r r' s s' p q = wrote_unique p q

pub write_big_integer_unique : OneOutcome write_big_integer.Post (λ k s. s.0.now)
write_big_integer_unique κs a r r' s s' p q = wrote_unique p q
