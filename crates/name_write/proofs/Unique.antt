-- No second outcome: whatever meets the public function's contract, as the checker reads it, is the same, answer and room.
-- Assumes nothing.
use mathlib.Core.Path.{sym, ◌∙◌}
use Rattle.outcomes.specs.Outcomes.{OneOutcome}
use Rattle.name_write.proofs.write_name.Reads as write_name_reads

pub write_name_unique : OneOutcome write_name_reads.Post (λ k s. s.0.now)
write_name_unique κs a r r' s s' p q = (p.holds.size ∙ sym q.holds.size, p.holds.bytes ∙ sym q.holds.bytes)
