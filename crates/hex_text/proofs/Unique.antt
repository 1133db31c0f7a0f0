-- No second outcome meets the public function's contract, as the checker reads it.
-- Assumes nothing.
use mathlib.Core.Path.{sym, ◌∙◌}
use Rattle.outcomes.specs.Outcomes.{OneOutcome}
use Rattle.hex_text.proofs.bytes_in.Reads as bytes_in_lem

pub bytes_in_unique : OneOutcome bytes_in_lem.Post (λ κs s. s.1.0.now)
bytes_in_unique κs a r r' s s' p q = (p.count ∙ sym q.count, p.bytes ∙ sym q.bytes)
