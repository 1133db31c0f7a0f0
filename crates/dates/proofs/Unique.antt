-- That no second outcome meets the contract of the public function, as the checker reads it.
-- Assumes nothing.
use mathlib.Core.Path.{sym, ◌∙◌}
use Rattle.outcomes.specs.Outcomes.{OneOutcome}
use Rattle.dates.proofs.begin.Reads as begin_reads

-- one clock and one table
pub begin_unique : OneOutcome begin_reads.Post (λ k s. s.0.now)
begin_unique κs a r r' s s' p q = (p.0 ∙ sym q.0, p.1 ∙ sym q.1)
