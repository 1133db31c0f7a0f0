-- No second outcome: whatever meets a function's contract, as the checker reads it, is the same.
-- Assumes nothing.
use mathlib.Core.Path.{sym, ◌∙◌}
use Rattle.outcomes.specs.Outcomes.{OneAnswer}
use Rattle.identifier.proofs.serial_of.Reads as serial_of_reads
use Rattle.identifier.proofs.text_of.Reads as text_of_reads

pub serial_of_unique : OneAnswer serial_of_reads.Post
serial_of_unique κs a r r' s s' p q = p ∙ sym q

pub text_of_unique : OneAnswer text_of_reads.Post
text_of_unique κs a r r' s s' p q = p ∙ sym q
