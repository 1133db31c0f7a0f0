-- No second answer meets a public function's contract, as the checker reads it.
-- Assumes nothing.
use mathlib.Core.Path.{sym, ◌∙◌}
use Rattle.outcomes.specs.Outcomes.{OneAnswer}
use Rattle.last_field.proofs.only_number.Reads as only_number_reads
use Rattle.last_field.proofs.only_body.Reads as only_body_reads

pub only_number_unique : OneAnswer only_number_reads.Post
only_number_unique κs a x y s t p q = p ∙ sym q

pub only_body_unique : OneAnswer only_body_reads.Post
only_body_unique κs a x y s t p q = p ∙ sym q
