-- No second answer meets a public function's contract, as the checker reads it.
-- Assumes nothing.
use mathlib.Core.Path.{sym, ◌∙◌}
use Rattle.outcomes.specs.Outcomes.{OneAnswer}
use Rattle.fields.proofs.starts_with.Reads as starts_with_reads
use Rattle.fields.proofs.bytes_field.Reads as bytes_field_reads
use Rattle.fields.proofs.number_field.Reads as number_field_reads
use Rattle.fields.proofs.body_field.Reads as body_field_reads

pub starts_with_unique : OneAnswer starts_with_reads.Post
starts_with_unique κs a x y s t p q = p ∙ sym q

pub bytes_field_unique : OneAnswer bytes_field_reads.Post
bytes_field_unique κs a x y s t p q = p ∙ sym q

pub number_field_unique : OneAnswer number_field_reads.Post
number_field_unique κs a x y s t p q = p ∙ sym q

pub body_field_unique : OneAnswer body_field_reads.Post
body_field_unique κs a x y s t p q = p ∙ sym q
