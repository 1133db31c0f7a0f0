-- No second answer meets a public function's contract, as the checker reads it.
-- Assumes nothing.
use mathlib.Core.Path.{sym, ◌∙◌}
use Rattle.outcomes.specs.Outcomes.{OneAnswer}
use Rattle.ttlv_types.proofs.length_ok.Reads as length_ok_reads
use Rattle.ttlv_types.proofs.value_ok.Reads as value_ok_reads

pub length_ok_unique : OneAnswer length_ok_reads.Post
length_ok_unique κs a x y s t p q = p ∙ sym q

pub value_ok_unique : OneAnswer value_ok_reads.Post
value_ok_unique κs a x y s t p q = p ∙ sym q
