-- No second answer meets the public function's contract, as the checker reads it.
-- Assumes nothing.
use mathlib.Core.Path.{sym, ◌∙◌}
use Rattle.outcomes.specs.Outcomes.{OneAnswer}
use Rattle.utf8.proofs.text_ok.Reads as text_ok_reads

pub text_ok_unique : OneAnswer text_ok_reads.Post
text_ok_unique κs a x y s t p q = p ∙ sym q
