-- No second answer meets a public function's contract, as the checker reads it.
-- Assumes nothing.
use mathlib.Core.Path.{sym, ◌∙◌}
use Rattle.outcomes.specs.Outcomes.{OneAnswer}
use Rattle.ttlv.proofs.read_first.Reads as read_first_reads
use Rattle.ttlv.proofs.is_message.Reads as is_message_reads

pub read_first_unique : OneAnswer read_first_reads.Post
read_first_unique κs a x y s t p q = p ∙ sym q

pub is_message_unique : OneAnswer is_message_reads.Post
is_message_unique κs a x y s t p q = p ∙ sym q
