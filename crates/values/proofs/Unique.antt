-- That no second outcome meets a contract, for each public function, of the contract as the checker reads it.
-- Assumes nothing.
use mathlib.Core.Path.{sym, ◌∙◌}
use Rattle.outcomes.specs.Outcomes.{OneAnswer}
use Rattle.values.proofs.bits_ok.Reads as bits_ok_reads
use Rattle.values.proofs.mask_ok.Reads as mask_ok_reads
use Rattle.values.proofs.protects.Reads as protects_reads
use Rattle.values.proofs.unit_ok.Reads as unit_ok_reads
use Rattle.values.proofs.total_ok.Reads as total_ok_reads
use Rattle.values.proofs.not_negative.Reads as not_negative_reads
use Rattle.values.proofs.above_zero.Reads as above_zero_reads
use Rattle.values.proofs.in_order.Reads as in_order_reads

pub bits_ok_unique : OneAnswer bits_ok_reads.Post
bits_ok_unique κs a r r' s s' p q = p ∙ sym q

pub mask_ok_unique : OneAnswer mask_ok_reads.Post
mask_ok_unique κs a r r' s s' p q = p ∙ sym q

pub protects_unique : OneAnswer protects_reads.Post
protects_unique κs a r r' s s' p q = p ∙ sym q

pub unit_ok_unique : OneAnswer unit_ok_reads.Post
unit_ok_unique κs a r r' s s' p q = p ∙ sym q

pub total_ok_unique : OneAnswer total_ok_reads.Post
total_ok_unique κs a r r' s s' p q = p ∙ sym q

pub not_negative_unique : OneAnswer not_negative_reads.Post
not_negative_unique κs a r r' s s' p q = p ∙ sym q

pub above_zero_unique : OneAnswer above_zero_reads.Post
above_zero_unique κs a r r' s s' p q = p ∙ sym q

pub in_order_unique : OneAnswer in_order_reads.Post
in_order_unique κs a r r' s s' p q = p ∙ sym q
