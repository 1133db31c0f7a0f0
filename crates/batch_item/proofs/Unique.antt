-- No second answer meets a public function's contract, as the checker reads it.
-- Assumes nothing.
use mathlib.Core.Path.{sym, ◌∙◌}
use Rattle.outcomes.specs.Outcomes.{OneAnswer}
use Rattle.batch_item.proofs.count_items.Reads as count_items_reads
use Rattle.batch_item.proofs.read_item.Reads as read_item_reads

pub count_items_unique : OneAnswer count_items_reads.Post
count_items_unique κs a x y s t p q = p ∙ sym q

pub read_item_unique : OneAnswer read_item_reads.Post
read_item_unique κs a x y s t p q = p ∙ sym q
