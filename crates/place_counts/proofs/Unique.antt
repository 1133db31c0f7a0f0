-- No second outcome meets the contract of `place_counts::table_right`.
-- Assumes nothing.
use mathlib.Core.Path.{sym, ◌∙◌}
use Rattle.outcomes.specs.Outcomes.{OneAnswer}
use Rattle.place_counts.proofs.table_right.Reads as table_right_reads

pub table_right_unique : OneAnswer table_right_reads.Post
table_right_unique κs a r r' s s' p q = p ∙ sym q
