-- No second answer meets a public function's contract, as the checker reads it.
-- Assumes nothing.
use mathlib.Core.Path.{sym, ◌∙◌}
use Rattle.outcomes.specs.Outcomes.{OneAnswer}
use Rattle.names.proofs.no_name.Reads as no_name_reads
use Rattle.names.proofs.same_name.Reads as same_name_reads
use Rattle.names.proofs.name_of.Reads as name_of_reads
use Rattle.names.proofs.name_ok.Reads as name_ok_reads
use Rattle.names.proofs.shape_right.Reads as shape_right_reads
use Rattle.names.proofs.text_right.Reads as text_right_reads

pub no_name_unique : OneAnswer no_name_reads.Post
no_name_unique κs a r r' s s' p q = p ∙ sym q

pub same_name_unique : OneAnswer same_name_reads.Post
same_name_unique κs a r r' s s' p q = p ∙ sym q

pub name_of_unique : OneAnswer name_of_reads.Post
name_of_unique κs a r r' s s' p q = p ∙ sym q

pub name_ok_unique : OneAnswer name_ok_reads.Post
name_ok_unique κs a r r' s s' p q = p ∙ sym q

pub shape_right_unique : OneAnswer shape_right_reads.Post
shape_right_unique κs a r r' s s' p q = p ∙ sym q

pub text_right_unique : OneAnswer text_right_reads.Post
text_right_unique κs a r r' s s' p q = p ∙ sym q
