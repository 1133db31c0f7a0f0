-- No second answer meets a public function's contract, as the checker reads it.
-- Assumes nothing.
use mathlib.Core.Path.{sym, ◌∙◌}
use Rattle.outcomes.specs.Outcomes.{OneAnswer}
use Rattle.lines.proofs.find.Reads as find
use Rattle.lines.proofs.past.Reads as past
use Rattle.lines.proofs.name_end.Reads as name_end
use Rattle.lines.proofs.is_silent.Reads as is_silent
use Rattle.lines.proofs.same.Reads as same

pub find_unique : OneAnswer find.Post
find_unique κs a r r' s s' p q = p.0 ∙ sym q.0

pub past_unique : OneAnswer past.Post
past_unique κs a r r' s s' p q = p ∙ sym q

pub name_end_unique : OneAnswer name_end.Post
name_end_unique κs a r r' s s' p q = p.0 ∙ sym q.0

pub is_silent_unique : OneAnswer is_silent.Post
is_silent_unique κs a r r' s s' p q = p ∙ sym q

pub same_unique : OneAnswer same.Post
same_unique κs a r r' s s' p q = p ∙ sym q
