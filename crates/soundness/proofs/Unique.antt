-- That no second outcome meets a contract, for each public function, of the contract as the checker reads it.
-- Assumes nothing.
use mathlib.Core.Path.{sym, ◌∙◌}
use Rattle.outcomes.specs.Outcomes.{OneAnswer}
use Rattle.soundness.proofs.is_sound.Reads as is_sound_reads

pub is_sound_unique : OneAnswer is_sound_reads.Post
is_sound_unique κs a r r' s s' p q = p ∙ sym q
