-- No second answer meets a public function's contract, as the checker reads it.
-- Assumes nothing.
use mathlib.Core.Path.{sym, ◌∙◌}
use Rattle.outcomes.specs.Outcomes.{OneAnswer}
use Rattle.hex_digits.proofs.value_of.Reads as value_of_lem
use Rattle.hex_digits.proofs.character.Reads as character
use Rattle.hex_digits.proofs.pair_of.Reads as pair_of

pub value_of_unique : OneAnswer value_of_lem.Post
value_of_unique κs a r r' s s' p q = p ∙ sym q

pub character_unique : OneAnswer character.Post
character_unique κs a r r' s s' p q = p ∙ sym q

pub pair_of_unique : OneAnswer pair_of.Post
pair_of_unique κs a r r' s s' p q = p ∙ sym q
