-- No second outcome: what two calls with the same inputs answer is the same, and so is what they leave. Stated on the contracts as the checker reads them.
-- Assumes nothing.
use mathlib.Core.Path.{sym, ◌∙◌}
use Rattle.outcomes.specs.Outcomes.{OneAnswer, OneLeft}
use Rattle.words.proofs.words_at.Reads as words_at
use Rattle.words.proofs.words_of.Reads as words_of
use Rattle.words.proofs.put_words.Reads as put_words
use Rattle.words.proofs.bytes_of.Reads as bytes_of
use Rattle.words.proofs.fill.Reads as fill

pub words_at_unique : OneAnswer words_at.Post
words_at_unique κs a r r' s s' p q = p ∙ sym q

pub words_of_unique : OneAnswer words_of.Post
words_of_unique κs a r r' s s' p q = p ∙ sym q

pub bytes_of_unique : OneAnswer bytes_of.Post
bytes_of_unique κs a r r' s s' p q = p ∙ sym q

pub fill_unique : OneAnswer fill.Post
fill_unique κs a r r' s s' p q = p ∙ sym q

pub put_words_unique : OneLeft put_words.Post (λ k s. s.0.now)
put_words_unique κs a r r' s s' p q = p ∙ sym q
