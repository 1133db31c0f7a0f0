-- No second outcome meets a public function's contract, as the checker reads it.
-- Assumes nothing.
use mathlib.Core.Path.{sym, ◌∙◌}
use Rattle.outcomes.specs.Outcomes.{OneLeft}
use Rattle.lent.proofs.fill.Reads as fill
use Rattle.lent.proofs.blank_over.Reads as blank_over
use Rattle.lent.proofs.fill_strip.Reads as fill_strip

pub fill_unique : OneLeft fill.Post (λ κs s. s.0.now)
fill_unique κs a r r' s s' p q = p ∙ sym q

pub blank_over_unique : OneLeft blank_over.Post (λ κs s. s.0.now)
blank_over_unique κs a r r' s s' p q = p ∙ sym q

pub fill_strip_unique : OneLeft fill_strip.Post (λ κs s. s.0.now)
fill_strip_unique κs a r r' s s' p q = p ∙ sym q
