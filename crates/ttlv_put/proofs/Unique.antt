-- No second outcome: what two calls with the same inputs ensure is the same, answer and room. Stated on the contracts as the checker reads them.
-- Assumes nothing.
use Prim.Native.Nat.{ℕ}
use mathlib.Core.Path.{◌≡◌, sym, ◌∙◌}
use mathlib.Core.Bool.{Bool}
use mathlib.Core.List.{List}
use Rattle.outcomes.specs.Outcomes.{OneOutcome}
use Rattle.ttlv_put.specs.Write.{Wrote}
use Rattle.ttlv_put.proofs.spell_number.Reads as spell_number
use Rattle.ttlv_put.proofs.spell_value.Reads as spell_value
use Rattle.ttlv_put.proofs.write_structure.Reads as write_structure

pub wrote_unique : {ok : Bool} {size : ℕ} {b room : List ℕ} {after after' : List ℕ} {r r' : ℕ} → Wrote ok size b room after r → Wrote ok size b room after' r' → (r ≡ r') × (after ≡ after')
wrote_unique p q = (p.answer ∙ sym q.answer, p.bytes ∙ sym q.bytes)

pub spell_number_unique : OneOutcome spell_number.Post (λ k s. s.0.now)
spell_number_unique κs a r r' s s' p q = wrote_unique p q

pub spell_value_unique : OneOutcome spell_value.Post (λ k s. s.0.now)
spell_value_unique κs a r r' s s' p q = wrote_unique p q

pub write_structure_unique : OneOutcome write_structure.Post (λ k s. s.0.now)
write_structure_unique κs a r r' s s' p q = wrote_unique p q
