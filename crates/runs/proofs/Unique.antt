-- No second answer meets a public function's contract, as the checker reads it: the same is read, and the same items are left.
-- Assumes nothing.
use mathlib.Core.Path.{◌≡◌, refl, sym, ◌∙◌}
use mathlib.Core.Bool.{true≢false, false≢true}
use Rattle.std.specs.Prelude.{Option, None, Some, option_map}
use Rattle.outcomes.specs.Outcomes.{OneAnswer}
use Rattle.runs.specs.Runs.{is_there, behind, bytes_read, body_read}
use Rattle.runs.proofs.run.Run.is_empty.Reads as is_empty
use Rattle.runs.proofs.run.Run.end.Reads as end
use Rattle.runs.proofs.run.Run.starts_with.Reads as starts_with
use Rattle.runs.proofs.run.Run.number.Reads as number
use Rattle.runs.proofs.run.Run.word.Reads as word
use Rattle.runs.proofs.run.Run.bytes.Reads as bytes
use Rattle.runs.proofs.run.Run.body.Reads as body

-- two answers that both meet the contract are read as the same
abbrev OneReading : {K : Type 0} {A R S : K → Type 0} {X : Type 0} → ((k : K) → A k → R k → S k → Type 0) → ((k : K) → R k → X) → Type 0
OneReading {K} {A} {R} {S} Post read = (k : K) (a : A k) (r r' : R k) (s s' : S k) → Post k a r s → Post k a r' s' → read k r ≡ read k r'

pub is_empty_unique : OneAnswer is_empty.Post
is_empty_unique κs a r r' s s' p q = p ∙ sym q

nothing : (r r' : Option (Unit {0})) → is_there r ≡ is_there r' → r ≡ r'
nothing None None e = refl
nothing None (Some x) e = absurd (false≢true e)
nothing (Some x) None e = absurd (true≢false e)
nothing (Some x) (Some y) e = refl

pub end_unique : OneAnswer end.Post
end_unique κs a r r' s s' p q = nothing r r' (p ∙ sym q)

pub starts_with_unique : OneAnswer starts_with.Post
starts_with_unique κs a r r' s s' p q = p ∙ sym q

pub number_unique : OneReading number.Post (λ k r. option_map behind r)
number_unique κs a r r' s s' p q = p ∙ sym q

pub word_unique : OneReading word.Post (λ k r. option_map behind r)
word_unique κs a r r' s s' p q = p ∙ sym q

pub bytes_unique : OneReading bytes.Post (λ k r. option_map bytes_read r)
bytes_unique κs a r r' s s' p q = p ∙ sym q

pub body_unique : OneReading body.Post (λ k r. option_map body_read r)
body_unique κs a r r' s s' p q = p ∙ sym q
