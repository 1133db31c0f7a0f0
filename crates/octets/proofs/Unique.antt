-- No second outcome: what two calls with the same inputs ensure is the same. Stated on the contracts as the checker reads them.
-- Assumes nothing.
use Rattle.std.specs.Prelude.{◌≡◌, ℕ, ◌<◌, Bool, List}
use mathlib.Core.Path.{sym, ◌∙◌}
use Rattle.outcomes.specs.Outcomes.{OneAnswer, OneLeft}
use Rattle.octets.specs.Octets.{all}
use Rattle.octets.proofs.fewer.Reads as fewer
use Rattle.octets.proofs.number.Reads as number
use Rattle.octets.proofs.number_at.Reads as number_at
use Rattle.octets.proofs.put.Reads as put
use Rattle.octets.proofs.put_all.Reads as put_all_lem
use Rattle.octets.proofs.all_zero.Reads as all_zero

pub fewer_unique : OneAnswer fewer.Post
fewer_unique κs a r r' s s' p q = p ∙ sym q

pub number_unique : OneAnswer number.Post
number_unique κs a r r' s s' p q = p.0 ∙ sym q.0

pub number_at_unique : OneAnswer number_at.Post
number_at_unique κs a r r' s s' p q = p.0 ∙ sym q.0

pub put_unique : OneLeft put.Post (λ k s. s.0.now)
put_unique κs a r r' s s' p q = p ∙ sym q

pub put_all_unique : OneLeft put_all_lem.Post (λ k s. s.0.now)
put_all_unique κs a r r' s s' p q = p ∙ sym q

pub all_zero_unique : OneAnswer all_zero.Post
all_zero_unique κs a r r' s s' p q = p ∙ sym q

-- what `every` promises of its answer, where `gives` is what its test may answer at a byte
abbrev Promised : (ℕ → Bool → Type 0) → List ℕ → Bool → Type 0
Promised gives s r = (p : ℕ → Bool) → ((x : ℕ) → (b : Bool) → x < 256 → gives x b → b ≡ p x) → r ≡ all p s

-- of a test that has one answer at each byte
pub every_unique : (gives : ℕ → Bool → Type 0) (s : List ℕ) (p : ℕ → Bool) → ((x : ℕ) → (b : Bool) → x < 256 → gives x b → b ≡ p x) → (r r' : Bool) → Promised gives s r → Promised gives s r' → r ≡ r'
every_unique gives s p one r r' f g = f p one ∙ sym (g p one)
