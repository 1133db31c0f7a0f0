-- That no second outcome meets a contract, for each public function, of the contract as the checker reads it.
-- Assumes nothing.
use Rattle.std.specs.Prelude.{Option, None, Some}
use mathlib.Core.Path.{◌≡◌, refl, sym, ap, ◌∙◌}
use mathlib.Core.Bool.{Bool, true, false}
use Prim.Native.Nat.{ℕ, ◌<◌, ◌≤◌}
use native.Mathlib.Omega.{arith}
use lib.Dec.{ltb}
use borrow.Author.Tests.{ltb-true, ltb-false}
use Rattle.octets.proofs.If.{on_bool}
use Rattle.outcomes.specs.Outcomes.{OneAnswer}
use Rattle.search.specs.Search.{IsFirst}
use Rattle.search.proofs.is_destroyed.Reads as is_destroyed_reads
use Rattle.search.proofs.find.Reads as find_reads
use Rattle.search.proofs.new_place.Reads as new_place_reads

pub is_destroyed_unique : OneAnswer is_destroyed_reads.Post
is_destroyed_unique κs a r r' s s' p q = p ∙ sym q

pub find_unique : OneAnswer find_reads.Post
find_unique κs a r r' s s' p q = p ∙ sym q

pub new_place_unique : OneAnswer new_place_reads.Post
new_place_unique κs a r r' s s' p q = p ∙ sym q

-- of a test that gives no two answers at a place
pub first_place_unique : (n : ℕ) (gives : ℕ → Bool → Type 0) → ((i : ℕ) → i < n → gives i true → gives i false → ⊥) → (r r' : Option ℕ) → IsFirst n gives r → IsFirst n gives r' → r ≡ r'
unfolding IsFirst
first_place_unique n gives one (Some i) (Some j) p q =
    on_bool (ltb i j)
    (λ e. absurd (one i p.0 p.1 (q.2 i (ltb-true i j e))))
    (λ e. on_bool (ltb j i)
    (λ f. absurd (one j q.0 q.1 (p.2 j (ltb-true j i f))))
    (λ f. let a : j ≤ i = ltb-false i j e in let b : i ≤ j = ltb-false j i f in let z : i ≡ j = omega arith in ap Some z))
first_place_unique n gives one (Some i) None p q = absurd (one i p.0 p.1 (q i p.0))
first_place_unique n gives one None (Some j) p q = absurd (one j q.0 q.1 (p j q.0))
first_place_unique n gives one None None p q = refl
