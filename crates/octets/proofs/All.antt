-- Laws of a test of every element, from an index on: what a loop over bytes goes by.
-- Assumes nothing.
use mathlib.Core.Path.{◌≡◌, ap, ◌∙◌}
use Prim.Native.Nat.{ℕ, zero, suc, ◌+◌, ◌≤◌, ◌<◌}
use native.Mathlib.Numerals.{add-one}
use mathlib.Core.Bool.{Bool, true, ◌&&◌}
use mathlib.Core.List.{List, [], ◌∷◌}
use lib.ListN.{length, drop, get_or, drop_of_length-le}
use lib.Seq.{drop-cons}
use Rattle.octets.specs.Octets.{all}
use Rattle.octets.proofs.Bools.{and_assoc, and_r}

module _ (p : ℕ → Bool) (s : List ℕ) (i : ℕ) where
  pub all_here : i < length s → all p (drop i s) ≡ (p (get_or s i 0) && all p (drop (i + 1) s))
  unfolding all
  all_here h = rw (drop-cons s i 0, add-one)

  -- the same for a loop that carries a running test
  pub all_on : (b : Bool) → i < length s → (b && all p (drop i s)) ≡ ((b && p (get_or s i 0)) && all p (drop (i + 1) s))
  all_on b h = ap (◌&&◌ b) (all_here h) ∙ and_assoc b (p (get_or s i 0)) (all p (drop (i + 1) s))

  pub all_end : length s ≤ i → all p (drop i s) ≡ true
  unfolding all
  all_end h = rw (drop_of_length-le s h)

-- what holds of all elements holds of those from an index on
pub all_drop : (p : ℕ → Bool) (s : List ℕ) (k : ℕ) → all p s ≡ true → all p (drop k s) ≡ true
unfolding all
all_drop p s zero h = h
all_drop p [] (suc k) h = h
all_drop p (x ∷ s) (suc k) h = all_drop p s k (and_r (p x) (all p s) h)
