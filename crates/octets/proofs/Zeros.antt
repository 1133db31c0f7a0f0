-- Laws of zero bytes: the test, the run of zeros, and the number that they spell.
-- Assumes nothing.
use mathlib.Core.Path.{◌≡◌, refl, ap, ap₂}
use Prim.Native.Nat.{ℕ, zero, suc, ◌+◌, ◌-◌, ◌≤◌, ◌<◌}
use native.Mathlib.Omega.{arith}
use mathlib.Core.Bool.{true}
use mathlib.Core.List.{List, [], ◌∷◌}
use lib.ListN.{length, take, drop, set, replicate}
use lib.Seq.{sets}
use borrow.Author.Tests.{eqb-true}
use Rattle.octets.specs.Octets.{part, all, is_zero, all_zero, Bytes}
use Rattle.octets.proofs.Bools.{and_l, and_r}

-- zeros pass the test
pub zeros_pass : (k : ℕ) → all_zero (replicate k 0) ≡ true
unfolding all
zeros_pass zero = refl
zeros_pass (suc k) = zeros_pass k

-- and what passes is zeros
pub pass_zeros : (s : List ℕ) → all_zero s ≡ true → s ≡ replicate (length s) 0
unfolding all
pass_zeros [] e = refl
pass_zeros (x ∷ s) e =
    ap₂ (λ (y : ℕ) (ys : List ℕ). y ∷ ys)
    (eqb-true x 0 (and_l (is_zero x) (all_zero s) e))
    (pass_zeros s (and_r (is_zero x) (all_zero s) e))

take_zeros : (w k : ℕ) → w ≤ k → take {A = ℕ} w (replicate k 0) ≡ replicate w 0
take_zeros zero k h = refl
take_zeros (suc w) zero h = absurd (omega arith)
take_zeros (suc w) (suc k) h = ap {B = List ℕ} (λ s. 0 ∷ s) (take_zeros w k (omega arith))

pub drop_zeros : (at k : ℕ) → drop {A = ℕ} at (replicate k 0) ≡ replicate (k - at) 0
drop_zeros zero k = let e : k - 0 ≡ k = omega arith in rw e
drop_zeros (suc at) zero = let e : 0 - suc at ≡ 0 = omega arith in rw e
drop_zeros (suc at) (suc k) = let e : suc k - suc at ≡ k - at = omega arith in rw e (drop_zeros at k)

-- a part of zeros
pub part_zeros : (k at w : ℕ) → at + w ≤ k → part (replicate k 0) at w ≡ replicate w 0
part_zeros k at w h = rw (drop_zeros at k) (take_zeros w (k - at) (omega arith))

-- ---- bytes

pub bytes_zeros : (k : ℕ) → Bytes (replicate k 0)
bytes_zeros zero = tt
bytes_zeros (suc k) = (omega arith, bytes_zeros k)

bytes_set : (t : List ℕ) (j b : ℕ) → Bytes t → b < 256 → Bytes (set t j b)
bytes_set [] j b h g = tt
bytes_set (x ∷ t) zero b h g = (g, h.1)
bytes_set (x ∷ t) (suc j) b h g = (h.0, bytes_set t j b h.1 g)

-- bytes stored in bytes
pub bytes_sets : (t : List ℕ) (at : ℕ) (bs : List ℕ) → Bytes t → Bytes bs → Bytes (sets t at bs)
bytes_sets t at [] h g = h
bytes_sets t at (b ∷ bs) h g = bytes_sets (set t at b) (suc at) bs (bytes_set t at b h g.0) g.1
