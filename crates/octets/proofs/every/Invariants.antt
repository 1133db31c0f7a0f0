-- `octets::every`. The running test and what is left decide.
-- Assumes nothing.
use mathlib.Core.Path.{◌≡◌}
use mathlib.Core.Bool.{Bool, ◌&&◌}
use Prim.Native.Nat.{ℕ, ◌<◌}
use lib.ListN.{drop}
use Rattle.octets.specs.Octets.{all}
use Rattle.octets.proofs.every.Given as goal

abbrev pub invariant-loop-b : goal.invariant-loop-b
invariant-loop-b g l = (p : ℕ → Bool) → ((x : ℕ) → (r : Bool) → x < 256 → goal.F-post g l.test x r → r ≡ p x) → all p l.s ≡ (l.clear && all p (drop l.b-index l.s))
