-- When bytes spell 0 or 1, however many they are: all but the last are zero, and the last is 0 or 1.
-- Assumes nothing.
use mathlib.Core.Path.{◌≡◌, sym, ap, ◌∙◌}
use Prim.Native.Nat.{ℕ, ◌+◌, ◌*◌}
use native.Mathlib.Omega.{arith}
use mathlib.Core.Bool.{true, false}
use mathlib.Core.List.{List, [], ◌∷◌, ◌++◌}
use lib.ListN.{length, drop_of_length-le}
use lib.Dec.{leb}
use borrow.Author.Tests.{eqb-true, eqb-false, lt-leb}
use Rattle.octets.specs.Octets.{from_be, from_be_after, all_zero}
use Rattle.octets.proofs.Numbers.{from_be_snoc, zero_spelled}

pub small_none : (v : List ℕ) → length v ≡ 0 → true ≡ leb (from_be v) 1
unfolding from_be from_be_after
small_none v h = let none : v ≡ [] = drop_of_length-le v {i = 0} (omega arith) in rw none

module _ (v rest : List ℕ) (last : ℕ) (e : v ≡ rest ++ (last ∷ [])) where
  spelled : from_be v ≡ from_be rest * 256 + last
  spelled = rw e (from_be_snoc rest last)

  pub small_last : all_zero rest ≡ true → leb last 1 ≡ leb (from_be v) 1
  small_last z =
      let n = eqb-true (from_be rest) 0 (zero_spelled rest ∙ z) in
      let w : last ≡ from_be v = omega (arith, spelled) in
      ap (λ (n : ℕ). leb n 1) w

  pub small_no : all_zero rest ≡ false → false ≡ leb (from_be v) 1
  small_no z =
      let n = eqb-false (from_be rest) 0 (zero_spelled rest ∙ z) in
      sym (lt-leb (from_be v) 1 (omega (arith, spelled)))
