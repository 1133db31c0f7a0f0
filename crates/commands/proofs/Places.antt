-- Laws of the place count of a `blank` line: where it comes from, and that it is no more than a large table's.
-- Assumes nothing.
use Prim.Native.Nat.{ℕ, ◌≤◌}
use mathlib.Core.Path.{◌≡◌, refl, subst}
use mathlib.Core.Bool.{true}
use mathlib.Core.Logic.{◌⊎◌, inl, inr}
use mathlib.Core.List.{List, [], ◌∷◌}
use native.Mathlib.Omega.{arith}
use lib.ListN.{length}
use Rattle.std.specs.Prelude.{Option, None, Some}
use Rattle.octets.specs.Maybe.{◌>>=◌}
use lib.Dec.{eqb}
use borrow.Author.Tests.{eqb-true}
use Rattle.octets.proofs.Bools.{or_cases}
use Rattle.octets.proofs.If.{on_if}
use Rattle.table.specs.Layout.{small_count, large_count, places_ok}
use Rattle.script.specs.Numbers.{number_in}
use Rattle.commands.specs.Commands.{if_places, places_in}

-- a line that says nothing
pub places_none : (s : List ℕ) → length s ≡ 0 → places_in s ≡ Some small_count
unfolding places_in
places_none [] h = refl
places_none (c ∷ s) h = absurd (omega arith)

-- a line that says something
pub places_said_lem : (s : List ℕ) → (length s ≡ 0 → ⊥) → places_in s ≡ (number_in s >>= if_places)
unfolding places_in
places_said_lem [] h = absurd (h refl)
places_said_lem (c ∷ s) h = refl

-- ---- the most

abbrev AtMostLarge : Option ℕ → Type 0
AtMostLarge None = Unit {0}
AtMostLarge (Some n) = n ≤ large_count

ok_most : (n : ℕ) → places_ok n ≡ true → n ≤ large_count
ok_most n e = go (or_cases (eqb n small_count) (eqb n large_count) e)
  where
    go : (eqb n small_count ≡ true) ⊎ (eqb n large_count ≡ true) → n ≤ large_count
    go (inl h) = let is = eqb-true n small_count h in omega arith
    go (inr h) = let is = eqb-true n large_count h in omega arith

if_most : (number : Option ℕ) → AtMostLarge (number >>= if_places)
unfolding ◌>>=◌
if_most None = tt
if_most (Some n) = on_if AtMostLarge (ok_most n) (λ e. tt)

all_most : (s : List ℕ) → AtMostLarge (places_in s)
unfolding places_in
all_most [] = let h : small_count ≤ large_count = omega arith in h
all_most (c ∷ s) = if_most (number_in (c ∷ s))

pub places_most : (s : List ℕ) {n : ℕ} → places_in s ≡ Some n → n ≤ large_count
places_most s e = subst AtMostLarge e (all_most s)
