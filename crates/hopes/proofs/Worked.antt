-- What the hope is made of, worked out.
-- Assumes nothing.
use mathlib.Core.Path.{◌≡◌, refl}
use mathlib.Core.List.{[], ◌∷◌}
use Rattle.hopes.specs.Hope.{largest}

-- the largest of some clocks
pub largest_worked : (largest [] ∷ largest (4 ∷ []) ∷ largest (3 ∷ 9 ∷ 5 ∷ []) ∷ []) ≡ (0 ∷ 4 ∷ 9 ∷ [])
unfolding largest
largest_worked = refl
