-- `identifier::side_by_side`. A mask bounds what is under it.
-- Assumes nothing.
use native.Mathlib.Omega.{arith}
use Prim.Native.Nat.{ℕ, ◌+◌, ◌/◌, ◌≤◌}
use lib.Bits.{and_le_r}
use Rattle.identifier.specs.Words.{pairs_in, fours_in}
use Rattle.identifier.proofs.side_by_side.Goals as goal

pairs_low : (d : ℕ) → pairs_in d ≤ 0x00FF00FF00FF00FF
pairs_low d = and_le_r (d + d / 16) 0x00FF00FF00FF00FF

fours_low : (d : ℕ) → fours_in (pairs_in d) ≤ 0x0000FFFF0000FFFF
fours_low d = and_le_r (pairs_in d + pairs_in d / 256) 0x0000FFFF0000FFFF

pub overflow_add-fours : goal.overflow_add-fours
overflow_add-fours c = omega (arith, pairs_low c.args.d)

pub overflow_mul-result : goal.overflow_mul-result
overflow_mul-result c = omega (arith, fours_low c.args.d)

pub overflow_add-result : goal.overflow_add-result
overflow_add-result c = omega (arith, fours_low c.args.d)

pub overflow_cast-result : goal.overflow_cast-result
overflow_cast-result c = omega (arith, fours_low c.args.d)
