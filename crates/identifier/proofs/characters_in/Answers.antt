-- `identifier::characters_in`. A mask bounds what is under it.
-- Assumes nothing.
use native.Mathlib.Omega.{arith}
use Prim.Native.Nat.{ℕ, ◌+◌, ◌≤◌}
use lib.Bits.{bit_and, and_le_r}
use Rattle.identifier.proofs.characters_in.Goals as goal

letters_low : (d : ℕ) → bit_and (d + 0x0606060606060606) 0x1010101010101010 ≤ 0x1010101010101010
letters_low d = and_le_r (d + 0x0606060606060606) 0x1010101010101010

pub overflow_mul-result : goal.overflow_mul-result
overflow_mul-result c = omega (arith, letters_low c.args.d)

pub overflow_add-result-2 : goal.overflow_add-result-2
overflow_add-result-2 c = omega (arith, letters_low c.args.d)
