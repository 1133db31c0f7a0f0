-- `identifier::digits_in`. A mask bounds what is under it.
-- Assumes nothing.
use mathlib.Core.Path.{refl}
use native.Mathlib.Omega.{arith}
use Prim.Native.Nat.{◌+◌, ◌*◌, ◌/◌}
use lib.Bits.{bit_and, and_le_r}
use Rattle.identifier.proofs.digits_in.Goals as goal

pub overflow_mul-result : goal.overflow_mul-result
overflow_mul-result c = omega (arith, and_le_r c.args.w 0x4040404040404040)

pub overflow_add-result : goal.overflow_add-result
overflow_add-result c = omega (arith, and_le_r c.args.w 0x0F0F0F0F0F0F0F0F, and_le_r c.args.w 0x4040404040404040)

pub returns : goal.returns
returns c =
    let w = c.args.w in
    (refl, and_le_r (bit_and w 0x0F0F0F0F0F0F0F0F + bit_and w 0x4040404040404040 / 64 * 9) 0x0F0F0F0F0F0F0F0F)
