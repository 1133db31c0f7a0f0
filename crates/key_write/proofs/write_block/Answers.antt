-- `key_write::write_block`. The items, and their head in front.
-- Assumes nothing.
use native.Mathlib.Omega.{arith}
use mathlib.Core.Path.{refl}
use Rattle.std.proofs.Common.{rules}
use Rattle.named_write.proofs.Compose.{puts_around}
use Rattle.key_write.proofs.write_block.Goals as goal

pub returns : goal.returns
returns c = puts_around 96 refl (λ n left ran. search rules) c.write_around.ensures (omega arith) (omega arith)
