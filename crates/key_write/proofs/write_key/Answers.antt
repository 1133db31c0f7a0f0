-- `key_write::write_key`. The block, and its head in front.
-- Assumes nothing.
use native.Mathlib.Omega.{arith}
use mathlib.Core.Path.{refl}
use Rattle.std.proofs.Common.{rules}
use Rattle.named_write.proofs.Compose.{puts_around}
use Rattle.answer.specs.Respond.{key_items}
use Rattle.key_write.proofs.write_key.Goals as goal

pub returns : goal.returns
unfolding key_items
returns c = puts_around 104 refl (λ n left ran. search rules) c.write_around.ensures (omega arith) (omega arith)
