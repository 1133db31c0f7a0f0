-- `front_write::write_version`. The body, and its head in front.
-- Assumes nothing.
use native.Mathlib.Omega.{arith}
use mathlib.Core.Path.{refl}
use Rattle.std.proofs.Common.{rules}
use Rattle.answer.specs.Respond.{version_items}
use Rattle.named_write.proofs.Compose.{puts_around}
use Rattle.front_write.proofs.write_version.Goals as goal

pub returns : goal.returns
unfolding version_items
returns c = puts_around 32 refl (λ n left ran. search rules) c.write_around.ensures (omega arith) (omega arith)
