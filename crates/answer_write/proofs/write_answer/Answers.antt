-- `answer_write::write_answer`. The body, and its head in front.
-- Assumes nothing.
use native.Mathlib.Omega.{arith}
use mathlib.Core.Path.{refl}
use Rattle.std.proofs.Common.{rules}
use Rattle.named_write.proofs.Compose.{puts_around}
use Rattle.answer_write.proofs.write_answer.Goals as goal

pub returns : goal.returns
returns c = puts_around 384 refl (λ n left ran. search rules) c.write_around.ensures (omega arith) (omega arith)
