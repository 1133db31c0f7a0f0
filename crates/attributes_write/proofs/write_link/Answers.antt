-- `attributes_write::write_link`. Nothing without a serial; else the body, and its head in front.
-- Assumes nothing.
use native.Mathlib.Omega.{arith}
use mathlib.Core.Path.{refl}
use Rattle.std.proofs.Common.{rules}
use borrow.Author.Tests.{eq-eqb, ne_eqb}
use Rattle.answer.specs.Respond.{link_items}
use Rattle.named_write.proofs.Compose.{puts_absent, puts_present, puts_around}
use Rattle.attributes_write.proofs.write_link.Goals as goal

pub returns-then-serial-eq0 : goal.returns-then-serial-eq0
unfolding link_items
returns-then-serial-eq0 c =
    puts_absent _ (eq-eqb c.args.serial 0 c.if-serial-eq0.true)

pub returns : goal.returns
unfolding link_items
returns c =
    let a = c.args in
    puts_present (ne_eqb a.serial 0 c.if-serial-eq0.false) (puts_around 32 refl (λ n left ran. search rules) c.write_around.ensures (omega arith) (omega arith))
