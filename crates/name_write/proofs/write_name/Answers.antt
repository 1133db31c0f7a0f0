-- `name_write::write_name`. Nothing without a name; else the body, and its head in front.
-- Assumes nothing.
use native.Mathlib.Omega.{arith}
use mathlib.Core.Path.{refl}
use Rattle.std.proofs.Common.{rules}
use borrow.Author.Tests.{eq-eqb, ne_eqb}
use Rattle.answer.specs.Respond.{name_items}
use Rattle.named_write.proofs.Compose.{puts_absent, puts_present, puts_around}
use Rattle.name_write.proofs.write_name.Goals as goal

pub returns-then-name-eq0 : goal.returns-then-name-eq0
unfolding name_items
returns-then-name-eq0 c =
    puts_absent _ (eq-eqb c.args.name.len 0 c.if-name-eq0.true)

pub returns : goal.returns
unfolding name_items
returns c =
    let a = c.args in
    puts_present (ne_eqb a.name.len 0 c.if-name-eq0.false) (puts_around 56 refl (λ n left ran. search rules) c.write_around.ensures (omega arith) (omega arith))
