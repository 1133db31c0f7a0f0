-- `attributes_write::write_limits`. Nothing without a unit; else the body, and its head in front.
-- Assumes nothing.
use native.Mathlib.Omega.{arith}
use mathlib.Core.Path.{refl}
use Rattle.std.proofs.Common.{rules}
use borrow.Author.Tests.{eq-eqb, ne_eqb}
use Rattle.answer.specs.Respond.{limit_items}
use Rattle.named_write.proofs.Compose.{puts_absent, puts_present, puts_around}
use Rattle.attributes_write.proofs.write_limits.Goals as goal

pub returns-then-shown-eq0 : goal.returns-then-shown-eq0
unfolding limit_items
returns-then-shown-eq0 c =
    puts_absent _ (eq-eqb c.args.shown.unit 0 c.if-shown-eq0.true)

pub returns : goal.returns
unfolding limit_items
returns c =
    let a = c.args in
    puts_present (ne_eqb a.shown.unit 0 c.if-shown-eq0.false) (puts_around 48 refl (λ n left ran. search rules) c.write_around.ensures (omega arith) (omega arith))
