-- `answer_write::write_located`. Nothing where nothing was found; else the identifier.
-- Assumes nothing.
use native.Mathlib.Omega.{arith}
use mathlib.Core.Path.{refl}
use borrow.Author.Tests.{eq-eqb, ne_eqb}
use Rattle.tags.specs.Tags.{unique_identifier}
use Rattle.answer.specs.Respond.{located_items}
use Rattle.named_write.proofs.Named.{puts_named}
use Rattle.named_write.proofs.Compose.{puts_absent, puts_present}
use Rattle.answer_write.proofs.write_located.Goals as goal

pub returns-then-serial-eq0 : goal.returns-then-serial-eq0
unfolding located_items
returns-then-serial-eq0 c =
    puts_absent _ (eq-eqb c.args.serial 0 c.if-serial-eq0.true)

pub returns : goal.returns
unfolding located_items
returns c =
    let a = c.args in
    puts_present (ne_eqb a.serial 0 c.if-serial-eq0.false) (puts_named unique_identifier a.serial refl c.write_named.ensures (omega arith))
