-- `attributes_write::write_date`. Nothing where it is not set; else the date.
-- Assumes nothing.
use borrow.Author.Tests.{eq-eqb, ne_eqb}
use Rattle.ttlv_types.specs.Types.{date_time}
use Rattle.answer.specs.Respond.{date_items}
use Rattle.named_write.proofs.Compose.{puts_absent, puts_present, puts_long}
use Rattle.attributes_write.proofs.write_date.Goals as goal

pub returns-then-date-eq0 : goal.returns-then-date-eq0
unfolding date_items
returns-then-date-eq0 c = puts_absent _ (eq-eqb c.args.date 0 c.if-date-eq0.true)

pub returns : goal.returns
unfolding date_items
returns c =
    let w = rw c.requires.1 at c.write_number.ensures in
    puts_present (ne_eqb c.args.date 0 c.if-date-eq0.false) (puts_long c.args.tag date_time c.args.date w c.requires.0)
