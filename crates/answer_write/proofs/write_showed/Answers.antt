-- `answer_write::write_showed`. The name, and the attributes behind it.
-- Assumes nothing.
use native.Mathlib.Omega.{arith}
use mathlib.Core.Path.{refl}
use Rattle.tags.specs.Tags.{unique_identifier}
use Rattle.ttlv.specs.Items.{nil}
use Rattle.ttlv_put.specs.Write.{join}
use Rattle.ttlv_put.proofs.Holds.{holds_left}
use Rattle.answer.specs.Respond.{named}
use Rattle.named_write.specs.Puts.{Puts}
use Rattle.named_write.proofs.Named.{puts_named}
use Rattle.named_write.proofs.Compose.{puts_then}
use Rattle.answer_write.proofs.write_showed.Goals.{After-write_named-n}
use Rattle.answer_write.proofs.write_showed.Goals as goal

-- the name stands in front
name : (c : After-write_named-n) → Puts 16 (named unique_identifier c.args.shown.serial nil) c.args.out.now c.write_named-n.new.out c.write_named-n.result
name c = puts_named unique_identifier c.args.shown.serial refl c.write_named-n.ensures (omega arith)

pub write_attributes-m-requires : goal.write_attributes-m-requires
write_attributes-m-requires c =
    let p = name (goal.at.write_attributes-m-requires c).After-write_named-n in
    omega (arith, p.few, holds_left p.holds)

pub returns : goal.returns
unfolding join
returns c =
    puts_then (name (goal.at.returns c).After-write_named-n) c.write_attributes-m.ensures
