-- `names::name_ok`. By its size, then as text.
-- Assumes nothing.
use Rattle.names.proofs.Returns.{ok_no, ok_sized}
use Rattle.names.proofs.name_ok.Goals as goal

pub returns-then-v : goal.returns-then-v
returns-then-v c = ok_no c.args.v.now c.if-v.true

pub returns : goal.returns
returns c =
    ok_sized c.args.v.now c.if-v.false c.text_ok.ensures
