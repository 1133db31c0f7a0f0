-- `rewrite::rewrite_long`. A Boolean by its bit; the other types by their arms.
-- Assumes nothing.
use Rattle.rewrite.proofs.Values.{bit_back}
use Rattle.rewrite.proofs.rewrite_long.Goals as goal

pub returns-in-6 : goal.returns-in-6
returns-in-6 c =
    let e = c.in-6.is in
    rw (e, ← bit_back c.args.bits (c.requires.1 e)) c.write_number.ensures
