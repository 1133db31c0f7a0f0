-- `ttlv::is_message`. The item at the front has to end where the bytes do; a structure's own run is read one level less deep.
-- Assumes nothing.
use mathlib.Core.Path.{sym, ◌∙◌}
use lib.ListN.{length}
use lib.Dec.{eqb}
use borrow.Author.Tests.{eq-eqb, ne_eqb}
use Rattle.octets.proofs.Bools.{and_no, and_second}
use Rattle.ttlv.proofs.One.{one_end, one_bad, one_value, one_group}
use Rattle.ttlv.proofs.is_message.Goals as goal

pub returns-then-next-s : goal.returns-then-next-s
returns-then-next-s c =
    let s = c.args.s.now in
    sym (one_group s (sym c.read_first.ensures ∙ c.in-Group.is) ∙ and_no (eqb _ (length s)) _ (ne_eqb _ (length s) c.if-next-s.true))

pub returns-in-End : goal.returns-in-End
returns-in-End c =
    let s = c.args.s.now in
    sym (one_end s (sym c.read_first.ensures ∙ c.in-End.is))

pub returns-in-Bad : goal.returns-in-Bad
returns-in-Bad c =
    let s = c.args.s.now in
    sym (one_bad s (sym c.read_first.ensures ∙ c.in-Bad.is))

pub returns-in-Value : goal.returns-in-Value
returns-in-Value c =
    let s = c.args.s.now in
    sym (one_value s (sym c.read_first.ensures ∙ c.in-Value.is))

pub returns-else-next-s : goal.returns-else-next-s
returns-else-next-s c =
    let s = c.args.s.now in
    c.check.ensures ∙ sym (one_group s (sym c.read_first.ensures ∙ c.in-Group.is) ∙ and_second (eqb _ (length s)) _ (eq-eqb _ (length s) c.if-next-s.false))
