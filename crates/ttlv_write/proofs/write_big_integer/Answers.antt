-- `ttlv_write::write_big_integer`. The length is looked at, then the value is written.
-- Assumes nothing.
use mathlib.Core.Path.{sym, ◌∙◌}
use Rattle.ttlv_types.specs.Types.{big_integer}
use Rattle.ttlv_put.proofs.Puts.{wrote_right, wrote_wrong}
use Rattle.ttlv_write.proofs.write_big_integer.Goals as goal

pub returns-then-not-length_ok : goal.returns-then-not-length_ok
returns-then-not-length_ok c =
    let a = c.args in
    wrote_wrong _ a.tag big_integer a.s.now a.out.now (sym c.length_ok.ensures ∙ c.if-not-length_ok.true)

pub returns : goal.returns
returns c =
    let a = c.args in
    let right = sym c.length_ok.ensures ∙ c.if-not-length_ok.false in
    wrote_right _ a.tag big_integer a.s.now a.out.now right c.spell_value.ensures
