-- `ttlv_write::write_text`. The text is looked at, then the value is written.
-- Assumes nothing.
use mathlib.Core.Path.{sym, ◌∙◌}
use Rattle.ttlv_types.specs.Types.{text_string}
use Rattle.ttlv_put.proofs.Puts.{wrote_right, wrote_wrong}
use Rattle.ttlv_write.proofs.write_text.Goals as goal

pub returns-then-not-text_ok : goal.returns-then-not-text_ok
returns-then-not-text_ok c =
    let a = c.args in
    wrote_wrong _ a.tag text_string a.s.now a.out.now (sym c.text_ok.ensures ∙ c.if-not-text_ok.true)

pub returns : goal.returns
returns c =
    let a = c.args in
    let right = sym c.text_ok.ensures ∙ c.if-not-text_ok.false in
    wrote_right _ a.tag text_string a.s.now a.out.now right c.spell_value.ensures
