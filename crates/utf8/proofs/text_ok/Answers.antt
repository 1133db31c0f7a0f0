-- `utf8::text_ok`. Plain bytes are text.
-- Assumes nothing.
use mathlib.Core.Path.{sym, ◌∙◌}
use Rattle.utf8.proofs.Texts.{text_plain}
use Rattle.utf8.proofs.text_ok.Goals as goal

pub returns-then-plain : goal.returns-then-plain
returns-then-plain c = sym (text_plain c.args.s.now (sym c.plain.ensures ∙ c.if-plain.true))
