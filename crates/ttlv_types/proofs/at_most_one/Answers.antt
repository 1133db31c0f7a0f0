-- `ttlv_types::at_most_one`. All but the last byte are zero, and the last is 0 or 1.
-- Assumes nothing.
use mathlib.Core.Path.{sym, ◌∙◌}
use Rattle.ttlv_types.proofs.Small.{small_none, small_no, small_last}
use Rattle.ttlv_types.proofs.at_most_one.Goals as goal

pub returns-then-all_zero : goal.returns-then-all_zero
returns-then-all_zero c = small_last _ _ _ c.in-Some.ensures.cases.0 (sym c.all_zero.ensures ∙ c.if-all_zero.true)

pub returns-else-all_zero : goal.returns-else-all_zero
returns-else-all_zero c =
    c.if-all_zero.false ∙ small_no _ _ _ c.in-Some.ensures.cases.0 (sym c.all_zero.ensures ∙ c.if-all_zero.false)

pub returns-in-None : goal.returns-in-None
returns-in-None c = small_none c.args.v.now c.in-None.ensures.cases
