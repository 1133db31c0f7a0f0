-- `date_rules::moved_by`. The state moves exactly where the test holds.
-- Assumes nothing.
use mathlib.Core.Path.{sym, ap, ◌∙◌}
use mathlib.Core.Bool.{Bool, ◌&&◌}
use lib.Dec.{eqb}
use Rattle.octets.proofs.If.{ifb_true, ifb_false}
use Rattle.date_rules.proofs.moved_by.Goals as goal

pub returns-then-state-from : goal.returns-then-state-from
returns-then-state-from c =
    sym (ifb_true _ _ _ (ap (λ (b : Bool). eqb c.args.state c.args.from && b) (sym c.has_come.ensures) ∙ c.if-state-from.true))

pub returns-else-state-from : goal.returns-else-state-from
returns-else-state-from c =
    sym (ifb_false _ _ _ (ap (λ (b : Bool). eqb c.args.state c.args.from && b) (sym c.has_come.ensures) ∙ c.if-state-from.false))
