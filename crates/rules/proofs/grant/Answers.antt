-- `grant` meets its contract: each return is one law of a grant.
-- Assumes nothing.
use mathlib.Core.Path.{sym}
use native.Mathlib.Omega.{arith}
use Rattle.rules.proofs.Grants.{not_active, no_limit, too_much, takes_off}
use Rattle.rules.proofs.grant.Goals as goal

pub returns-then-state-ne-ACTIVE : goal.returns-then-state-ne-ACTIVE
returns-then-state-ne-ACTIVE c = let a = c.args in sym (not_active a.state a.unit a.count a.amount (omega arith))

pub returns-then-unit-eq0 : goal.returns-then-unit-eq0
returns-then-unit-eq0 c = let a = c.args in sym (no_limit a.state a.unit a.count a.amount (omega arith) (omega arith))

pub returns-then-count-amount : goal.returns-then-count-amount
returns-then-count-amount c = let a = c.args in sym (too_much a.state a.unit a.count a.amount (omega arith) (omega arith) (omega arith))

pub returns : goal.returns
returns c = let a = c.args in sym (takes_off a.state a.unit a.count a.amount (omega arith) (omega arith) (omega arith))
