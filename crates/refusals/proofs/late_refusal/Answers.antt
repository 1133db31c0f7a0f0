-- `refusals::late_refusal`. Each return is a rung of the ladder.
-- Assumes nothing.
use Rattle.refusals.proofs.Early.{yes_if, no_if}
use Rattle.refusals.proofs.Late.{late_10, late_11, late_0}
use Rattle.refusals.proofs.late_refusal.Goals as goal

pub returns-then-not-above_zero : goal.returns-then-not-above_zero
returns-then-not-above_zero c = search (late_10, no_if)

pub returns-then-lent-size : goal.returns-then-lent-size
returns-then-lent-size c = search (late_11, yes_if)

pub returns : goal.returns
returns c = search (late_0, yes_if)
