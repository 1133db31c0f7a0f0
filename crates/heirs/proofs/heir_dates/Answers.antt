-- `heir_dates` meets its contract: copied without an Offset; else one law for each way through.
-- Assumes nothing.
use mathlib.Core.Path.{ap, ◌∙◌}
use Prim.Native.Nat.{ℕ, ◌+◌}
use native.Mathlib.Omega.{arith}
use Rattle.heirs.proofs.Heirs.{dated, dates_copied, wrong_unstarted, wrong_start, wrong_end, right_unset, right_set}
use Rattle.heirs.proofs.heir_dates.Goals as goal

pub returns-in_default : goal.returns-in_default
returns-in_default c = search dates_copied

pub returns-then-old : goal.returns-then-old
returns-then-old c = wrong_unstarted c.args.clock c.in-Some.seconds c.args.old c.in-Some.is c.if-old.true

pub returns-then-wait-clock : goal.returns-then-wait-clock
returns-then-wait-clock c = wrong_start c.args.clock c.in-Some.seconds c.args.old c.in-Some.is (omega arith)

pub returns-then-old-eq0 : goal.returns-then-old-eq0
returns-then-old-eq0 c =
    right_unset c.args.clock c.in-Some.seconds c.args.old c.in-Some.is c.if-old.false (omega arith) (omega arith)

pub returns-then-start-wide : goal.returns-then-start-wide
returns-then-start-wide c =
    wrong_end c.args.clock c.in-Some.seconds c.args.old c.in-Some.is (omega arith) (omega arith)

pub returns : goal.returns
returns c =
    ap (λ (x : ℕ). dated (c.args.clock + c.in-Some.seconds) (c.args.clock + c.in-Some.seconds + x)) c.saturating_sub-wide.ensures
    ∙ right_set c.args.clock c.in-Some.seconds c.args.old c.in-Some.is c.if-old.false (omega arith) (omega arith) (omega arith)
