-- `soundness::is_sound`. The places counted so far have passed; the law of the check says the rest.
-- Assumes nothing.
use Rattle.twin_rules.specs.Checked.{TopBelow}
use Rattle.soundness.proofs.Checked.{Passed}
use Rattle.soundness.proofs.is_sound.Given as goal

abbrev pub invariant-loop-i : goal.invariant-loop-i
invariant-loop-i l = Passed l.n l.t l.i × TopBelow l.t l.i l.top
