-- `utf8::spelled`. What is still to come and the bytes that are left decide.
-- Assumes nothing.
use native.Mathlib.Omega.{arith}
use Rattle.utf8.proofs.Texts.{text_start, text_goes_on, text_ends}
use Rattle.utf8.proofs.spelled.Goals as goal

pub loop-b-init : goal.loop-b-init
loop-b-init c = text_start c.args.s.now c.tails-p.ensures

pub loop-b-preserved : goal.loop-b-preserved
loop-b-preserved c =
    text_goes_on c.args.s.now c.loop-b.b-index c.loop-b.p c.go_on-p.result (omega arith) c.go_on-p.ensures c.loop-b.invariant

pub returns : goal.returns
returns c =
    text_ends c.args.s.now c.loop-b.b-index c.loop-b.p (omega arith) c.loop-b.invariant
