-- `hex_text::bytes_in`. What is left decides, and what is read is written.
-- Assumes nothing.
use mathlib.Core.Path.{sym}
use native.Mathlib.Omega.{arith}
use Rattle.hex_text.proofs.Texts.{mid_gap, mid_end, mid_broken, mid_full, mid_byte}
use Rattle.hex_text.proofs.bytes_in.Goals as goal

pub loop-i-preserved-then-s-i-eq32 : goal.loop-i-preserved-then-s-i-eq32
loop-i-preserved-then-s-i-eq32 c = mid_gap c.loop-i.invariant (omega arith) c.if-s-i-eq32.true

pub returns-in_err-b : goal.returns-in_err-b
returns-in_err-b c = rw c.from_residual.ensures (mid_broken c.loop-i.invariant (omega arith) c.if-s-i-eq32.false (sym c.in_err-b.ensures))

pub returns-then-out-n : goal.returns-then-out-n
returns-then-out-n c = mid_full c.loop-i.invariant (omega arith) c.if-s-i-eq32.false (sym c.in_ok-b.ensures) c.if-out-n.true

pub loop-i-preserved : goal.loop-i-preserved
loop-i-preserved c = mid_byte c.loop-i.invariant (omega arith) c.if-s-i-eq32.false (sym c.in_ok-b.ensures) (omega arith)

pub returns : goal.returns
returns c = mid_end c.loop-i.invariant (omega arith)
