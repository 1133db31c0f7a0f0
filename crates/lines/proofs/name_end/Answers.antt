-- `lines::name_end`. What is left decides.
-- Assumes nothing.
use Prim.Native.Nat.{◌+◌, ◌-◌}
use mathlib.Core.Path.{◌≡◌}
use native.Mathlib.Omega.{arith}
use Rattle.lines.proofs.Lines.{name_here, name_on, name_last}
use Rattle.lines.proofs.name_end.Goals as goal

pub returns-then-s-i : goal.returns-then-s-i
returns-then-s-i c =
    let i = c.loop-i.i in
    let b : i ≡ i - 1 + 1 = omega arith in
    let e = name_here c.args.s.now (i - 1) (omega arith) (rw (← b) c.if-s-i.true) in
    (omega arith, omega arith)

pub loop-i-preserved : goal.loop-i-preserved
loop-i-preserved c =
    let i = c.loop-i.i in
    let b : i ≡ i - 1 + 1 = omega arith in
    let t : i + 1 - 1 ≡ i - 1 + 1 = omega arith in
    let e = name_on c.args.s.now (i - 1) (omega arith) (rw (← b) c.if-s-i.false) in
    (omega arith, rw t (omega arith))

pub returns : goal.returns
returns c =
    let e = name_last c.args.s.now (c.loop-i.i - 1) (omega arith) (omega arith) in
    (omega arith, omega arith)
