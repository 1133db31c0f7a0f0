-- `octets::word`. The bytes read so far spell the number so far.
-- Assumes nothing.
use Prim.Native.Nat.{◌<◌}
use mathlib.Core.Path.{refl}
use native.Mathlib.Omega.{arith}
use lib.ListN.{length}
use Rattle.octets.specs.Octets.{from_be, from_be_after}
use Rattle.octets.proofs.Numbers.{from_be_more, more_lt, more_fits}
use Rattle.octets.proofs.word.Goals as goal

pub loop-b-init : goal.loop-b-init
unfolding from_be from_be_after
loop-b-init c = (omega arith, refl)

pub overflow_mul-n : goal.overflow_mul-n
overflow_mul-n c = omega (arith, more_fits c.loop-b.n c.loop-b.b-index c.loop-b.invariant.0 (omega arith))

pub overflow_add-n : goal.overflow_add-n
overflow_add-n c =
    let b : c.from.result < 256 = omega arith in
    omega (arith, more_fits c.loop-b.n c.loop-b.b-index c.loop-b.invariant.0 (omega arith))

pub loop-b-preserved : goal.loop-b-preserved
loop-b-preserved c =
    let l = c.loop-b in
    let s = c.args.s.now in
    let b : c.from.result < 256 = omega arith in
    let h : l.b-index < length s = omega arith in
    (more_lt l.n l.b-index c.from.result l.invariant.0 b, cc (from_be_more s l.b-index h))
