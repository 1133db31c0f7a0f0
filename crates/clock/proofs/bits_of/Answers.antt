-- `clock::bits_of`. By the sign of the clock.
-- Assumes nothing.
use native.Mathlib.Omega.{arith}
use mir.Facts.{to_z-of_z}
use Rattle.clock.proofs.Signs.{negative, positive, sub_fits, back, bits_neg}
use Rattle.clock.proofs.bits_of.Goals as goal

pub overflow_sub-k : goal.overflow_sub-k
overflow_sub-k c = sub_fits c.args.clock c.ranges.clock (negative _ c.ranges.clock c.if-clock-lt0.true)

pub overflow_cast-k : goal.overflow_cast-k
overflow_cast-k c = let d = negative _ c.ranges.clock c.if-clock-lt0.true in rw (back c.args.clock c.ranges.clock d) (tt, record { fits = omega (arith, d.small) })

pub overflow_sub-result : goal.overflow_sub-result
overflow_sub-result c = let d = negative _ c.ranges.clock c.if-clock-lt0.true in rw (back c.args.clock c.ranges.clock d) (omega (arith, d.small))

pub overflow_cast-result : goal.overflow_cast-result
overflow_cast-result c = let u = positive _ c.ranges.clock c.if-clock-lt0.false in rw (to_z-of_z c.ranges.clock, u.is) (tt, record { fits = omega (arith, u.small) })

pub returns-then-clock-lt0 : goal.returns-then-clock-lt0
returns-then-clock-lt0 c = let d = negative _ c.ranges.clock c.if-clock-lt0.true in rw (back c.args.clock c.ranges.clock d) (bits_neg c.args.clock c.ranges.clock d)

pub returns-else-clock-lt0 : goal.returns-else-clock-lt0
returns-else-clock-lt0 c = let u = positive _ c.ranges.clock c.if-clock-lt0.false in rw (to_z-of_z c.ranges.clock, u.is)
