-- `clock::clock_of`. By the highest bit.
-- Assumes nothing.
use Prim.Native.Nat.{◌-◌}
use mathlib.Core.Path.{◌≡◌, sym, ap, ◌∙◌}
use native.Mathlib.Omega.{arith}
use mir.Syntax.{w64}
use mir.Val.{to_z}
use Rattle.clock.proofs.Signs.{minus_fits, minus_is, top_below}
use Rattle.clock.proofs.clock_of.Goals as goal

pub overflow_sub-result-else-bits-lt9223372036854775808 : goal.overflow_sub-result-else-bits-lt9223372036854775808
overflow_sub-result-else-bits-lt9223372036854775808 c = minus_fits (18446744073709551615 - c.args.bits) (omega arith)

pub returns-else-bits-lt9223372036854775808 : goal.returns-else-bits-lt9223372036854775808
returns-else-bits-lt9223372036854775808 c =
    let b = c.args.bits in
    let m = 18446744073709551615 - b in
    let top : 18446744073709551615 - m ≡ b = omega arith in
    minus_is m (omega arith) ∙ sym (top_below m (omega arith)) ∙ ap (to_z w64) top
