-- `script::from_zero`. By the size of the number.
-- Assumes nothing.
use mathlib.Core.Path.{sym, ap, ◌∙◌}
use Prim.Native.Nat.{◌^◌}
use Rattle.std.specs.Prelude.{Some}
use Rattle.script.proofs.Numbers.{stored_up}
use borrow.Author.Tests.{lt-ltb, le-ltb}
use native.Mathlib.Omega.{arith}
use Rattle.octets.proofs.If.{ifb_true, ifb_false}
use Rattle.script.proofs.from_zero.Goals as goal

pub returns-then-n-lt-CLOCK_TOP : goal.returns-then-n-lt-CLOCK_TOP
returns-then-n-lt-CLOCK_TOP c =
    ap Some (stored_up c.args.n (omega arith) c.clock_of.ensures) ∙ sym (ifb_true _ _ _ (lt-ltb c.args.n (2 ^ 63) (omega arith)))

pub returns-else-n-lt-CLOCK_TOP : goal.returns-else-n-lt-CLOCK_TOP
returns-else-n-lt-CLOCK_TOP c = sym (ifb_false _ _ _ (le-ltb c.args.n (2 ^ 63) (omega arith)))
