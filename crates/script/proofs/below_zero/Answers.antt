-- `script::below_zero`. By the size of the number.
-- Assumes nothing.
use mathlib.Core.Path.{sym, ap, ◌∙◌}
use mathlib.Core.Bool.{and-false}
use Prim.Native.Nat.{◌-◌, ◌^◌}
use lib.Dec.{leb}
use borrow.Author.Tests.{le-leb, lt-leb}
use native.Mathlib.Omega.{arith}
use Rattle.std.specs.Prelude.{Some}
use Rattle.octets.proofs.Bools.{and_no, and_i}
use Rattle.octets.proofs.If.{ifb_true, ifb_false}
use Rattle.script.proofs.Numbers.{stored_down}
use Rattle.script.proofs.below_zero.Goals as goal

pub returns-then-n-eq0 : goal.returns-then-n-eq0
returns-then-n-eq0 c = sym (ifb_false _ _ _ (and_no _ _ (lt-leb 1 c.args.n (omega arith))))

pub returns-then-n-gt-CLOCK_TOP : goal.returns-then-n-gt-CLOCK_TOP
returns-then-n-gt-CLOCK_TOP c = sym (ifb_false _ _ _ (rw (lt-leb c.args.n (2 ^ 63) (omega arith)) (and-false (leb 1 c.args.n))))

pub returns : goal.returns
returns c =
    let n = c.args.n in
    ap Some (stored_down (n - 1) (omega arith) c.clock_of.ensures)
    ∙ sym (ifb_true _ _ _ (and_i _ _ (le-leb 1 n (omega arith)) (le-leb n (2 ^ 63) (omega arith))))
