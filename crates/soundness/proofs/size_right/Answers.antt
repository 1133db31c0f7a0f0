-- `soundness::size_right`. The early answers are those of lengths that cannot be the size.
-- Assumes nothing.
use Prim.Native.Nat.{◌+◌, ◌-◌, ◌/◌, ◌<◌}
use mathlib.Core.Path.{sym, ap}
use native.Mathlib.Omega.{arith}
use lib.Dec.{eqb}
use borrow.Author.Tests.{ne_eqb}
use Rattle.table.specs.Layout.{lead_size, line_size, body_size, size_of}
use Rattle.soundness.proofs.size_right.Goals as goal

pub returns-then-len-lt-LEAD : goal.returns-then-len-lt-LEAD
returns-then-len-lt-LEAD c = sym (ne_eqb c.args.len (size_of c.args.n) (λ e. omega arith))

pub returns-then-len-n : goal.returns-then-len-n
returns-then-len-n c =
    let a = c.args in
    let few : (a.len - lead_size) / (line_size + body_size) < a.n = c.if-len-n.true in
    sym (ne_eqb a.len (size_of a.n) (λ e. omega arith))

pub returns : goal.returns
returns c = ap (eqb c.args.len) c.size.ensures
