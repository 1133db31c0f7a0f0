-- `table::serial_at`. The serial is the first field of the line.
-- Assumes nothing.
use mathlib.Core.Path.{ap, ◌∙◌}
use Prim.Native.Nat.{ℕ, ◌+◌}
use Rattle.octets.specs.Octets.{from_be, part}
use Rattle.table.specs.Layout.{serial_in}
use Rattle.table.specs.Records.{serial_at}
use Rattle.table.proofs.serial_at.Goals as goal

pub returns : goal.returns
unfolding serial_at
returns c =
    let t = c.args.t.now in
    c.number_at.ensures.0 ∙ ap (λ (at : ℕ). from_be (part t (at + serial_in) 4)) c.line-at.ensures
