-- `search::state_at`. The state is the second field of the line.
-- Assumes nothing.
use mathlib.Core.Path.{ap, ◌∙◌}
use Prim.Native.Nat.{ℕ, ◌+◌}
use Rattle.octets.specs.Octets.{from_be, part}
use Rattle.table.specs.Layout.{state_in}
use Rattle.table.specs.Records.{state_at}
use Rattle.search.proofs.state_at.Goals as goal

pub returns : goal.returns
unfolding state_at
returns c =
    let t = c.args.t.now in
    c.number_at.ensures.0 ∙ ap (λ (at : ℕ). from_be (part t (at + state_in) 1)) c.line-at.ensures
