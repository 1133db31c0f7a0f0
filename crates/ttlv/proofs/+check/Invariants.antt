-- `ttlv::check`. The rest of the run decides; a structure's own run is read one level less deep, and the depth falls.
-- Assumes nothing.
use mathlib.Core.Path.{◌≡◌}
use Prim.Native.Nat.{◌-◌}
use lib.ListN.{length}
use Rattle.octets.specs.Maybe.{is_some}
use Rattle.ttlv.specs.Parse.{parse}
use Rattle.ttlv.proofs.Turns.{items}
use Rattle.ttlv.proofs.+check.Given as goal

abbrev pub decreases-check : goal.decreases-check
decreases-check l = l.depth

abbrev pub invariant-loop-next : goal.invariant-loop-next
invariant-loop-next l = is_some (parse l.depth l.s) ≡ is_some (items (parse (l.depth - 1)) l.t)

abbrev pub decreases-loop-next : goal.decreases-loop-next
decreases-loop-next l = length l.t
