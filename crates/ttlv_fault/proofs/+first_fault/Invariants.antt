-- `ttlv_fault::first_fault`. The rest of the run decides; a structure's own run is searched one level less deep, and the depth falls.
-- Assumes nothing.
use mathlib.Core.Path.{◌≡◌}
use Prim.Native.Nat.{◌+◌, ◌-◌}
use lib.ListN.{length}
use Rattle.ttlv_fault.specs.Fault.{fault_of}
use Rattle.ttlv_fault.proofs.Faults.{faults}
use Rattle.ttlv_fault.proofs.+first_fault.Given as goal

abbrev pub decreases-first_fault : goal.decreases-first_fault
decreases-first_fault l = l.depth

abbrev pub invariant-loop-next : goal.invariant-loop-next
invariant-loop-next l = (l.at + length l.t ≡ length l.s) × (fault_of l.depth l.s ≡ l.at + faults (fault_of (l.depth - 1)) l.t)

abbrev pub decreases-loop-next : goal.decreases-loop-next
decreases-loop-next l = length l.t
