-- `octets::word`. The bytes read so far spell the number so far.
-- Assumes nothing.
use Prim.Native.Nat.{◌<◌, ◌^◌}
use mathlib.Core.Path.{◌≡◌}
use lib.ListN.{take}
use Rattle.octets.specs.Octets.{from_be}
use Rattle.octets.proofs.word.Given as goal

abbrev pub invariant-loop-b : goal.invariant-loop-b
invariant-loop-b l = (l.n < 256 ^ l.b-index) × (l.n ≡ from_be (take l.b-index l.s))
