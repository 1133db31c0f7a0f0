-- `octets::put`. What is left to write gives the whole.
-- Assumes nothing.
use mathlib.Core.Path.{◌≡◌}
use lib.Seq.{sets}
use Rattle.octets.specs.Octets.{be}
use Rattle.octets.proofs.put.Given as goal

abbrev pub invariant-loop-k : goal.invariant-loop-k
invariant-loop-k l = sets l.t l.at (be l.k l.rest) ≡ sets l.initial.t l.at (be l.width l.v)
