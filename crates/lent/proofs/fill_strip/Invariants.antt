-- `lent::fill_strip`. What is written so far counts up.
-- Assumes nothing.
use mathlib.Core.Path.{◌≡◌}
use lib.ListN.{take}
use Rattle.octets.specs.Octets.{counted_from}
use Rattle.lent.proofs.fill_strip.Given as goal

abbrev pub invariant-loop-i : goal.invariant-loop-i
invariant-loop-i l = take l.i l.s ≡ counted_from 0 l.i
