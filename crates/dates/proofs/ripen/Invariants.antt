-- `ripen` meets its contract: what is left of the sweep gives the whole.
-- Assumes nothing.
use mathlib.Core.Path.{◌≡◌}
use Rattle.table.specs.Layout.{Table}
use Rattle.changes.specs.Dates.{ripe_from}
use Rattle.changes.proofs.Sweep.{left}
use Rattle.dates.proofs.ripen.Given as goal

abbrev pub invariant-loop-i : goal.invariant-loop-i
invariant-loop-i l = Table l.n l.t × (left l.n l.clock l.i l.t ≡ ripe_from l.n l.clock 0 l.n l.initial.t)
