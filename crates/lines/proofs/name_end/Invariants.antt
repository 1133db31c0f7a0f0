-- `lines::name_end`. What is left decides.
-- Assumes nothing.
use Prim.Native.Nat.{◌+◌, ◌-◌, ◌≤◌}
use mathlib.Core.Path.{◌≡◌}
use lib.ListN.{length, drop}
use Rattle.lines.specs.Lines.{name_end}
use Rattle.lines.proofs.name_end.Given as goal

abbrev pub invariant-loop-i : goal.invariant-loop-i
invariant-loop-i l = (l.i ≤ length l.s + 1) × (name_end l.s ≡ (l.i - 1) + name_end (drop (l.i - 1) l.s))
