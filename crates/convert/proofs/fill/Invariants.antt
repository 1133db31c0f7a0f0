-- `convert::fill`. Behind the front of the old table stand the bodies that were copied so far.
-- Assumes nothing.
use Prim.Native.Nat.{ℕ, ◌-◌, ◌≤◌}
use mathlib.Core.List.{List}
use Rattle.table.specs.Layout.{body_size, Table}
use Rattle.convert.specs.Old.{old_body_at, lengthened}
use Rattle.convert.proofs.Bodies.{Filled}
use Rattle.convert.proofs.fill.Given as goal

-- the bodies that are copied
abbrev pub bodies : ℕ → ℕ → List ℕ → ℕ → List ℕ
bodies w n old i = lengthened w (old_body_at w n old i)

-- a table in which the front of the old one and i bodies stand
abbrev pub Stands : ℕ → ℕ → List ℕ → List ℕ → ℕ → Type 0
Stands w n old new i = Table n new × Filled n body_size old (bodies w n old) new i

abbrev pub invariant-loop-i : goal.invariant-loop-i
invariant-loop-i l = (l.i ≤ l.n) × Stands l.w l.n l.old l.new l.i

abbrev pub decreases-loop-i : goal.decreases-loop-i
decreases-loop-i l = l.n - l.i
