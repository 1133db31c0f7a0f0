-- `junctionmoth::junctionmoth_serve`. The engine's contract, with the length through a reference.
-- Assumes nothing.
use mathlib.Core.Path.{ap}
use mir.Syntax.{w64}
use mir.Val.{of_z}
use mir.Facts.{to_z-of_z}
use Rattle.junctionmoth.proofs.Calls.{call_is}
use Rattle.junctionmoth.proofs.junctionmoth_serve.Goals as goal

pub returns : goal.returns
returns c =
    let d = c.serve-served in
    rw c.told-number.ensures
    (call_is c.args.request.now c.args.table.now c.args.fresh.now _ _ c.args.out.now c.args.undo.now d.result d.new.table d.new.out d.new.undo
    (ap (of_z w64) (to_z-of_z c.ranges.clock)) d.ensures)
