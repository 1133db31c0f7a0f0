-- `words::fill`. The bytes that fit, stored over 32 zeros.
-- Assumes nothing.
use mathlib.Core.Path.{sym, ◌∙◌}
use native.Mathlib.Omega.{arith}
use lib.ListN.{length-take}
use lib.Seq.{length-take-le}
use Rattle.words.proofs.Laws.{filled_stored}
use Rattle.words.proofs.fill.Goals as goal

pub slice_bounds-put_all-end-2 : goal.slice_bounds-put_all-end-2
slice_bounds-put_all-end-2 c = sym (length-take-le _ _ (omega arith))

pub put_all-requires : goal.put_all-requires
put_all-requires c = rw length-take (omega arith)

pub returns : goal.returns
returns c =
    c.put_all.ensures ∙ filled_stored c.args.v.now c.fewer-end.result (omega arith)
