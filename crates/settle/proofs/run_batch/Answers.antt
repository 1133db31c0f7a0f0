-- `settle::run_batch`. Under Undo the table is copied, the batch tried on the copy, and the table copied again; then it is run, or answered as undone.
-- Assumes nothing.
use Rattle.settle.proofs.Settling.{other_is, passes_is, fails_is}
use Rattle.settle.proofs.run_batch.Goals as goal

-- ---- another option

pub returns-then-option-ne-UNDO : goal.returns-then-option-ne-UNDO
returns-then-option-ne-UNDO c =
    other_is c.requires c.if-option-ne-UNDO.true c.run_items.ensures

-- ---- Undo

pub returns-in-None : goal.returns-in-None
returns-in-None c =
    passes_is c.requires c.if-option-ne-UNDO.false c.put_all.ensures c.try_items-failure.ensures c.try_items-failure.auto.table c.put_all-2.ensures
    c.in-None.is c.run_items-in-None.ensures

pub returns-in-Some : goal.returns-in-Some
returns-in-Some c =
    fails_is c.requires c.if-option-ne-UNDO.false c.put_all.ensures c.try_items-failure.ensures c.try_items-failure.auto.table c.put_all-2.ensures
    _ _ c.in-Some.is c.tell_undone.ensures
