-- `engine::answer_all`. What is due is done, the batch is run behind the front, and the front is written: the law of an accepted request joins them.
-- Assumes nothing.
use native.Mathlib.Omega.{arith}
use Rattle.engine.proofs.Answers.{front_asks, front_fits, settles_behind, accepted_is}
use Rattle.engine.proofs.answer_all.Goals as goal

pub begin-counted-requires : goal.begin-counted-requires
begin-counted-requires c = c.requires.runs.carries.table

-- ---- what is due is done

pub slice_bounds-run_batch-count : goal.slice_bounds-run_batch-count
slice_bounds-run_batch-count c = front_fits c.requires c.args.clock

pub slice_bounds-run_batch-start : goal.slice_bounds-run_batch-start
slice_bounds-run_batch-start c = front_fits c.requires c.args.clock

pub run_batch-done-requires : goal.run_batch-done-requires
run_batch-done-requires c = settles_behind c.requires c.args.clock c.begin-counted.ensures.1

-- ---- the batch is run

pub write_front-requires : goal.write_front-requires
write_front-requires c =
    let front = front_asks c.args.out.now c.run_batch-done.ensures.left in
    (omega (arith, c.requires.runs.fits), front.0, front.1)

-- ---- the front is written

pub overflow_add-result : goal.overflow_add-result
overflow_add-result c =
    omega (arith, (front_asks c.args.out.now c.run_batch-done.ensures.left).0)

pub returns : goal.returns
returns c =
    let a = c.args in
    accepted_is c.requires a.clock c.begin-counted.ensures.1 a.option c.begin-counted.ensures.0 c.run_batch-done.ensures c.write_front.ensures
