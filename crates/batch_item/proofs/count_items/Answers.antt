-- `batch_item::count_items`. What is counted and what is left decide; what is left is shorter.
-- Assumes nothing.
use mathlib.Core.Path.{sym, ap, ◌∙◌}
use native.Mathlib.Omega.{arith}
use Rattle.std.specs.Prelude.{Some}
use Rattle.ttlv.specs.Tree.{tree_of}
use Rattle.runs.proofs.Sizes.{run_size}
use Rattle.runs.proofs.Steps.{stops, goes}
use Rattle.tags.specs.Tags.{batch_item}
use Rattle.batch_item.specs.Item.{items_in}
use Rattle.batch_item.proofs.Found.{items_step, items_none, body_size}
use Rattle.batch_item.proofs.Items.{counted, counted_none, counted_more}
use Rattle.batch_item.proofs.count_items.Goals as goal

pub loop-rest-init : goal.loop-rest-init
loop-rest-init c = (counted_none (items_in (tree_of c.args.run.bytes.now)), omega arith)

pub returns-in_err-item : goal.returns-in_err-item
returns-in_err-item c =
    let l = c.loop-rest in
    c.from_residual.ensures ∙ sym (l.invariant.0 ∙ ap (counted l.count) (items_step _ (sym c.loop-rest-test.ensures) ∙ stops _ (sym c.in_err-item.ensures)))

pub returns-in_err-find_item : goal.returns-in_err-find_item
returns-in_err-find_item c =
    let l = c.loop-rest in
    c.from_residual-in_err-find_item.ensures
    ∙ sym (l.invariant.0 ∙ ap (counted l.count) (items_step _ (sym c.loop-rest-test.ensures) ∙ goes _ (sym c.in_ok-item.ensures) ∙ stops _ (sym c.in_err-find_item.ensures)))

-- ---- it is a batch item: what is left is shorter

pub overflow_add-count : goal.overflow_add-count
overflow_add-count c =
    let l = c.loop-rest in
    let s = body_size batch_item (tree_of l.rest.bytes.now) (sym c.in_ok-item.ensures) in
    let r = run_size c.args.run.bytes.now c.args.run.run in
    let i = l.invariant.1 in
    omega arith

pub loop-rest-smaller : goal.loop-rest-smaller
loop-rest-smaller c =
    let s = body_size batch_item (tree_of c.loop-rest.rest.bytes.now) (sym c.in_ok-item.ensures) in
    omega arith

pub loop-rest-preserved : goal.loop-rest-preserved
loop-rest-preserved c =
    let l = c.loop-rest in
    let s = body_size batch_item (tree_of l.rest.bytes.now) (sym c.in_ok-item.ensures) in
    let i = l.invariant.1 in
    (l.invariant.0 ∙ ap (counted l.count) (items_step _ (sym c.loop-rest-test.ensures) ∙ goes _ (sym c.in_ok-item.ensures) ∙ goes _ (sym c.in_ok-find_item.ensures)) ∙ counted_more l.count _ _, omega arith)

pub returns : goal.returns
returns c =
    let l = c.loop-rest in
    sym (l.invariant.0 ∙ ap (counted l.count) (items_none _ (sym c.loop-rest-test.ensures)) ∙ ap Some (omega arith))
