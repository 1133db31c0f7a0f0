-- `rewrite::rewrite`. What is written is the front of the message, and what is left is a run.
-- Assumes nothing.
use mathlib.Core.Path.{◌≡◌, sym, ◌∙◌}
use mathlib.Core.Bool.{true, false}
use native.Mathlib.Omega.{arith}
use lib.ListN.{length, length-take, length-drop}
use borrow.Author.Tests.{le-leb, lt-leb}
use Rattle.octets.specs.Maybe.{is_some}
use Rattle.ttlv.specs.Parse.{message}
use Rattle.ttlv_put.proofs.Puts.{wrote_none}
use Rattle.rewrite.proofs.Walk.{start, kept, length_left, left_fits, again, whole}
use Rattle.rewrite.proofs.rewrite.Goals as goal

pub returns-then-not-is_message : goal.returns-then-not-is_message
returns-then-not-is_message c =
    let s = c.args in
    let no : is_some (message s.s.now) ≡ false = sym c.is_message.ensures ∙ c.if-not-is_message.true in
    wrote_none _ (length s.s.now) s.s.now s.out.now (rw no)

pub returns-then-out-s : goal.returns-then-out-s
returns-then-out-s c =
    let s = c.args in
    let yes : is_some (message s.s.now) ≡ true = sym c.is_message.ensures ∙ c.if-not-is_message.false in
    wrote_none _ (length s.s.now) s.s.now s.out.now (rw (yes, lt-leb (length s.s.now) (length s.out.now) c.if-out-s.true))

pub loop-t-init : goal.loop-t-init
loop-t-init c =
    let s = c.args in
    let yes = sym c.is_message.ensures ∙ c.if-not-is_message.false in
    start s.s.now s.out.now yes (omega arith)

pub slice_bounds-rewrite_first-count : goal.slice_bounds-rewrite_first-count
slice_bounds-rewrite_first-count c =
    let m = c.loop-t.invariant in
    omega (arith, kept m, m.passed, m.fits)

pub slice_bounds-rewrite_first-start : goal.slice_bounds-rewrite_first-start
slice_bounds-rewrite_first-start c =
    let m = c.loop-t.invariant in
    omega (arith, kept m, m.passed, m.fits)

pub rewrite_first-n-requires : goal.rewrite_first-n-requires
rewrite_first-n-requires c =
    let m = c.loop-t.invariant in
    (c.loop-t-test.true, (m.run, left_fits m))

pub overflow_add-at : goal.overflow_add-at
overflow_add-at c =
    let m = c.loop-t.invariant in
    let a = c.rewrite_first-n.ensures in
    let l = length_left m in
    omega (arith, a.within, m.passed, m.fits)

pub slice_bounds-t-count : goal.slice_bounds-t-count
slice_bounds-t-count c =
    let a = c.rewrite_first-n.ensures in
    omega (arith, a.within)

pub slice_bounds-t-start : goal.slice_bounds-t-start
slice_bounds-t-start c =
    let a = c.rewrite_first-n.ensures in
    omega (arith, a.within)

pub loop-t-smaller : goal.loop-t-smaller
loop-t-smaller c =
    let a = c.rewrite_first-n.ensures in
    rw (length-take, length-drop) (omega (arith, a.some, a.within))

pub loop-t-preserved : goal.loop-t-preserved
loop-t-preserved c = again c.loop-t.invariant c.rewrite_first-n.ensures

pub shape_of-out : goal.shape_of-out
shape_of-out c = kept c.loop-t.invariant

pub returns : goal.returns
returns c =
    let s = c.args in
    let m = c.loop-t.invariant in
    let yes : is_some (message s.s.now) ≡ true = sym c.is_message.ensures ∙ c.if-not-is_message.false in
    whole m _ (rw (yes, le-leb (length s.s.now) (length s.out.now) m.fits)) (omega arith)
