-- `octets::number`. One word, or two put together.
-- Assumes nothing.
use Prim.Native.Nat.{◌-◌}
use mathlib.Core.Path.{sym, ap, ◌∙◌}
use native.Mathlib.Nat.{le_refl}
use native.Mathlib.Omega.{arith}
use Rattle.octets.specs.Octets.{from_be}
use Rattle.octets.proofs.Words.{length_looked, looked, two_words}
use Rattle.octets.proofs.number.Goals as goal

pub slice_bounds-word-end : goal.slice_bounds-word-end
slice_bounds-word-end c = sym (length_looked c.args.s.now c.fewer-end.result c.fewer-end.ensures _ (le_refl _))

pub word-requires : goal.word-requires
word-requires c =
    let h = length_looked c.args.s.now c.fewer-end.result c.fewer-end.ensures c.fewer-end.result (le_refl _) in
    rw h c.if-end-le4.true

pub returns-then-end-le4 : goal.returns-then-end-le4
returns-then-end-le4 c =
    let s = c.args.s.now in
    let e = looked s c.fewer-end.result c.fewer-end.ensures in
    (c.word.ensures.0 ∙ ap from_be e, rw e at c.word.ensures.1)

pub slice_bounds-word-end-2 : goal.slice_bounds-word-end-2
slice_bounds-word-end-2 c =
    let f = c.fewer-end in
    sym (length_looked c.args.s.now f.result f.ensures (f.result - 4) (omega arith))

pub word-high-requires : goal.word-high-requires
word-high-requires c =
    let f = c.fewer-end in
    let h = length_looked c.args.s.now f.result f.ensures (f.result - 4) (omega arith) in
    rw h (omega arith)

pub returns : goal.returns
returns c =
    let s = c.args.s.now in
    let f = c.fewer-end in
    let high = c.word-high in
    let low = c.word-low in
    two_words s f.result f.ensures (omega arith) high.result low.result high.ensures.0 high.ensures.1 low.ensures.0 low.ensures.1
