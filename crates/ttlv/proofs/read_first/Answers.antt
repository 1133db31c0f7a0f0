-- `ttlv::read_first`. Each test of the code is one of the definition's, in the same order.
-- Assumes nothing.
use mathlib.Core.Path.{◌≡◌, sym, ap, ap₂, ◌∙◌}
use Prim.Native.Nat.{ℕ, ◌^◌, ◌<◌}
use native.Mathlib.Omega.{arith}
use lib.ListN.{get_or}
use Rattle.octets.specs.Octets.{from_be, part}
use Rattle.ttlv.specs.Parse.{headed}
use Rattle.ttlv.proofs.View.{first_end_lem, first_short, no_lead, first_headed}
use Rattle.ttlv.proofs.Eight.{eight_part, eight_below}
use Rattle.ttlv.proofs.read_first.Goals as goal

pub returns-then-s-eq0 : goal.returns-then-s-eq0
returns-then-s-eq0 c =
    sym (first_end_lem c.args.s.now c.if-s-eq0.true)

pub returns-then-s-lt8 : goal.returns-then-s-lt8
returns-then-s-lt8 c =
    sym (first_short c.args.s.now c.if-s-eq0.false c.if-s-lt8.true)

pub returns-then-s-ne-LEAD : goal.returns-then-s-ne-LEAD
returns-then-s-ne-LEAD c =
    sym (no_lead c.args.s.now c.if-s-lt8.false c.if-s-ne-LEAD.true)

pub overflow_cast-tag : goal.overflow_cast-tag
overflow_cast-tag c =
    let s = c.args.s.now in
    let h : c.number-tag.result < 256 ^ 3 = eight_below 3 0 s c.number-tag.result (omega arith, omega arith) c.number-tag.ensures.1 in
    omega arith

pub head_first-requires : goal.head_first-requires
head_first-requires c =
    let s = c.args.s.now in
    (omega arith, eight_below 4 4 s c.number-n.result (omega arith, omega arith) c.number-n.ensures.1)

pub returns : goal.returns
returns c =
    let s = c.args.s.now in
    let t : c.number-tag.result ≡ from_be (part s 0 3) = c.number-tag.ensures.0 ∙ ap from_be (eight_part 3 0 s (omega arith)) in
    let n : c.number-n.result ≡ from_be (part s 4 4) = c.number-n.ensures.0 ∙ ap from_be (eight_part 4 4 s (omega arith)) in
    c.head_first.ensures ∙ ap₂ (λ (x y : ℕ). headed s x (get_or s 3 0) y) t n ∙ sym (first_headed s c.if-s-lt8.false c.if-s-ne-LEAD.false)
