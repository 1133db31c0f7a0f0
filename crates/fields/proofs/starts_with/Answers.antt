-- `fields::starts_with`. By the tag's three bytes, then by the item at the front.
-- Assumes nothing.
use mathlib.Core.Logic.{inl, inr}
use mathlib.Core.Path.{sym, ap, ◌∙◌}
use Prim.Native.Nat.{◌^◌, ◌<◌}
use native.Mathlib.Omega.{arith}
use Rattle.octets.specs.Octets.{from_be}
use Rattle.ttlv.proofs.Eight.{eight_part, eight_below}
use Rattle.fields.proofs.Starts.{starts_short, starts_other, starts_none, starts_value, starts_group}
use Rattle.fields.proofs.starts_with.Goals as goal

pub returns-then-s-lt8 : goal.returns-then-s-lt8
returns-then-s-lt8 c = sym (starts_short c.args.s.now c.args.tag c.if-s-lt8.true)

pub overflow_cast-front : goal.overflow_cast-front
overflow_cast-front c =
    let s = c.args.s.now in
    let h : c.number-front.result < 256 ^ 3 = eight_below 3 0 s c.number-front.result (omega arith, omega arith) c.number-front.ensures.1 in
    omega arith

pub returns-then-front-tag : goal.returns-then-front-tag
returns-then-front-tag c =
    let a = c.args in
    let n = c.number-front.ensures.0 ∙ ap from_be (eight_part 3 0 a.s.now (omega arith)) in
    sym (starts_other a.s.now a.tag (λ e. c.if-front-tag.true (n ∙ e)))

pub returns-in-End : goal.returns-in-End
returns-in-End c =
    let first = sym c.read_first.ensures in
    sym (starts_none c.args.s.now c.args.tag (elim c.in-End.is [ inl e ↦ inl (first ∙ e) | inr e ↦ inr (first ∙ e) ]))

pub returns-in-Value : goal.returns-in-Value
returns-in-Value c =
    let a = c.args in
    let n = c.number-front.ensures.0 ∙ ap from_be (eight_part 3 0 a.s.now (omega arith)) in
    sym (starts_value a.s.now a.tag (sym n ∙ c.if-front-tag.false) (sym c.read_first.ensures ∙ c.in-Value.is))

pub returns-in-Group : goal.returns-in-Group
returns-in-Group c =
    let a = c.args in
    let n = c.number-front.ensures.0 ∙ ap from_be (eight_part 3 0 a.s.now (omega arith)) in
    sym (starts_group a.s.now a.tag (sym n ∙ c.if-front-tag.false) (sym c.read_first.ensures ∙ c.in-Group.is))
