-- `fields::bytes_field`. By cases on the item at the front, its tag and its type.
-- Assumes nothing.
use mathlib.Core.Path.{◌≡◌, sym, ap, ◌∙◌}
use Rattle.ttlv.specs.declared.First.TheVariants.{Value}
use Rattle.fields.specs.Found.{bytes_in, bytes_at}
use Rattle.fields.proofs.Found.{no_value_first, other_tag, other_kind, wanted}
use Rattle.fields.proofs.bytes_field.Goals.{In-Value, then-found-tag-via-then-found-tag, then-found-tag-via-else-found-tag+then-typed-kind}
use Rattle.fields.proofs.bytes_field.Goals as goal

pub returns-in_default : goal.returns-in_default
unfolding bytes_at
returns-in_default c =
    let a = c.args in
    let rf = c.read_first in
    sym (ap (bytes_in a.tag a.kind) (sym rf.ensures) ∙ no_value_first a.tag a.kind rf.result c.in_default.not-Value)

-- the item at the front decides
front : (c : In-Value) → let a = c.args in
    let v = c.in-Value in
    bytes_at a.s.now a.tag a.kind ≡ bytes_in a.tag a.kind (Value v.found v.typed v.len v.next)
unfolding bytes_at
front c =
    let asked = c.args in
    ap (bytes_in asked.tag asked.kind) (sym c.read_first.ensures ∙ c.in-Value.is)

pub returns-then-found-tag : goal.returns-then-found-tag
returns-then-found-tag c =
    let at = front (goal.at.returns-then-found-tag c).In-Value in
    elim c.then-found-tag.branch [
      | then-found-tag-via-then-found-tag w ↦ sym (at ∙ other_tag _ _ _ _ _ _ w.if-found-tag.true)
      | then-found-tag-via-else-found-tag+then-typed-kind w ↦ sym (at ∙ other_kind _ _ _ _ _ _ w.if-found-tag.false w.if-typed-kind.true)
    ]

pub returns : goal.returns
returns c = sym (front (goal.at.returns c).In-Value ∙ wanted _ _ _ _ _ _ c.if-found-tag.false c.if-typed-kind.false)
