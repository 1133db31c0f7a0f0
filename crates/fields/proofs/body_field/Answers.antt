-- `fields::body_field`. By cases on the item at the front and its tag.
-- Assumes nothing.
use mathlib.Core.Path.{◌≡◌, sym, ap, ◌∙◌}
use Rattle.ttlv.specs.declared.First.TheVariants.{Group}
use Rattle.fields.specs.Found.{body_in, body_at}
use Rattle.fields.proofs.Found.{no_group_first, other_group, wanted_group}
use Rattle.fields.proofs.body_field.Goals.{In-Group}
use Rattle.fields.proofs.body_field.Goals as goal

pub returns-in_default : goal.returns-in_default
unfolding body_at
returns-in_default c =
    let tag = c.args.tag in
    let rf = c.read_first in
    sym (ap (body_in tag) (sym rf.ensures) ∙ no_group_first tag rf.result c.in_default.not-Group)

-- the structure at the front decides
front : (c : In-Group) → let a = c.args in
    body_at a.s.now a.tag ≡ body_in a.tag (Group c.in-Group.named c.in-Group.next)
unfolding body_at
front c = ap (body_in c.args.tag) (sym c.read_first.ensures ∙ c.in-Group.is)

pub returns-then-named-tag : goal.returns-then-named-tag
returns-then-named-tag c = sym (front (goal.at.returns-then-named-tag c).In-Group ∙ other_group _ _ _ c.if-named-tag.true)

pub returns : goal.returns
returns c = sym (front (goal.at.returns c).In-Group ∙ wanted_group _ _ _ c.if-named-tag.false)
