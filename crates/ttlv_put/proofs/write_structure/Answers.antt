-- `ttlv_put::write_structure`. Each refusal by its test; else the head.
-- Assumes nothing.
use Prim.Native.Nat.{◌≤◌, ◌^◌}
use native.Mathlib.Omega.{arith}
use mathlib.Core.Path.{◌≡◌, sym, ◌∙◌}
use mathlib.Core.Bool.{true, false, ◌&&◌}
use lib.ListN.{length}
use borrow.Author.Tests.{le-leb, lt-leb, lt-ltb, le-ltb}
use Rattle.tags.specs.Tags.{tag_ok}
use Rattle.ttlv_types.specs.Types.{structure, length_ok}
use Rattle.ttlv.specs.Items.{head}
use Rattle.ttlv_put.specs.Write.{spellable, fits}
use Rattle.ttlv.proofs.Sizes.{length_head}
use Rattle.ttlv_put.proofs.Puts.{wrote_all, wrote_none}
use Rattle.ttlv_put.proofs.write_structure.Goals.{Else-len-gt4294967295, Else-not-length_ok, Else-not-tag_ok}
use Rattle.ttlv_put.proofs.write_structure.Goals as goal

right : (c : Else-not-tag_ok) → tag_ok c.args.tag ≡ true
right c = sym c.tag_ok.ensures ∙ c.if-not-tag_ok.false

-- then the length can be spelled, and then it is a body's
short : (c : Else-len-gt4294967295) → spellable c.args.len ≡ true
short c = lt-ltb c.args.len (256 ^ 4) (omega arith)

whole : (c : Else-not-length_ok) → length_ok structure c.args.len ≡ true
whole c = sym c.length_ok.ensures ∙ c.if-not-length_ok.false

pub returns-then-not-tag_ok : goal.returns-then-not-tag_ok
returns-then-not-tag_ok c =
    let a = c.args in
    let wrong : tag_ok a.tag ≡ false = sym c.tag_ok.ensures ∙ c.if-not-tag_ok.true in
    wrote_none _ 8 (head a.tag structure a.len) a.out.now (rw wrong)

pub returns-then-len-gt4294967295 : goal.returns-then-len-gt4294967295
returns-then-len-gt4294967295 c =
    let a = c.args in
    wrote_none _ 8 (head a.tag structure a.len) a.out.now (rw (right (goal.at.returns-then-len-gt4294967295 c).Else-not-tag_ok, le-ltb a.len (256 ^ 4) (omega arith)))

pub returns-then-not-length_ok : goal.returns-then-not-length_ok
returns-then-not-length_ok c =
    let a = c.args in
    let odd : length_ok structure a.len ≡ false = sym c.length_ok.ensures ∙ c.if-not-length_ok.true in
    wrote_none _ 8 (head a.tag structure a.len) a.out.now (rw (right (goal.at.returns-then-not-length_ok c).Else-not-tag_ok, short (goal.at.returns-then-not-length_ok c).Else-len-gt4294967295, odd))

pub returns-then-out-lt8 : goal.returns-then-out-lt8
returns-then-out-lt8 c =
    let a = c.args in
    wrote_none _ 8 (head a.tag structure a.len) a.out.now (rw (right (goal.at.returns-then-out-lt8 c).Else-not-tag_ok, short (goal.at.returns-then-out-lt8 c).Else-len-gt4294967295, whole (goal.at.returns-then-out-lt8 c).Else-not-length_ok, lt-leb 8 (length a.out.now) c.if-out-lt8.true))

pub returns : goal.returns
returns c =
    let a = c.args in
    let room : 8 ≤ length a.out.now = omega arith in
    let fit : (tag_ok a.tag && spellable a.len && length_ok structure a.len && fits a.out.now 8) ≡ true = rw (right (goal.at.returns c).Else-not-tag_ok, short (goal.at.returns c).Else-len-gt4294967295, whole (goal.at.returns c).Else-not-length_ok, le-leb 8 (length a.out.now) room) in
    wrote_all _ 8 (head a.tag structure a.len) a.out.now fit (sym (length_head a.tag structure a.len)) room c.put_head.ensures
