-- `ttlv_put::spell_value`. Each refusal by its test; else the head, the value and its padding, one behind the other.
-- Assumes nothing.
use Prim.Native.Nat.{◌+◌, ◌≤◌}
use native.Mathlib.Omega.{arith}
use mathlib.Core.Path.{◌≡◌, refl, sym, ◌∙◌}
use mathlib.Core.Bool.{true, false, ◌&&◌}
use lib.ListN.{length}
use borrow.Author.Tests.{le-leb, lt-leb, lt-ltb, le-ltb}
use Rattle.tags.specs.Tags.{tag_ok}
use Rattle.ttlv_types.specs.Types.{padded}
use Rattle.ttlv.specs.Items.{encode}
use Rattle.ttlv_put.specs.Write.{item, spellable, value_fits}
use Rattle.ttlv_put.proofs.Puts.{wrote_value, wrote_none}
use Rattle.ttlv_put.proofs.spell_value.Goals.{Else-not-tag_ok}
use Rattle.ttlv_put.proofs.spell_value.Goals as goal

right : (c : Else-not-tag_ok) → tag_ok c.args.tag ≡ true
right c = sym c.tag_ok.ensures ∙ c.if-not-tag_ok.false

pub returns-then-not-tag_ok : goal.returns-then-not-tag_ok
returns-then-not-tag_ok c =
    let a = c.args in
    let wrong : tag_ok a.tag ≡ false = sym c.tag_ok.ensures ∙ c.if-not-tag_ok.true in
    wrote_none _ (8 + padded (length a.s.now)) (encode (item a.tag a.kind a.s.now)) a.out.now (rw wrong)

pub returns-then-n-gt4294967295 : goal.returns-then-n-gt4294967295
returns-then-n-gt4294967295 c =
    let a = c.args in
    let n = length a.s.now in
    let long : spellable n ≡ false = le-ltb n _ (omega arith) in
    wrote_none _ (8 + padded n) (encode (item a.tag a.kind a.s.now)) a.out.now (rw (right (goal.at.returns-then-n-gt4294967295 c).Else-not-tag_ok, long))

pub returns-then-out-end : goal.returns-then-out-end
returns-then-out-end c =
    let a = c.args in
    let n = length a.s.now in
    let long : spellable n ≡ true = lt-ltb n _ (omega arith) in
    let short : (tag_ok a.tag && true && value_fits a.out.now n) ≡ false = rw (right (goal.at.returns-then-out-end c).Else-not-tag_ok, long, lt-leb (8 + padded n) (length a.out.now) c.if-out-end.true) in
    wrote_none _ (8 + padded n) (encode (item a.tag a.kind a.s.now)) a.out.now short

pub returns : goal.returns
returns c =
    let a = c.args in
    let n = length a.s.now in
    let room : 8 + padded n ≤ length a.out.now = omega arith in
    let long : spellable n ≡ true = lt-ltb n _ (omega arith) in
    let ok : (tag_ok a.tag && true && value_fits a.out.now n) ≡ true = rw (right (goal.at.returns c).Else-not-tag_ok, long, le-leb (8 + padded n) (length a.out.now) room) in
    wrote_value _ a.tag a.kind n _ _ a.s.now a.out.now ok refl refl refl room c.put_head.ensures c.put_all.ensures c.put.ensures
