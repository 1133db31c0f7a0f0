-- `ttlv_put::spell_number`. Each refusal by its test; else the head, the value and zeros up to eight, one behind the other.
-- Assumes nothing.
use Prim.Native.Nat.{◌≤◌, ◌-◌}
use native.Mathlib.Omega.{arith}
use mathlib.Core.Path.{◌≡◌, sym, ◌∙◌}
use mathlib.Core.Bool.{true, false, ◌&&◌}
use lib.ListN.{length}
use borrow.Author.Tests.{le-leb, lt-leb}
use Rattle.octets.specs.Octets.{be}
use Rattle.octets.proofs.Numbers.{length_be}
use Rattle.tags.specs.Tags.{tag_ok}
use Rattle.ttlv.specs.Items.{encode}
use Rattle.ttlv_put.specs.Write.{number_item, fits, width_ok, WroteNumber}
use Rattle.ttlv_put.proofs.Puts.{wrote_value, wrote_none}
use Rattle.ttlv_put.proofs.spell_number.Goals.{Else-not-tag_ok, Else-width-gt8, Start}
use Rattle.ttlv_put.proofs.spell_number.Goals as goal

-- where the test fails nothing is written
nothing : (s : Start) → let a = s.args in (tag_ok a.tag && (width_ok a.width && fits a.out.now 16)) ≡ false
    → WroteNumber a.width a.tag a.kind a.bits a.out.now a.out.now 0
nothing s fails = let a = s.args in wrote_none _ 16 (encode (number_item a.width a.tag a.kind a.bits)) a.out.now fails

right : (c : Else-not-tag_ok) → tag_ok c.args.tag ≡ true
right c = sym c.tag_ok.ensures ∙ c.if-not-tag_ok.false

-- past the next two the width is 1 to 8
wide : (c : Else-width-gt8) → width_ok c.args.width ≡ true
wide c = rw (le-leb 1 c.args.width (omega arith), le-leb c.args.width 8 (omega arith))

pub returns-then-not-tag_ok : goal.returns-then-not-tag_ok
returns-then-not-tag_ok c = nothing (goal.at.returns-then-not-tag_ok c).Start (rw (sym c.tag_ok.ensures ∙ c.if-not-tag_ok.true))

pub returns-then-width-lt1 : goal.returns-then-width-lt1
returns-then-width-lt1 c = nothing (goal.at.returns-then-width-lt1 c).Start (rw (right (goal.at.returns-then-width-lt1 c).Else-not-tag_ok, lt-leb 1 c.args.width c.if-width-lt1.true))

pub returns-then-width-gt8 : goal.returns-then-width-gt8
returns-then-width-gt8 c =
    let w = c.args.width in
    nothing (goal.at.returns-then-width-gt8 c).Start (rw (right (goal.at.returns-then-width-gt8 c).Else-not-tag_ok, le-leb 1 w (omega arith), lt-leb w 8 c.if-width-gt8.true))

pub returns-then-out-lt16 : goal.returns-then-out-lt16
returns-then-out-lt16 c =
    nothing (goal.at.returns-then-out-lt16 c).Start (rw (right (goal.at.returns-then-out-lt16 c).Else-not-tag_ok, wide (goal.at.returns-then-out-lt16 c).Else-width-gt8, lt-leb 16 (length c.args.out.now) c.if-out-lt16.true))

pub returns : goal.returns
returns c =
    let a = c.args in
    let room : 16 ≤ length a.out.now = omega arith in
    let ok : (tag_ok a.tag && (width_ok a.width && fits a.out.now 16)) ≡ true = rw (right (goal.at.returns c).Else-not-tag_ok, wide (goal.at.returns c).Else-width-gt8, le-leb 16 (length a.out.now) room) in
    wrote_value _ a.tag a.kind a.width (8 - a.width) 16 (be a.width a.bits) a.out.now ok (length_be a.width a.bits) (omega arith) (omega arith) room c.put_head.ensures c.put.ensures c.put-2.ensures
