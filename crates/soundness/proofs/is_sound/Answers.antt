-- `soundness::is_sound`. The places counted so far have passed; the law of the check says the rest.
-- Assumes nothing.
use Prim.Native.Nat.{◌+◌, max}
use mathlib.Core.Path.{◌≡◌, sym, ap, ◌∙◌, subst}
use mathlib.Core.Bool.{true}
use native.Mathlib.Nat.{not-suc-le-zero}
use native.Mathlib.Omega.{arith}
use Rattle.table.specs.Layout.{Table}
use Rattle.table.specs.Records.{serial_at}
use Rattle.twin_rules.specs.Checked.{TopBelow}
use Rattle.soundness.specs.Checked.{whole_right}
use Rattle.soundness.proofs.Checked.{passed_more, top_more, whole_size, checked_sound, unsound_whole, unsound_place}
use Rattle.soundness.proofs.is_sound.Goals.{Else-not-whole_right}
use Rattle.soundness.proofs.is_sound.Goals as goal

pub whole_right-requires : goal.whole_right-requires
whole_right-requires c = tt

pub returns-then-not-whole_right : goal.returns-then-not-whole_right
returns-then-not-whole_right c =
    let a = c.args in
    sym (unsound_whole a.n a.t.now (sym c.whole_right.ensures ∙ c.if-not-whole_right.true))

whole : (c : Else-not-whole_right) → whole_right c.args.n c.args.t.now ≡ true
whole c = sym c.whole_right.ensures ∙ c.if-not-whole_right.false

sized : (c : Else-not-whole_right) → Table c.args.n c.args.t.now
sized c = whole_size c.args.n c.args.t.now (whole c)

pub last_serial-last-requires : goal.last_serial-last-requires
last_serial-last-requires c = omega (arith, sized c)

pub latest_clock-latest-requires : goal.latest_clock-latest-requires
latest_clock-latest-requires c = omega (arith, sized (goal.at.latest_clock-latest-requires c).Else-not-whole_right)

pub loop-i-init : goal.loop-i-init
loop-i-init c = (λ k l. absurd (not-suc-le-zero l), λ j l. absurd (not-suc-le-zero l))

pub place_right-requires : goal.place_right-requires
place_right-requires c =
    record {
      place = record { sized = sized (goal.at.place_right-requires c).Else-not-whole_right; below = omega arith };
      issued = c.last_serial-last.ensures;
      seen = c.latest_clock-latest.ensures;
      highest = c.loop-i.invariant.1;
    }

pub returns-then-not-place_right : goal.returns-then-not-place_right
returns-then-not-place_right c =
    let a = c.args in
    sym (unsound_place a.n a.t.now c.loop-i.i (omega arith) (sym c.place_right.ensures ∙ c.if-not-place_right.true))

pub serial_at-requires : goal.serial_at-requires
serial_at-requires c =
    omega (arith, sized (goal.at.serial_at-requires c).Else-not-whole_right)

pub loop-i-preserved : goal.loop-i-preserved
loop-i-preserved c =
    let l = c.loop-i in
    let a = c.args in
    let top : c.max-top.result ≡ max l.top (serial_at a.t.now l.i) = c.max-top.ensures ∙ ap (max l.top) c.serial_at.ensures in (
      passed_more a.n a.t.now l.i l.invariant.0 (sym c.place_right.ensures ∙ c.if-not-place_right.false),
      subst (TopBelow a.t.now (l.i + 1)) (sym top) (top_more a.t.now l.i l.top l.invariant.1),
    )

pub returns : goal.returns
returns c =
    let a = c.args in
    let l = c.loop-i in
    sym (checked_sound a.n a.t.now (whole (goal.at.returns c).Else-not-whole_right) (λ i h. l.invariant.0 i (omega arith)))
