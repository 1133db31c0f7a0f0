-- `ttlv::check`. The rest of the run decides; a structure's own run is read one level less deep, and the depth falls.
-- Assumes nothing.
use mathlib.Core.Bool.{true, false}
use mathlib.Core.Path.{◌≡◌, sym, ap, ◌∙◌}
use Prim.Native.Nat.{◌-◌}
use Rattle.octets.specs.Maybe.{is_some}
use Rattle.octets.specs.Octets.{part}
use Rattle.ttlv.specs.Parse.{parse}
use Rattle.ttlv.proofs.Step.{nothing, parse_pos, step_end, step_bad, step_value, step_group}
use Rattle.ttlv.proofs.+check.Goals as goal

pub returns-then-depth-eq0 : goal.returns-then-depth-eq0
returns-then-depth-eq0 t c =
    let d : c.args.depth ≡ 0 = c.if-depth-eq0.true in
    rw d (nothing c.args.s.now)

pub loop-next-init : goal.loop-next-init
loop-next-init t c =
    ap is_some (parse_pos c.args.depth c.args.s.now c.if-depth-eq0.false)

pub returns-in-End : goal.returns-in-End
returns-in-End t c =
    let rf = c.read_first in
    let l = c.loop-next in
    let a = c.args in
    sym (l.invariant ∙ step_end (parse (a.depth - 1)) l.t.now (sym rf.ensures ∙ c.in-End.is))

pub returns-in-Bad : goal.returns-in-Bad
returns-in-Bad t c =
    let rf = c.read_first in
    let l = c.loop-next in
    let a = c.args in
    sym (l.invariant ∙ step_bad (parse (a.depth - 1)) l.t.now (sym rf.ensures ∙ c.in-Bad.is))

pub loop-next-preserved-in-Value : goal.loop-next-preserved-in-Value
loop-next-preserved-in-Value t c =
    let rf = c.read_first in
    let l = c.loop-next in
    let a = c.args in
    l.invariant ∙ step_value (parse (a.depth - 1)) l.t.now (sym rf.ensures ∙ c.in-Value.is)

pub returns-then-not-check : goal.returns-then-not-check
returns-then-not-check t c =
    let rf = c.read_first in
    let l = c.loop-next in
    let a = c.args in
    let k : is_some (parse (a.depth - 1) (part l.t.now 8 (c.in-Group.next - 8))) ≡ false = sym c.check.ensures ∙ c.if-not-check.true in
    sym (l.invariant ∙ step_group (parse (a.depth - 1)) l.t.now (sym rf.ensures ∙ c.in-Group.is) ∙ rw k)

pub loop-next-preserved : goal.loop-next-preserved
loop-next-preserved t c =
    let rf = c.read_first in
    let l = c.loop-next in
    let a = c.args in
    let k : is_some (parse (a.depth - 1) (part l.t.now 8 (c.in-Group.next - 8))) ≡ true = sym c.check.ensures ∙ c.if-not-check.false in
    l.invariant ∙ step_group (parse (a.depth - 1)) l.t.now (sym rf.ensures ∙ c.in-Group.is) ∙ rw k
