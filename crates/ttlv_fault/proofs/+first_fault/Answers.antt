-- `ttlv_fault::first_fault`. The rest of the run decides; a structure's own run is searched one level less deep, and the depth falls.
-- Assumes nothing.
use mathlib.Core.Path.{◌≡◌, sym, ap, ◌∙◌}
use Prim.Native.Nat.{◌-◌}
use native.Mathlib.Omega.{arith}
use lib.ListN.{length, length-take, length-drop}
use Rattle.octets.specs.Octets.{part}
use Rattle.octets.proofs.Stores.{length_part}
use Rattle.ttlv.proofs.Step.{value_ends, group_ends}
use Rattle.ttlv_fault.specs.Fault.{fault_of}
use Rattle.ttlv_fault.proofs.Faults.{fault_zero, fault_pos, fault_bounded, step_end, step_bad, step_value, step_inside, step_group}
use Prim.Native.Nat.{ℕ}
use Rattle.ttlv_fault.proofs.+first_fault.Goals as goal

pub returns-then-depth-eq0 : goal.returns-then-depth-eq0
returns-then-depth-eq0 t c =
    let d : c.args.depth ≡ 0 = c.if-depth-eq0.true in
    sym (ap (λ (n : ℕ). fault_of n c.args.s.now) d ∙ fault_zero c.args.s.now)

pub loop-next-init : goal.loop-next-init
loop-next-init t c =
    let a = c.args in
    (omega arith, fault_pos a.depth a.s.now c.if-depth-eq0.false ∙ omega arith)

pub returns-in-End : goal.returns-in-End
returns-in-End t c =
    let a = c.args in
    let l = c.loop-next in
    let z = step_end (fault_of (a.depth - 1)) l.t.now (sym c.read_first.ensures ∙ c.in-End.is) in
    sym (l.invariant.1 ∙ rw z (omega arith))

pub returns-in-Bad : goal.returns-in-Bad
returns-in-Bad t c =
    let a = c.args in
    let l = c.loop-next in
    let z = step_bad (fault_of (a.depth - 1)) l.t.now (sym c.read_first.ensures ∙ c.in-Bad.is) in
    sym (l.invariant.1 ∙ rw z (omega arith))

pub loop-next-preserved-in-Value : goal.loop-next-preserved-in-Value
loop-next-preserved-in-Value t c =
    let a = c.args in
    let l = c.loop-next in
    let i = l.invariant.0 in
    let e = sym c.read_first.ensures ∙ c.in-Value.is in
    let w = value_ends l.t.now e in
    let z = step_value (fault_of (a.depth - 1)) l.t.now e in
    (rw (length-take, length-drop) (omega arith), l.invariant.1 ∙ rw z (omega arith))

pub overflow_add-result : goal.overflow_add-result
overflow_add-result t c =
    let a = c.args in
    let l = c.loop-next in
    let i = l.invariant.0 in
    let e = sym c.read_first.ensures ∙ c.in-Group.is in
    let w = group_ends l.t.now e in
    let n = c.in-Group.next in
    let k : length (part l.t.now 8 (n - 8)) ≡ n - 8 = length_part l.t.now 8 (n - 8) (omega arith) in
    let q = c.first_fault-inner.ensures in
    let m = fault_bounded (a.depth - 1) (part l.t.now 8 (n - 8)) in
    omega arith

pub overflow_add-result-then-inner-next : goal.overflow_add-result-then-inner-next
overflow_add-result-then-inner-next t c =
    let a = c.args in
    let l = c.loop-next in
    let i = l.invariant.0 in
    let e = sym c.read_first.ensures ∙ c.in-Group.is in
    let w = group_ends l.t.now e in
    let n = c.in-Group.next in
    let k : length (part l.t.now 8 (n - 8)) ≡ n - 8 = length_part l.t.now 8 (n - 8) (omega arith) in
    let q = c.first_fault-inner.ensures in
    let m = fault_bounded (a.depth - 1) (part l.t.now 8 (n - 8)) in
    omega arith

pub returns-then-inner-next : goal.returns-then-inner-next
returns-then-inner-next t c =
    let a = c.args in
    let l = c.loop-next in
    let i = l.invariant.0 in
    let e = sym c.read_first.ensures ∙ c.in-Group.is in
    let w = group_ends l.t.now e in
    let n = c.in-Group.next in
    let k : length (part l.t.now 8 (n - 8)) ≡ n - 8 = length_part l.t.now 8 (n - 8) (omega arith) in
    let q = c.first_fault-inner.ensures in
    let m = fault_bounded (a.depth - 1) (part l.t.now 8 (n - 8)) in
    let z = step_inside (fault_of (a.depth - 1)) l.t.now e (λ h. c.if-inner-next.true (q ∙ h)) in
    sym (l.invariant.1 ∙ rw z (omega arith))

pub loop-next-preserved : goal.loop-next-preserved
loop-next-preserved t c =
    let a = c.args in
    let l = c.loop-next in
    let i = l.invariant.0 in
    let e = sym c.read_first.ensures ∙ c.in-Group.is in
    let w = group_ends l.t.now e in
    let z = step_group (fault_of (a.depth - 1)) l.t.now e (sym c.first_fault-inner.ensures ∙ c.if-inner-next.false) in
    (rw (length-take, length-drop) (omega arith), l.invariant.1 ∙ rw z (omega arith))
