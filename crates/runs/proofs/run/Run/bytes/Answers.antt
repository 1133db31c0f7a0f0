-- `Run::bytes`. What the field reader found, as items.
-- Assumes nothing.
use mathlib.Core.Path.{◌≡◌, sym, ap, ◌∙◌}
use Prim.Native.Nat.{ℕ, ◌+◌, ◌-◌}
use native.Mathlib.Omega.{arith}
use Rattle.octets.specs.Octets.{part}
use Rattle.std.specs.Prelude.{Some, option_map}
use Rattle.ttlv.specs.Tree.{tree_of}
use Rattle.fields.proofs.Found.{bytes_ends}
use Rattle.fields.proofs.Lift.{bytes_rest}
use Rattle.fields.proofs.Runs.{tail, bytes_some, bytes_none, run_behind}
use Rattle.runs.specs.Runs.{bytes_read}
use Rattle.runs.proofs.run.Run.bytes.Goals as goal

pub returns-in_err-len : goal.returns-in_err-len
returns-in_err-len c =
    let a = c.args in
    ap (option_map bytes_read) c.from_residual.ensures ∙ sym (bytes_none a.self.bytes.now a.self.run a.tag a.kind (sym c.bytes_field.ensures ∙ c.in_err-len.was))

pub overflow_add-stop : goal.overflow_add-stop
overflow_add-stop c =
    let a = c.args in
    let w = bytes_ends a.self.bytes.now a.tag a.kind (sym c.bytes_field.ensures ∙ c.in_ok-len.was) in
    omega arith

pub slice_bounds-value-end : goal.slice_bounds-value-end
slice_bounds-value-end c =
    let a = c.args in
    let w = bytes_ends a.self.bytes.now a.tag a.kind (sym c.bytes_field.ensures ∙ c.in_ok-len.was) in
    omega arith

pub slice_bounds-bytes-count : goal.slice_bounds-bytes-count
slice_bounds-bytes-count c =
    let a = c.args in
    let w = bytes_ends a.self.bytes.now a.tag a.kind (sym c.bytes_field.ensures ∙ c.in_ok-len.was) in
    omega arith

pub slice_bounds-bytes-start : goal.slice_bounds-bytes-start
slice_bounds-bytes-start c =
    let a = c.args in
    let w = bytes_ends a.self.bytes.now a.tag a.kind (sym c.bytes_field.ensures ∙ c.in_ok-len.was) in
    omega arith

pub invariant_of-result : goal.invariant_of-result
invariant_of-result c =
    let a = c.args in
    record { run = run_behind a.self.bytes.now a.self.run (bytes_rest a.self.bytes.now a.self.run a.tag a.kind (sym c.bytes_field.ensures ∙ c.in_ok-len.was)) }

pub returns : goal.returns
returns c =
    let a = c.args in
    let v = c.in_ok-len in
    let e : 8 + v.len - 8 ≡ v.len = omega arith in
    ap (λ (n : ℕ). Some (part a.self.bytes.now 8 n, tree_of (tail a.self.bytes.now v.next))) e
    ∙ sym (bytes_some a.self.bytes.now a.self.run a.tag a.kind (sym c.bytes_field.ensures ∙ v.was))
