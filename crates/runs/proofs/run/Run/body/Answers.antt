-- `Run::body`. What the field reader found, as items.
-- Assumes nothing.
use mathlib.Core.Path.{sym, ap, ◌∙◌}
use native.Mathlib.Omega.{arith}
use Rattle.std.specs.Prelude.{option_map}
use Rattle.fields.proofs.Lift.{body_rest, body_is_run}
use Rattle.fields.proofs.Runs.{body_some, body_none, run_behind}
use Rattle.runs.specs.Runs.{body_read}
use Rattle.runs.proofs.run.Run.body.Goals as goal

pub returns-in_err-next : goal.returns-in_err-next
returns-in_err-next c =
    let a = c.args in
    ap (option_map body_read) c.from_residual.ensures ∙ sym (body_none a.self.bytes.now a.self.run a.tag (sym c.body_field.ensures ∙ c.in_err-next.was))

pub slice_bounds-inner-count : goal.slice_bounds-inner-count
slice_bounds-inner-count c =
    let a = c.args in
    let w = body_rest a.self.bytes.now a.self.run a.tag (sym c.body_field.ensures ∙ c.in_ok-next.was) in
    omega arith

pub slice_bounds-inner-start : goal.slice_bounds-inner-start
slice_bounds-inner-start c =
    let a = c.args in
    let w = body_rest a.self.bytes.now a.self.run a.tag (sym c.body_field.ensures ∙ c.in_ok-next.was) in
    omega arith

pub slice_bounds-inner-end : goal.slice_bounds-inner-end
slice_bounds-inner-end c =
    let a = c.args in
    let w = body_rest a.self.bytes.now a.self.run a.tag (sym c.body_field.ensures ∙ c.in_ok-next.was) in
    omega arith

pub slice_bounds-bytes-count : goal.slice_bounds-bytes-count
slice_bounds-bytes-count c =
    let a = c.args in
    let w = body_rest a.self.bytes.now a.self.run a.tag (sym c.body_field.ensures ∙ c.in_ok-next.was) in
    omega arith

pub slice_bounds-bytes-start : goal.slice_bounds-bytes-start
slice_bounds-bytes-start c =
    let a = c.args in
    let w = body_rest a.self.bytes.now a.self.run a.tag (sym c.body_field.ensures ∙ c.in_ok-next.was) in
    omega arith

pub invariant_of-result : goal.invariant_of-result
invariant_of-result c =
    let a = c.args in
    record { run = body_is_run a.self.bytes.now a.self.run a.tag (sym c.body_field.ensures ∙ c.in_ok-next.was) }

pub invariant_of-result-2 : goal.invariant_of-result-2
invariant_of-result-2 c =
    let a = c.args in
    record { run = run_behind a.self.bytes.now a.self.run (body_rest a.self.bytes.now a.self.run a.tag (sym c.body_field.ensures ∙ c.in_ok-next.was)) }

pub returns : goal.returns
returns c =
    let a = c.args in
    sym (body_some a.self.bytes.now a.self.run a.tag (sym c.body_field.ensures ∙ c.in_ok-next.was))
