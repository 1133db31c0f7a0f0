-- `Run::number`. What the field reader found, as items.
-- Assumes nothing.
use mathlib.Core.Path.{sym, ap, ◌∙◌}
use native.Mathlib.Omega.{arith}
use Rattle.fields.proofs.Found.{number_ends}
use Rattle.std.specs.Prelude.{option_map}
use Rattle.fields.proofs.Lift.{number_rest}
use Rattle.fields.proofs.Runs.{number_some, number_none, run_behind}
use Rattle.runs.specs.Runs.{behind}
use Rattle.runs.proofs.run.Run.number.Goals as goal

pub returns-in_err-value : goal.returns-in_err-value
returns-in_err-value c =
    let a = c.args in
    ap (option_map behind) c.from_residual.ensures ∙ sym (number_none a.self.bytes.now a.self.run a.tag a.kind c.requires (sym c.number_field.ensures ∙ c.in_err-value.was))

pub slice_bounds-bytes-count : goal.slice_bounds-bytes-count
slice_bounds-bytes-count c =
    let a = c.args in
    let w = number_ends a.self.bytes.now a.tag a.kind (sym c.number_field.ensures ∙ c.in_ok-value.was) in
    omega arith

pub slice_bounds-bytes-start : goal.slice_bounds-bytes-start
slice_bounds-bytes-start c =
    let a = c.args in
    let w = number_ends a.self.bytes.now a.tag a.kind (sym c.number_field.ensures ∙ c.in_ok-value.was) in
    omega arith

pub invariant_of-result : goal.invariant_of-result
invariant_of-result c =
    let a = c.args in
    record { run = run_behind a.self.bytes.now a.self.run (number_rest a.self.bytes.now a.self.run a.tag a.kind (sym c.number_field.ensures ∙ c.in_ok-value.was)) }

pub returns : goal.returns
returns c =
    let a = c.args in
    sym (number_some a.self.bytes.now a.self.run a.tag a.kind c.requires (sym c.number_field.ensures ∙ c.in_ok-value.was))
