-- `payload::read_target`. What the reader of targets found, as items.
-- Assumes nothing.
use mathlib.Core.Path.{sym, ap, ◌∙◌}
use Rattle.std.specs.Prelude.{option_map}
use Rattle.runs.specs.Runs.{behind}
use Rattle.target_read.proofs.Targets.{target_is, target_none}
use Rattle.payload.proofs.read_target.Goals as goal

pub returns-in_err-target : goal.returns-in_err-target
returns-in_err-target c =
    let r = c.args.run in
    ap (option_map behind) c.from_residual.ensures ∙ sym (target_none r.bytes.now r.run (sym c.read_target.ensures ∙ c.in_err-target.was))

pub slice_bounds-bytes-count : goal.slice_bounds-bytes-count
slice_bounds-bytes-count c =
    let r = c.args.run in
    (target_is r.bytes.now r.run (sym c.read_target.ensures ∙ c.in_ok-target.was)).within

pub slice_bounds-bytes-start : goal.slice_bounds-bytes-start
slice_bounds-bytes-start c =
    let r = c.args.run in
    (target_is r.bytes.now r.run (sym c.read_target.ensures ∙ c.in_ok-target.was)).within

pub invariant_of-result : goal.invariant_of-result
invariant_of-result c =
    let r = c.args.run in
    record { run = (target_is r.bytes.now r.run (sym c.read_target.ensures ∙ c.in_ok-target.was)).behind }

pub returns : goal.returns
returns c =
    let r = c.args.run in
    sym (target_is r.bytes.now r.run (sym c.read_target.ensures ∙ c.in_ok-target.was)).read
