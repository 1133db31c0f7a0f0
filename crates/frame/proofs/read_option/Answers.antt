-- `frame::read_option`. By whether an option stands at the front.
-- Assumes nothing.
use mathlib.Core.Path.{sym, ◌∙◌}
use Rattle.runs.proofs.Starts.{number_starts}
use Rattle.runs.proofs.Steps.{stops, goes, there, absent}
use Rattle.frame.proofs.read_option.Goals as goal

pub returns-then-starts_with : goal.returns-then-starts_with
returns-then-starts_with c = sym (there _ _ _ (sym c.if-starts_with.ensures) ∙ stops _ (sym c.in_default.ensures))

pub returns-in_default : goal.returns-in_default
returns-in_default c = sym (absent _ _ _ (sym c.if-starts_with.ensures))

pub returns : goal.returns
returns c =
    let e = sym c.in-Some.ensures in
    sym (there _ _ _ (number_starts _ _ _ e) ∙ goes _ e)
