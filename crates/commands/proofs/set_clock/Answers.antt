-- `commands::set_clock`. By whether there is a clock.
-- Assumes nothing.
use mathlib.Core.Path.{sym, ap, ◌∙◌}
use lib.IntN.{ℤ}
use Rattle.std.specs.Prelude.{Some}
use Rattle.script.proofs.Numbers.{clock_kept}
use Rattle.commands.specs.Commands.{with_clock}
use Rattle.commands.proofs.set_clock.Goals as goal

pub returns-in_err-clock : goal.returns-in_err-clock
unfolding with_clock
returns-in_err-clock c = c.from_residual.ensures ∙ ap (with_clock c.args.setting) c.in_err-clock.ensures

pub returns : goal.returns
unfolding with_clock
returns c =
    let is = sym c.in_ok-clock.ensures in
    ap (λ (z : ℤ). with_clock c.args.setting (Some z)) (clock_kept c.args.rest.now is)
    ∙ sym (ap (with_clock c.args.setting) is)
