-- `commands::lend`. By whether there is a number, and then by the buffer.
-- Assumes nothing.
use mathlib.Core.Path.{sym, ap, ap₂, ◌∙◌}
use Rattle.commands.specs.Commands.{lending}
use Rattle.commands.proofs.lend.Goals as goal

pub returns-in_err-n : goal.returns-in_err-n
unfolding lending
returns-in_err-n c = c.from_residual.ensures ∙ ap (lending c.args.buffer c.args.setting) c.in_err-n.ensures

pub returns-in-Table : goal.returns-in-Table
unfolding lending
returns-in-Table c = sym (ap₂ (λ b n. lending b c.args.setting n) c.in-Table.is (sym c.in_ok-n.ensures))

pub returns-in-Strip : goal.returns-in-Strip
unfolding lending
returns-in-Strip c = sym (ap₂ (λ b n. lending b c.args.setting n) c.in-Strip.is (sym c.in_ok-n.ensures))

pub returns-in-Output : goal.returns-in-Output
unfolding lending
returns-in-Output c = sym (ap₂ (λ b n. lending b c.args.setting n) c.in-Output.is (sym c.in_ok-n.ensures))

pub returns-in-Second : goal.returns-in-Second
unfolding lending
returns-in-Second c = sym (ap₂ (λ b n. lending b c.args.setting n) c.in-Second.is (sym c.in_ok-n.ensures))
