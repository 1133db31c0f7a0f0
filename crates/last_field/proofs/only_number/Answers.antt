-- `last_field::only_number`. The number found, by whether it ends where the bytes end.
-- Assumes nothing.
use Rattle.std.specs.Prelude.{ℕ, Option}
use mathlib.Core.Path.{◌≡◌, sym, ap, ◌∙◌}
use lib.ListN.{length}
use borrow.Author.Tests.{eq-eqb, ne_eqb}
use Rattle.octets.proofs.If.{ifb_true, ifb_false}
use Rattle.last_field.specs.Last.{last_number, only_number_at}
use Rattle.last_field.proofs.only_number.Goals.{After-number_field}
use Rattle.last_field.proofs.only_number.Goals as goal

-- ---- what was read, and where the bytes end

known : (c : After-number_field) {f : Option (ℕ × ℕ)} → c.number_field.result ≡ f → only_number_at c.args.s.now c.args.tag c.args.kind ≡ last_number (length c.args.s.now) f
unfolding only_number_at
known c e = ap (last_number (length c.args.s.now)) (sym c.number_field.ensures ∙ e)

pub returns-in_err-value : goal.returns-in_err-value
unfolding last_number
returns-in_err-value c = c.from_residual.ensures ∙ sym (known (goal.at.returns-in_err-value c).After-number_field c.in_err-value.was)

-- ---- it was found: where it ends

pub returns-then-next-s : goal.returns-then-next-s
unfolding last_number
returns-then-next-s c =
    sym (known (goal.at.returns-then-next-s c).After-number_field c.in_ok-value.was ∙ ifb_false _ _ _ (ne_eqb _ (length c.args.s.now) c.if-next-s.true))

pub returns : goal.returns
unfolding last_number
returns c =
    sym (known (goal.at.returns c).After-number_field c.in_ok-value.was ∙ ifb_true _ _ _ (eq-eqb _ (length c.args.s.now) c.if-next-s.false))
