-- `last_field::only_body`. The structure found, by whether it ends where the bytes end.
-- Assumes nothing.
use Rattle.std.specs.Prelude.{ℕ, Option}
use mathlib.Core.Path.{◌≡◌, sym, ap, ◌∙◌}
use lib.ListN.{length}
use borrow.Author.Tests.{eq-eqb, ne_eqb}
use Rattle.octets.proofs.If.{ifb_true, ifb_false}
use Rattle.last_field.specs.Last.{last_body, only_body_at}
use Rattle.last_field.proofs.only_body.Goals.{After-body_field}
use Rattle.last_field.proofs.only_body.Goals as goal

-- ---- what was read, and where the bytes end

known : (c : After-body_field) {f : Option ℕ} → c.body_field.result ≡ f → only_body_at c.args.s.now c.args.tag ≡ last_body (length c.args.s.now) f
unfolding only_body_at
known c e = ap (last_body (length c.args.s.now)) (sym c.body_field.ensures ∙ e)

pub returns-in_err-end : goal.returns-in_err-end
unfolding last_body
returns-in_err-end c = c.from_residual.ensures ∙ sym (known (goal.at.returns-in_err-end c).After-body_field c.in_err-end.was)

-- ---- it was found: where it ends

pub returns-then-end-s : goal.returns-then-end-s
unfolding last_body
returns-then-end-s c =
    sym (known (goal.at.returns-then-end-s c).After-body_field c.in_ok-end.was ∙ ifb_false _ _ _ (ne_eqb _ (length c.args.s.now) c.if-end-s.true))

pub returns : goal.returns
unfolding last_body
returns c =
    sym (known (goal.at.returns c).After-body_field c.in_ok-end.was ∙ ifb_true _ _ _ (eq-eqb _ (length c.args.s.now) c.if-end-s.false))
