-- `commands::places_in`. By whether the line says something, whether that is a number, and whether there are tables of so many places.
-- Assumes nothing.
use mathlib.Core.Path.{sym, ◌∙◌}
use borrow.Author.Tests.{eqb-true, eqb-false}
use Rattle.octets.proofs.If.{ifb_true, ifb_false}
use Rattle.table.specs.Layout.{places_ok}
use Rattle.script.proofs.Numbers.{then_none, then_some}
use Rattle.commands.specs.Commands.{if_places}
use Rattle.commands.proofs.Places.{places_none, places_said_lem}
use Rattle.commands.proofs.places_in.Goals as goal

pub returns-then-is_empty : goal.returns-then-is_empty
returns-then-is_empty c = sym (places_none c.args.rest.now (eqb-true _ _ (sym c.is_empty.ensures ∙ c.if-is_empty.true)))

pub returns-in_err-n : goal.returns-in_err-n
returns-in_err-n c =
    let said = places_said_lem c.args.rest.now (eqb-false _ _ (sym c.is_empty.ensures ∙ c.if-is_empty.false)) in
    c.from_residual.ensures ∙ sym (said ∙ then_none if_places (sym c.in_err-n.ensures))

pub returns-then-n : goal.returns-then-n
returns-then-n c =
    let said = places_said_lem c.args.rest.now (eqb-false _ _ (sym c.is_empty.ensures ∙ c.if-is_empty.false)) in
    sym (said ∙ then_some if_places (sym c.in_ok-n.ensures) ∙ ifb_true (places_ok c.in_ok-n.n) _ _ c.if-n.true)

pub returns-else-n : goal.returns-else-n
returns-else-n c =
    let said = places_said_lem c.args.rest.now (eqb-false _ _ (sym c.is_empty.ensures ∙ c.if-is_empty.false)) in
    sym (said ∙ then_some if_places (sym c.in_ok-n.ensures) ∙ ifb_false (places_ok c.in_ok-n.n) _ _ c.if-n.false)
