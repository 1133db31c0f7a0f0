-- `script::clock_in`. By the first character.
-- Assumes nothing.
use mathlib.Core.Path.{sym, ap, ◌∙◌}
use borrow.Author.Tests.{eqb-true, eqb-false}
use Rattle.script.specs.Numbers.{number_in, from_zero, below_zero}
use Rattle.script.proofs.Numbers.{clock_empty, clock_minus, clock_plain, then_none, then_some, rest_of}
use Rattle.script.proofs.clock_in.Goals as goal

pub returns-then-is_empty : goal.returns-then-is_empty
returns-then-is_empty c = sym (clock_empty c.args.s.now (eqb-true _ _ (sym c.is_empty.ensures ∙ c.if-is_empty.true)))

pub returns-in_err-number_in : goal.returns-in_err-number_in
returns-in_err-number_in c =
    let s = c.args.s.now in
    let some = eqb-false _ _ (sym c.is_empty.ensures ∙ c.if-is_empty.false) in
    c.from_residual.ensures ∙ sym (clock_minus s some c.if-s-eq45.true ∙ then_none below_zero (sym (c.in_err-number_in.ensures ∙ ap number_in (rest_of s))))

pub returns-then-s-eq45 : goal.returns-then-s-eq45
returns-then-s-eq45 c =
    let s = c.args.s.now in
    let some = eqb-false _ _ (sym c.is_empty.ensures ∙ c.if-is_empty.false) in
    c.below_zero.ensures ∙ sym (clock_minus s some c.if-s-eq45.true ∙ then_some below_zero (sym (c.in_ok-number_in.ensures ∙ ap number_in (rest_of s))))

pub returns-in_err-number_in-2 : goal.returns-in_err-number_in-2
returns-in_err-number_in-2 c =
    let s = c.args.s.now in
    let some = eqb-false _ _ (sym c.is_empty.ensures ∙ c.if-is_empty.false) in
    c.from_residual-in_err-number_in-2.ensures ∙ sym (clock_plain s some c.if-s-eq45.false ∙ then_none from_zero (sym c.in_err-number_in-2.ensures))

pub returns : goal.returns
returns c =
    let s = c.args.s.now in
    let some = eqb-false _ _ (sym c.is_empty.ensures ∙ c.if-is_empty.false) in
    c.from_zero.ensures ∙ sym (clock_plain s some c.if-s-eq45.false ∙ then_some from_zero (sym c.in_ok-number_in-2.ensures))
