-- `hex_text::byte_of`. By whether each character is a digit.
-- Assumes nothing.
use mathlib.Core.Path.{sym, ap, ◌∙◌}
use mathlib.Core.Bool.{and-false}
use native.Mathlib.Omega.{arith}
use Rattle.std.specs.Prelude.{Some}
use Rattle.octets.proofs.Bools.{and_no, and_i}
use Rattle.octets.proofs.If.{ifb_true, ifb_false}
use Rattle.hex_digits.specs.Hex.{is_digit}
use Rattle.hex_digits.proofs.Digits.{spells_value, none_value}
use Rattle.hex_text.proofs.byte_of.Goals as goal

pub returns-in_err-h : goal.returns-in_err-h
returns-in_err-h c =
    let high = c.args.high in
    c.from_residual.ensures ∙ sym (ifb_false _ _ _ (and_no (is_digit high) _ (none_value high (sym c.in_err-h.ensures))))

pub returns-in_err-l : goal.returns-in_err-l
returns-in_err-l c =
    let a = c.args in
    let none = none_value a.low (sym c.in_err-l.ensures) in
    c.from_residual-in_err-l.ensures ∙ sym (ifb_false _ _ _ (rw none (and-false (is_digit a.high))))

pub overflow_mul-result : goal.overflow_mul-result
overflow_mul-result c =
    let h = (spells_value c.args.high (sym c.in_ok-h.ensures)).low in
    omega arith

pub overflow_add-result : goal.overflow_add-result
overflow_add-result c =
    let h = (spells_value c.args.high (sym c.in_ok-h.ensures)).low in
    let l = (spells_value c.args.low (sym c.in_ok-l.ensures)).low in
    omega arith

pub returns : goal.returns
returns c =
    let h = spells_value c.args.high (sym c.in_ok-h.ensures) in
    let l = spells_value c.args.low (sym c.in_ok-l.ensures) in
    let he = h.back in
    let le = l.back in
    sym (ifb_true _ _ _ (and_i _ _ h.is l.is) ∙ ap Some (omega arith))
