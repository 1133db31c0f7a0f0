-- `fields::number_field`. The bytes of the field, if there is one, spell the number.
-- Assumes nothing.
use mathlib.Core.Path.{◌≡◌, sym, ap, ◌∙◌}
use Prim.Native.Nat.{ℕ, ◌+◌, ◌-◌}
use native.Mathlib.Omega.{arith}
use lib.ListN.{take}
use Rattle.std.specs.Prelude.{Some}
use Rattle.octets.specs.Octets.{from_be, part}
use Rattle.fields.specs.Found.{number_in, number_at}
use Rattle.fields.proofs.Found.{bytes_ends}
use Rattle.fields.proofs.number_field.Goals as goal

pub returns-in_err-len : goal.returns-in_err-len
unfolding number_at number_in
returns-in_err-len c = c.from_residual.ensures ∙ ap (number_in c.args.s.now) c.in_err-len.ensures

pub overflow_add-stop : goal.overflow_add-stop
overflow_add-stop c =
    let a = c.args in
    let w = bytes_ends a.s.now a.tag a.kind (sym c.in_ok-len.ensures) in
    omega arith

pub slice_bounds-number-end : goal.slice_bounds-number-end
slice_bounds-number-end c =
    let a = c.args in
    let w = bytes_ends a.s.now a.tag a.kind (sym c.in_ok-len.ensures) in
    omega arith

pub returns : goal.returns
unfolding number_at number_in
returns c =
    let a = c.args in
    let v = c.in_ok-len in
    let e : 8 + v.len - 8 ≡ v.len = omega arith in
    ap (λ (x : ℕ). Some (x, v.next)) (c.number.ensures.0 ∙ ap (λ (m : ℕ). from_be (take 8 (part a.s.now 8 m))) e)
    ∙ ap (number_in a.s.now) v.ensures
