-- `ttlv::head_first`. Each test of the code is one of the definition's, in the same order.
-- Assumes nothing.
use mathlib.Core.Path.{◌≡◌, sym, ap, ◌∙◌}
use mathlib.Core.Bool.{true, false}
use Prim.Native.Nat.{ℕ, ◌+◌, ◌-◌}
use native.Mathlib.Omega.{arith}
use Rattle.octets.specs.Octets.{part, all_zero}
use Rattle.ttlv_types.specs.Types.{padded, length_ok, value_ok}
use Rattle.ttlv.specs.declared.First.TheVariants.{Group}
use Rattle.ttlv.proofs.View.{no_length, no_room, group_headed, no_value, no_zeros, value_headed}
use Rattle.ttlv.proofs.Turns.{whole}
use Rattle.ttlv.proofs.head_first.Goals as goal

pub returns-then-not-length_ok : goal.returns-then-not-length_ok
returns-then-not-length_ok c =
    let a = c.args in
    sym (no_length a.s.now a.tag a.kind a.n (sym c.length_ok.ensures ∙ c.if-not-length_ok.true))

pub returns-then-s-next : goal.returns-then-s-next
returns-then-s-next c =
    let a = c.args in
    let l : length_ok a.kind a.n ≡ true = sym c.length_ok.ensures ∙ c.if-not-length_ok.false in
    sym (no_room a.s.now a.tag a.kind a.n l c.if-s-next.true)

pub returns-then-kind-eq-STRUCTURE : goal.returns-then-kind-eq-STRUCTURE
returns-then-kind-eq-STRUCTURE c =
    let a = c.args in
    let l : length_ok a.kind a.n ≡ true = sym c.length_ok.ensures ∙ c.if-not-length_ok.false in
    let w : padded a.n ≡ a.n = whole a.n (ap (λ (k : ℕ). length_ok k a.n) (sym c.if-kind-eq-STRUCTURE.true) ∙ l) in
    ap (λ (n : ℕ). Group a.tag (8 + n)) w ∙ sym (group_headed a.s.now a.tag a.kind a.n l c.if-s-next.false c.if-kind-eq-STRUCTURE.true)

pub returns-then-not-value_ok : goal.returns-then-not-value_ok
returns-then-not-value_ok c =
    let a = c.args in
    let l : length_ok a.kind a.n ≡ true = sym c.length_ok.ensures ∙ c.if-not-length_ok.false in
    let n8 : a.n ≡ 8 + a.n - 8 = omega arith in
    let v : value_ok a.kind (part a.s.now 8 a.n) ≡ false = ap (λ (m : ℕ). value_ok a.kind (part a.s.now 8 m)) n8 ∙ sym c.value_ok.ensures ∙ c.if-not-value_ok.true in
    sym (no_value a.s.now a.tag a.kind a.n l c.if-s-next.false c.if-kind-eq-STRUCTURE.false v)

pub returns-then-not-padding_clear : goal.returns-then-not-padding_clear
returns-then-not-padding_clear c =
    let a = c.args in
    let l : length_ok a.kind a.n ≡ true = sym c.length_ok.ensures ∙ c.if-not-length_ok.false in
    let n8 : a.n ≡ 8 + a.n - 8 = omega arith in
    let v : value_ok a.kind (part a.s.now 8 a.n) ≡ true = ap (λ (m : ℕ). value_ok a.kind (part a.s.now 8 m)) n8 ∙ sym c.value_ok.ensures ∙ c.if-not-value_ok.false in
    let np : padded a.n - a.n ≡ 8 + padded a.n - (8 + a.n) = omega arith in
    let z : all_zero (part a.s.now (8 + a.n) (padded a.n - a.n)) ≡ false = ap (λ (m : ℕ). all_zero (part a.s.now (8 + a.n) m)) np ∙ sym c.padding_clear.ensures ∙ c.if-not-padding_clear.true in
    sym (no_zeros a.s.now a.tag a.kind a.n l c.if-s-next.false c.if-kind-eq-STRUCTURE.false v z)

pub returns : goal.returns
returns c =
    let a = c.args in
    let l : length_ok a.kind a.n ≡ true = sym c.length_ok.ensures ∙ c.if-not-length_ok.false in
    let n8 : a.n ≡ 8 + a.n - 8 = omega arith in
    let v : value_ok a.kind (part a.s.now 8 a.n) ≡ true = ap (λ (m : ℕ). value_ok a.kind (part a.s.now 8 m)) n8 ∙ sym c.value_ok.ensures ∙ c.if-not-value_ok.false in
    let np : padded a.n - a.n ≡ 8 + padded a.n - (8 + a.n) = omega arith in
    let z : all_zero (part a.s.now (8 + a.n) (padded a.n - a.n)) ≡ true = ap (λ (m : ℕ). all_zero (part a.s.now (8 + a.n) m)) np ∙ sym c.padding_clear.ensures ∙ c.if-not-padding_clear.false in
    sym (value_headed a.s.now a.tag a.kind a.n l c.if-s-next.false c.if-kind-eq-STRUCTURE.false v z)
