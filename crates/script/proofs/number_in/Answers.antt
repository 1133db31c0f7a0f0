-- `script::number_in`. What is left decides.
-- Assumes nothing.
use Prim.Native.Nat.{◌*◌, ◌+◌, ◌^◌, ◌≤◌, ◌<◌}
use mathlib.Core.Path.{◌≡◌, sym, ◌∙◌}
use native.Mathlib.Omega.{arith}
use borrow.Author.Tests.{eqb-true, eqb-false}
use Rattle.script.proofs.Numbers.{number_none, number_large, number_on, number_end_lem, number_empty, number_starts}
use Rattle.script.proofs.number_in.Goals as goal

pub returns-then-is_empty : goal.returns-then-is_empty
returns-then-is_empty c = sym (number_empty c.args.s.now (eqb-true _ _ (sym c.is_empty.ensures ∙ c.if-is_empty.true)))

pub loop-c-init : goal.loop-c-init
loop-c-init c = number_starts c.args.s.now (eqb-false _ _ (sym c.is_empty.ensures ∙ c.if-is_empty.false))

pub returns-in_err-d : goal.returns-in_err-d
returns-in_err-d c =
    let l = c.loop-c in
    c.from_residual.ensures ∙ sym (l.invariant ∙ number_none c.args.s.now l.c-index l.n (omega arith) (sym c.in_err-d.ensures))

pub returns-in_err-tens : goal.returns-in_err-tens
returns-in_err-tens c =
    let l = c.loop-c in
    let large : 2 ^ 64 ≤ l.n * 10 + c.in_ok-d.d = omega (arith, c.in_err-tens.ensures) in
    c.from_residual-in_err-tens.ensures ∙ sym (l.invariant ∙ number_large c.args.s.now l.c-index l.n (omega arith) (sym c.in_ok-d.ensures) large)

pub returns-in_err-n : goal.returns-in_err-n
returns-in_err-n c =
    let l = c.loop-c in
    let large : 2 ^ 64 ≤ l.n * 10 + c.in_ok-d.d = omega (arith, c.in_err-n.ensures, c.in_ok-tens.ensures.1) in
    c.from_residual-in_err-n.ensures ∙ sym (l.invariant ∙ number_large c.args.s.now l.c-index l.n (omega arith) (sym c.in_ok-d.ensures) large)

pub loop-c-preserved : goal.loop-c-preserved
loop-c-preserved c =
    let l = c.loop-c in
    let n : c.in_ok-n.n ≡ l.n * 10 + c.in_ok-d.d = omega (arith, c.in_ok-n.ensures.1, c.in_ok-tens.ensures.1) in
    let fits : l.n * 10 + c.in_ok-d.d < 2 ^ 64 = omega (arith, c.in_ok-n.ensures.0, c.in_ok-tens.ensures.1) in
    rw n (l.invariant ∙ number_on c.args.s.now l.c-index l.n (omega arith) (sym c.in_ok-d.ensures) fits)

pub returns : goal.returns
returns c =
    let l = c.loop-c in
    sym (l.invariant ∙ number_end_lem c.args.s.now l.c-index l.n (omega arith))
