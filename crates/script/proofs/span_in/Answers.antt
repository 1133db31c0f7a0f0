-- `script::span_in`. The two numbers stand before the blank and after it.
-- Assumes nothing.
use Prim.Native.Nat.{ℕ}
use mathlib.Core.Path.{sym, ap, ◌∙◌}
use lib.ListN.{take}
use lib.Seq.{length-take-le}
use Rattle.script.specs.Numbers.{number_in, span_in}
use Rattle.script.proofs.Numbers.{after_gap, then_none, then_some}
use Rattle.script.proofs.span_in.Goals as goal

pub slice_bounds-number_in-end : goal.slice_bounds-number_in-end
slice_bounds-number_in-end c = sym (length-take-le _ _ c.find-gap.ensures.1)

pub returns-in_err-at : goal.returns-in_err-at
unfolding span_in
returns-in_err-at c =
    let first = c.in_err-at.ensures ∙ ap (λ (k : ℕ). number_in (take k c.args.s.now)) c.find-gap.ensures.0 in
    c.from_residual.ensures ∙ sym (then_none _ (sym first))

pub returns-in_err-len : goal.returns-in_err-len
unfolding span_in
returns-in_err-len c =
    let first = c.in_ok-at.ensures ∙ ap (λ (k : ℕ). number_in (take k c.args.s.now)) c.find-gap.ensures.0 in
    let second = c.in_err-len.ensures ∙ ap number_in (after_gap c.args.s.now c.past-from.ensures c.find-gap.ensures.0) in
    c.from_residual-in_err-len.ensures ∙ sym (then_some _ (sym first) ∙ then_none _ (sym second))

pub returns : goal.returns
unfolding span_in
returns c =
    let first = c.in_ok-at.ensures ∙ ap (λ (k : ℕ). number_in (take k c.args.s.now)) c.find-gap.ensures.0 in
    let second = c.in_ok-len.ensures ∙ ap number_in (after_gap c.args.s.now c.past-from.ensures c.find-gap.ensures.0) in
    sym (then_some _ (sym first) ∙ then_some _ (sym second))
