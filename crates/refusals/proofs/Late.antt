-- Refusals 10 and 11, rung by rung, and what holds where neither applies.
-- Assumes nothing.
use Prim.Native.Nat.{ℕ}
use native.Mathlib.Omega.{arith}
use mathlib.Core.Path.{◌≡◌, sym}
use mathlib.Core.Bool.{true, false}
use borrow.Author.Tests.{eqb-true, not-false}
use Rattle.octets.proofs.If.{chain, on_if}
use Rattle.values.specs.Values.{above_zero}
use Rattle.refusals.specs.Refusals.{late_refusal}

module _ (clock size lent : ℕ) where
  pub late_10 : above_zero clock ≡ false → 10 ≡ late_refusal clock size lent
  unfolding late_refusal
  late_10 h = sym (simp (chain, h))

  module _ (a : above_zero clock ≡ true) where
    pub late_11 : (lent ≡ size → ⊥) → 11 ≡ late_refusal clock size lent
    unfolding late_refusal
    late_11 h = sym (simp (chain, a))

    pub late_0 : lent ≡ size → 0 ≡ late_refusal clock size lent
    unfolding late_refusal
    late_0 h = sym (simp (chain, a))

-- where neither applies, the clock is from 1 up and the second buffer has the table's size
pub record Timely (clock size lent : ℕ) : Type 0 where
  pub high : above_zero clock ≡ true
  pub sized : lent ≡ size

pub timely : (clock size lent : ℕ) → late_refusal clock size lent ≡ 0 → Timely clock size lent
unfolding late_refusal
timely clock size lent z =
    on_if (λ (k : ℕ). k ≡ 0 → Timely clock size lent)
    (λ e q. absurd (omega arith))
    (λ high. on_if (λ (k : ℕ). k ≡ 0 → Timely clock size lent)
    (λ e q. absurd (omega arith))
    (λ same q. record { high = not-false _ high; sized = eqb-true lent size (not-false _ same) }))
    z
