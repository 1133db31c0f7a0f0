-- What demand 2 asks of a box that refuses as it should: what is due.
-- Assumes nothing.
use Prim.Native.Nat.{ℕ}
use native.Mathlib.Omega.{arith}
use mathlib.Core.Path.{◌≡◌, ◌∙◌}
use mathlib.Core.List.{List}
use Rattle.calls.specs.Effects.{Effect}
use Rattle.demands.specs.Box.{Call, Lent}
use Rattle.demands.specs.Demand2.{Demand2, Answered, refusal_conditions, lowest}
use Rattle.wrong_boxes.specs.Wrong.{or_refused, with_table, Leaves}
use Rattle.demands_met.proofs.Ladder.{served, served_number}
use Rattle.demands_met.proofs.Only.{AsDue, answered_due}
use Rattle.wrong_boxes.proofs.Calling.{accepted_is}

pub zero_one : {A : Type 0} → ◌≡◌ {A = ℕ} 0 1 → A
zero_one e = absurd (omega arith)

module _ (made : Call → Effect) (d : Demand2 (λ c e. e ≡ or_refused c (made c))) (c : Call) (lent : Lent c) (taken : lowest 1 (refusal_conditions c) ≡ 0) (zero : (made c).number ≡ 0) where
  pub given : Answered c (made c)
  given = d.answered c (made c) lent (accepted_is c (made c) taken) zero

  pub as_due : AsDue c (made c)
  as_due = answered_due c (made c) lent given (served_number c ∙ taken)

-- it gives a box that answers as it should the table that is due
pub leaves_due : (made : Call → List ℕ → List ℕ) → Demand2 (Leaves made) → (c : Call) → Lent c → lowest 1 (refusal_conditions c) ≡ 0 → made c (served c).table ≡ (served c).table
unfolding with_table
leaves_due made d c lent taken = (as_due (λ x. with_table (made x) (served x)) d c lent taken (served_number c ∙ taken)).table
