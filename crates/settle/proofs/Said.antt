-- What the answers of `failure_of` and `try_items` say in the papers' numbers is what becomes of the items.
-- Assumes nothing.
use Rattle.std.specs.Prelude.{Option, None, Some}
use mathlib.Core.Path.{◌≡◌, refl, sym, ◌∙◌}
use mathlib.Core.Bool.{false, true≢false}
use Prim.Native.Nat.{ℕ}
use mathlib.Core.List.{List}
use Rattle.octets.specs.If.{ifb}
use Rattle.octets.proofs.If.{ifb_true, ifb_false}
use Rattle.rules.specs.Numbers.{success, operation_failed, operation_undone, reason_number}
use Rattle.rules.specs.declared.Reason.{Reason}
use Rattle.plans.specs.declared.Outcome.{Outcome}
use Rattle.plans.specs.declared.Outcome.TheVariants.{Failed}
use Rattle.plans.specs.Plans.{is_failed}
use Rattle.answer.specs.Respond.{Answer}
use Rattle.settle.specs.Undo.{any_failed}
use Rattle.settle.specs.Trials.{failure_of, first_failure}
use Rattle.settle.specs.Said.{failure_says, trial_says}
use Rattle.settle.proofs.Undo.{Fails, failed, fine, fails, fails_any, passes_none}

-- an item that failed has status 1 and the number of its reason
pub failure_says_lem : (reason : Reason) → failure_says (failure_of (Failed reason)) ≡ record { status = operation_failed; number = reason_number reason }
unfolding failure_says failure_of
failure_says_lem reason = refl

-- any other has status 0, and no number
pub success_says : (o : Outcome) → is_failed o ≡ false → failure_says (failure_of o) ≡ record { status = success; number = 0 }
unfolding failure_says
success_says o h = go (fails o)
  where
    go : {f : Option Reason} → Fails o f → failure_says f ≡ record { status = success; number = 0 }
    go (failed reason e b) = absurd (true≢false (sym b ∙ h))
    go (fine b) = refl

-- the items in front of the first failure have status 3, and where there is none they have 0
pub trial_says_lem : (i : ℕ) (answers : List Answer) → trial_says (first_failure i answers) ≡ ifb (any_failed answers) operation_undone success
unfolding trial_says
trial_says_lem i answers = go (first_failure i answers) refl
  where
    go : (x : Option (ℕ × Reason)) → first_failure i answers ≡ x → trial_says x ≡ ifb (any_failed answers) operation_undone success
    go None e = sym (ifb_false (any_failed answers) _ _ (passes_none i answers e))
    go (Some (k, reason)) e = sym (ifb_true (any_failed answers) _ _ (fails_any i answers e))
