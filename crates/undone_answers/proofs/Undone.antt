-- What is said of an item by what became of it is what is said of it by the number of the one that failed.
-- Assumes nothing.
use mathlib.Core.Path.{◌≡◌, refl, sym, ap, ◌∙◌}
use mathlib.Core.Bool.{Bool, true, false}
use Rattle.octets.proofs.If.{ifb_true, ifb_false}
use Rattle.rules.specs.declared.Reason.{Reason}
use Rattle.plans.specs.declared.Outcome.{Outcome}
use Rattle.plans.specs.declared.Outcome.TheVariants.{Failed, Undone}
use Rattle.plans.specs.Plans.{is_failed}
use Rattle.undone_answers.specs.Undone.{or_undone, said_of}

-- the one that failed keeps its reason
pub said_failed : (o : Outcome) (failed : Bool) (reason : Reason) → o ≡ Failed reason → failed ≡ true → or_undone o ≡ said_of failed reason
unfolding or_undone said_of is_failed
said_failed o failed reason e h = ap or_undone e ∙ ifb_true true (Failed reason) Undone refl ∙ sym (ifb_true failed (Failed reason) Undone h)

-- any other is undone
pub said_undone : (o : Outcome) (failed : Bool) (reason : Reason) → is_failed o ≡ false → failed ≡ false → or_undone o ≡ said_of failed reason
unfolding or_undone said_of
said_undone o failed reason e h = ifb_false (is_failed o) o Undone e ∙ sym (ifb_false failed (Failed reason) Undone h)
