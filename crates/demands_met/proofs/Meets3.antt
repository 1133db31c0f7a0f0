-- A box whose outcome is that of the definitions meets demand 3.
-- Assumes nothing.
use mathlib.Core.Path.{◌≡◌, refl, sym, subst, ◌∙◌}
use Rattle.calls.specs.Effects.{Effect}
use Rattle.engine.specs.Serving.{answered}
use Rattle.demands.specs.Box.{Call, Box, Lent}
use Rattle.demands.specs.Demand3.{Demand3}
use Rattle.demands_met.proofs.Ladder.{served, Told, away, accepted, told}
use Rattle.demands_met.proofs.Runs.{call_asked, call_goes, run_books}

-- a refused call leaves the table
told_refused : (c : Call) (e : Effect) → Told c e → (e.number ≡ 0 → ⊥) → e.table ≡ c.table
unfolding answered
told_refused c e (away k) h = refl
told_refused c e (accepted a) h = absurd (h refl)

module _ (B : Box) (is : (c : Call) (e : Effect) → Lent c → B c e → e ≡ served c) where
  pub meets_3 : Demand3 B
  meets_3 n ok = record {
    goes = λ log t r c e same lent b. (call_goes B is n c e lent b log t same (run_books B is n ok r)).goes;
    asked = λ log t r c e same lent b. call_asked B is c e lent b;
    refused = λ log t r c e same lent b h.
        subst (λ (x : Effect). (x.number ≡ 0 → ⊥) → x.table ≡ c.table) (sym (is c e lent b)) (told_refused c (served c) (told c)) h ∙ same;
  }
