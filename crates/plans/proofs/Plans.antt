-- Laws of plans: a condition at a time, a failure, and where a Re-key's Offset is tested.
-- Assumes nothing.
use Rattle.std.specs.Prelude.{Option}
use mathlib.Core.Path.{◌≡◌, refl, ap, ◌∙◌}
use Prim.Native.Nat.{ℕ}
use mathlib.Core.Bool.{true, false, not}
use mathlib.Core.List.{List, [], ◌∷◌}
use lib.Dec.{eqb}
use Rattle.table.specs.declared.Record.{Record}
use Rattle.table.specs.Records.{latest_clock}
use Rattle.search.specs.Search.{is_destroyed}
use Rattle.rules.specs.declared.Reason.{Reason}
use Rattle.rules.specs.declared.Reason.TheVariants.{InvalidField}
use Rattle.rules.specs.Tests.{Test, ◌⇒◌, due}
use Rattle.rules.proofs.Tests.{due_first, due_later, due_end}
use Rattle.heirs.specs.Heirs.{offset_wrong}
use Rattle.plans.specs.declared.Outcome.{Outcome}
use Rattle.plans.specs.declared.Outcome.TheVariants.{Failed, Created, Done, Showed, Got, Located, Undone}
use Rattle.plans.specs.declared.Performed.{Performed}
use Rattle.plans.specs.Plans.{Env, Did, failing, refusal, carried, carried_out, leaves, failed, is_failed, rekey_plan}

-- ---- a test at a time

-- a plan whose first condition holds fails with its reason
pub fails_first : (t : List ℕ) (did : Did) (test : Test) (tests : List Test) → test.holds ≡ true → carried t did (due (test ∷ tests)) ≡ failing t test.reason
unfolding carried
fails_first t did test tests e = ap (carried t did) (due_first test tests e)

-- one whose first condition does not hold goes by the later ones
pub goes_further : (t : List ℕ) (did : Did) (test : Test) (tests : List Test) → test.holds ≡ false → carried t did (due (test ∷ tests)) ≡ carried t did (due tests)
goes_further t did test tests e = ap (carried t did) (due_later test tests e)

-- and one with no condition is done
pub is_done : (t : List ℕ) (did : Did) → carried t did (due []) ≡ did
unfolding carried
is_done t did = ap (carried t did) due_end

-- a refusal fails with its reason
pub refused : (t : List ℕ) (reason : Reason) → carried_out t (refusal t reason) ≡ failing t reason
refused t reason = fails_first t (failing t reason) (true ⇒ reason) [] refl

-- a failure leaves the table as it was
pub fails : (t : List ℕ) {r : Performed} {reason : Reason} → r ≡ failed reason → leaves r t ≡ failing t reason
fails t e = ap (λ (x : Performed). leaves x t) e

-- what is left says the answer and the table
pub left_one : {r s : Performed} {t u : List ℕ} → leaves r t ≡ leaves s u → (r ≡ s) × (t ≡ u)
left_one e = (ap (λ (did : Did). record { outcome = did.outcome; holder = did.holder }) e, ap (λ (did : Did). did.table) e)

-- ---- Re-key

-- a wrong Offset is told behind Permission Denied, be the table full or not
pub wrong_told : (env : Env) (holder : ℕ) (t : List ℕ) (offset : Option ℕ) (i : ℕ) (r : Record) → is_destroyed r.state ≡ false → not (eqb r.replacement 0) ≡ false
    → offset_wrong (latest_clock t) offset r ≡ true → carried_out t (rekey_plan env holder t offset i r) ≡ failing t InvalidField
unfolding rekey_plan
wrong_told env holder t offset i r live unreplaced wrong = goes_further t _ _ _ live ∙ goes_further t _ _ _ unreplaced ∙ fails_first t _ _ _ wrong

-- ---- whether an item failed

pub not_failed : (o : Outcome) → ((reason : Reason) → o ≡ Failed reason → ⊥) → false ≡ is_failed o
unfolding is_failed
not_failed (Failed reason) h = absurd (h reason refl)
not_failed (Created serial) h = refl
not_failed (Done serial) h = refl
not_failed (Showed shown) h = refl
not_failed (Got key) h = refl
not_failed (Located serial) h = refl
not_failed Undone h = refl
