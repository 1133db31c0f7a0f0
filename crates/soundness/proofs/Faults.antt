-- What the first fault says: every rule before it is kept, and it is broken, at the place named and at no lower one.
-- Assumes nothing.
use mathlib.Core.Path.{◌≡◌, refl, sym, ap, ◌∙◌, subst}
use Prim.Native.Nat.{ℕ, suc, ◌<◌}
use mathlib.Core.Bool.{Bool, true, false}
use Rattle.std.specs.Prelude.{None, Some}
use mathlib.Core.List.{List, [], ◌∷◌}
use Rattle.octets.proofs.If.{ifb_true, ifb_false, on_bool}
use Rattle.octets.proofs.Maybe.{not_some, some_is}
use Rattle.search.specs.Search.{first}
use Rattle.soundness.specs.Sound.{Rule, of_table, of_places, rules, Fault, whole, at_place, or_later, fault_from, first_fault}
use Rattle.search.proofs.First.{on_found_lem, found_below, found_test, found_lowest, found_is, none_fails, fails_none}

module _ (n : ℕ) (t : List ℕ) where
  -- no place breaks a rule
  abbrev pub Nowhere : (ℕ → List ℕ → ℕ → Bool) → Type 0
  Nowhere broken = (i : ℕ) → i < n → broken n t i ≡ false

  -- each rule of a list is kept
  pub data Kept : List Rule → Type 0 where
    end : Kept []
    holds : {rule : ℕ → List ℕ → Bool} {later : List Rule} → rule n t ≡ true → Kept later → Kept (of_table rule ∷ later)
    nowhere : {broken : ℕ → List ℕ → ℕ → Bool} {later : List Rule} → Nowhere broken → Kept later → Kept (of_places broken ∷ later)

  -- a fault is the first of a list whose rules are numbered from k on: the rules in front of it are kept, and it is broken, at the lowest place that breaks it
  pub data First : ℕ → List Rule → Fault → Type 0 where
    broken_whole : {k : ℕ} {rule : ℕ → List ℕ → Bool} {later : List Rule} → rule n t ≡ false → First k (of_table rule ∷ later) (whole k)
    broken_at : {k : ℕ} {broken : ℕ → List ℕ → ℕ → Bool} {later : List Rule} (i : ℕ) → i < n → broken n t i ≡ true → ((j : ℕ) → j < i → broken n t j ≡ false)
        → First k (of_places broken ∷ later) (at_place k i)
    past_whole : {k : ℕ} {rule : ℕ → List ℕ → Bool} {later : List Rule} {fault : Fault} → rule n t ≡ true → First (suc k) later fault → First k (of_table rule ∷ later) fault
    past_places : {k : ℕ} {broken : ℕ → List ℕ → ℕ → Bool} {later : List Rule} {fault : Fault} → Nowhere broken → First (suc k) later fault → First k (of_places broken ∷ later) fault

module _ (n : ℕ) (t : List ℕ) where
  kept_from : (k : ℕ) (later : List Rule) → fault_from k later n t ≡ None → Kept n t later
  unfolding fault_from or_later
  kept_from k [] e = end
  kept_from k (of_table rule ∷ later) e =
      on_bool (rule n t)
      (λ h. holds h (kept_from (suc k) later (sym (ifb_true _ _ _ h) ∙ e)))
      (λ h. absurd (not_some (sym e ∙ ifb_false _ _ _ h)))
  kept_from k (of_places broken ∷ later) e =
      on_found_lem (first n (broken n t))
      (λ i f. absurd (not_some (sym e ∙ ap (or_later k _) f)))
      (λ f. nowhere (none_fails n (broken n t) f) (kept_from (suc k) later (sym (ap (or_later k _) f) ∙ e)))

  from_kept : (k : ℕ) (later : List Rule) → Kept n t later → fault_from k later n t ≡ None
  unfolding fault_from or_later
  from_kept k [] end = refl
  from_kept k (of_table rule ∷ later) (holds h r) = ifb_true _ _ _ h ∙ from_kept (suc k) later r
  from_kept k (of_places broken ∷ later) (nowhere h r) = ap (or_later k _) (fails_none n (broken n t) h) ∙ from_kept (suc k) later r

  first_from_lem : (k : ℕ) (later : List Rule) (fault : Fault) → fault_from k later n t ≡ Some fault → First n t k later fault
  unfolding fault_from or_later
  first_from_lem k [] fault e = absurd (not_some e)
  first_from_lem k (of_table rule ∷ later) fault e =
      on_bool (rule n t)
      (λ h. past_whole h (first_from_lem (suc k) later fault (sym (ifb_true _ _ _ h) ∙ e)))
      (λ h. subst (First n t k (of_table rule ∷ later)) (some_is (sym (ifb_false _ _ _ h) ∙ e)) (broken_whole h))
  first_from_lem k (of_places broken ∷ later) fault e =
      on_found_lem (first n (broken n t))
      (λ i f. subst (First n t k (of_places broken ∷ later)) (some_is (sym (ap (or_later k _) f) ∙ e))
      (broken_at i (found_below n (broken n t) i f) (found_test n (broken n t) i f) (found_lowest n (broken n t) i f)))
      (λ f. past_places (none_fails n (broken n t) f) (first_from_lem (suc k) later fault (sym (ap (or_later k _) f) ∙ e)))

  from_first : (k : ℕ) (later : List Rule) (fault : Fault) → First n t k later fault → fault_from k later n t ≡ Some fault
  unfolding fault_from or_later
  from_first k [] fault h = elim h [ ]
  from_first k (of_table rule ∷ later) _ (broken_whole h) = ifb_false _ _ _ h
  from_first k (of_places broken ∷ later) _ (broken_at i l h g) = ap (or_later k _) (found_is n (broken n t) i l h g)
  from_first k (of_table rule ∷ later) fault (past_whole h f) = ifb_true _ _ _ h ∙ from_first (suc k) later fault f
  from_first k (of_places broken ∷ later) fault (past_places h f) = ap (or_later k _) (fails_none n (broken n t) h) ∙ from_first (suc k) later fault f

  -- ---- the list of all rules

  pub fault_none : first_fault n t ≡ None → Kept n t rules
  unfolding first_fault
  fault_none e = kept_from 1 rules e

  pub none_fault : Kept n t rules → first_fault n t ≡ None
  unfolding first_fault
  none_fault h = from_kept 1 rules h

  pub fault_first : (fault : Fault) → first_fault n t ≡ Some fault → First n t 1 rules fault
  unfolding first_fault
  fault_first fault e = first_from_lem 1 rules fault e

  pub first_fault_lem : (fault : Fault) → First n t 1 rules fault → first_fault n t ≡ Some fault
  unfolding first_fault
  first_fault_lem fault h = from_first 1 rules fault h
