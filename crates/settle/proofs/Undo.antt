-- A batch under Undo: where it fails first, and that the answers which are written from the request alone are those of what is left of it.
-- Assumes nothing.
use Rattle.std.specs.Prelude.{Option, None, Some}
use Prim.Native.Nat.{ℕ, suc, ◌+◌, ◌≤◌}
use native.Mathlib.Omega.{arith}
use mathlib.Core.Path.{◌≡◌, refl, sym, ap, ap₂, subst, ◌∙◌}
use mathlib.Core.Bool.{Bool, true, false, not, ◌&&◌, ◌||◌}
use mathlib.Core.List.{List, [], ◌∷◌, map}
use lib.Dec.{eqb}
use borrow.Author.Tests.{eq-eqb, ne_eqb}
use Rattle.octets.specs.If.{ifb}
use Rattle.octets.proofs.If.{ifb_true, ifb_false}
use Rattle.octets.proofs.Bools.{or_l, or_r}
use Rattle.rules.specs.declared.Reason.{Reason}
use Rattle.batch_item.specs.Item.{Asked}
use Rattle.frame.specs.Frame.{continue, undo}
use Rattle.plans.specs.declared.Outcome.{Outcome}
use Rattle.plans.specs.declared.Outcome.TheVariants.{Failed, Created, Done, Showed, Got, Located, Undone}
use Rattle.plans.specs.Plans.{Did, env_at, is_failed}
use Rattle.act.specs.Act.{step}
use Rattle.answer.specs.Respond.{Answer}
use Rattle.batch.specs.Batch.{Ran, answer_with, answer_to, lastly, firstly, ends_batch, batch}
use Rattle.undone_answers.specs.Undone.{or_undone, undone_to, said_of, undone_from}
use Rattle.undone_answers.proofs.Undone.{said_failed, said_undone}
use Rattle.settle.specs.Undo.{any_failed, settled, kept_in}
use Rattle.settle.specs.Trials.{fails_at, failure_of, fails_or, first_failure}

-- ---- one outcome

-- a failure, or none
pub data Fails (o : Outcome) : Option Reason → Type 0 where
  failed : (reason : Reason) → o ≡ Failed reason → is_failed o ≡ true → Fails o (Some reason)
  fine : is_failed o ≡ false → Fails o None

pub fails : (o : Outcome) → Fails o (failure_of o)
unfolding failure_of is_failed
fails (Failed reason) = failed reason refl refl
fails (Created serial) = fine refl
fails (Done serial) = fine refl
fails (Showed shown) = fine refl
fails (Got key) = fine refl
fails (Located serial) = fine refl
fails Undone = fine refl

-- under Undo a failed item ends the batch, and no other does
pub ends_undo : (did : Did) → ends_batch undo did ≡ is_failed did.outcome
unfolding ends_batch
ends_undo did = go (is_failed did.outcome)
  where
    go : (b : Bool) → (b && not (eqb undo continue)) ≡ b
    go true = refl
    go false = refl

-- ---- the first failure

-- a trial's item, and its reason, where it has them
abbrev index_in : ℕ → Option (ℕ × Reason) → ℕ
index_in other None = other
index_in other (Some (k, reason)) = k

abbrev reason_in : Reason → Option (ℕ × Reason) → Reason
reason_in other None = other
reason_in other (Some (k, reason)) = reason

not_both : {k : ℕ} {reason : Reason} → None ≡ fails_at k reason → ⊥
not_both {k} e = let z : ◌≡◌ {A = ℕ} (suc k) k = ap (index_in (suc k)) e in omega arith

-- it is one of those that were looked at
fails_from : (i : ℕ) (answers : List Answer) {k : ℕ} {reason : Reason} → first_failure i answers ≡ fails_at k reason → i ≤ k
unfolding first_failure fails_or
fails_from i [] e = absurd (not_both e)
fails_from i (a ∷ answers) {k} {reason} e = go (fails_from (i + 1) answers) (failure_of a.outcome) e
  where
    go : (first_failure (i + 1) answers ≡ fails_at k reason → i + 1 ≤ k) → (f : Option Reason) → fails_or i (first_failure (i + 1) answers) f ≡ fails_at k reason → i ≤ k
    go later (Some r) q = let z : i ≡ k = ap (index_in 0) q in omega arith
    go later None q = let l = later q in omega arith

-- whether there is one
pub fails_any : (i : ℕ) (answers : List Answer) {k : ℕ} {reason : Reason} → first_failure i answers ≡ fails_at k reason → any_failed answers ≡ true
unfolding first_failure fails_or any_failed
fails_any i [] e = absurd (not_both e)
fails_any i (a ∷ answers) {k} {reason} e = go (fails_any (i + 1) answers) (fails a.outcome) e
  where
    go : (first_failure (i + 1) answers ≡ fails_at k reason → any_failed answers ≡ true) → {f : Option Reason} → Fails a.outcome f
        → fails_or i (first_failure (i + 1) answers) f ≡ fails_at k reason → (is_failed a.outcome || any_failed answers) ≡ true
    go later (failed r o b) q = or_l (is_failed a.outcome) (any_failed answers) b
    go later (fine b) q = or_r (is_failed a.outcome) (any_failed answers) (later q)

pub passes_none : (i : ℕ) (answers : List Answer) → first_failure i answers ≡ None → any_failed answers ≡ false
unfolding first_failure fails_or any_failed
passes_none i [] e = refl
passes_none i (a ∷ answers) e = go (passes_none (i + 1) answers) (fails a.outcome) e
  where
    go : (first_failure (i + 1) answers ≡ None → any_failed answers ≡ false) → {f : Option Reason} → Fails a.outcome f
        → fails_or i (first_failure (i + 1) answers) f ≡ None → (is_failed a.outcome || any_failed answers) ≡ false
    go later (failed r o b) q = absurd (not_both (sym q))
    go later (fine b) q = ap₂ (λ (x y : Bool). x || y) b (later q)

-- ---- the answers of a batch that failed

module _ (n : ℕ) (fresh : List ℕ) (k : ℕ) (reason : Reason) where
  -- where it failed so, its answers are these
  abbrev pub Told : ℕ → List Asked → Ran → Type 0
  Told i items ran = first_failure i ran.answers ≡ fails_at k reason → map undone_to ran.answers ≡ undone_from i k reason items

  -- by its first item: one that failed
  told_last : (i : ℕ) (asked : Asked) (later : List Asked) (did : Did) (r : Reason) → did.outcome ≡ Failed r → Told i (asked ∷ later) (lastly (answer_to asked did) did.table)
  unfolding first_failure fails_or failure_of undone_from
  told_last i asked later did r o q =
      let s : fails_at i r ≡ fails_at k reason = sym (ap (λ (y : Outcome). fails_or i None (failure_of y)) o) ∙ q in
      let here : eqb i k ≡ true = eq-eqb i k (ap (index_in 0) s) in
      let said : or_undone did.outcome ≡ said_of (eqb i k) reason = said_failed did.outcome (eqb i k) reason (o ∙ ap Failed (ap (reason_in r) s)) here in
      ap (λ (y : Outcome). answer_with asked y ∷ []) said ∙ sym (ifb_true (eqb i k) _ _ here)

  -- or one that did not
  told_later : (i : ℕ) (asked : Asked) (later : List Asked) (did : Did) (rest : Ran) → failure_of did.outcome ≡ None → is_failed did.outcome ≡ false → Told (i + 1) later rest
      → Told i (asked ∷ later) (firstly (answer_to asked did) rest)
  unfolding first_failure fails_or undone_from
  told_later i asked later did rest e b hyp q =
      let s : first_failure (i + 1) rest.answers ≡ fails_at k reason = sym (ap (fails_or i (first_failure (i + 1) rest.answers)) e) ∙ q in
      let past : eqb i k ≡ false = ne_eqb i k (λ z. let l = fails_from (i + 1) rest.answers s in omega arith) in
      let said : or_undone did.outcome ≡ said_of (eqb i k) reason = said_undone did.outcome (eqb i k) reason b past in
      ap₂ (λ (y : Outcome) (z : List Answer). answer_with asked y ∷ z) said (hyp s) ∙ sym (ifb_false (eqb i k) _ _ past)

  told_first : (i : ℕ) (asked : Asked) (later : List Asked) (did : Did) (rest : Ran) → Told (i + 1) later rest
      → Told i (asked ∷ later) (ifb (ends_batch undo did) (lastly (answer_to asked did) did.table) (firstly (answer_to asked did) rest))
  told_first i asked later did rest hyp = go refl (fails did.outcome)
    where
      go : {f : Option Reason} → failure_of did.outcome ≡ f → Fails did.outcome f
          → Told i (asked ∷ later) (ifb (ends_batch undo did) (lastly (answer_to asked did) did.table) (firstly (answer_to asked did) rest))
      go e (failed r o b) = subst (Told i (asked ∷ later)) (sym (ifb_true (ends_batch undo did) _ _ (ends_undo did ∙ b))) (told_last i asked later did r o)
      go e (fine b) = subst (Told i (asked ∷ later)) (sym (ifb_false (ends_batch undo did) _ _ (ends_undo did ∙ b))) (told_later i asked later did rest e b hyp)

  pub undone_is : (items : List Asked) (i holder : ℕ) (t : List ℕ) → Told i items (batch n fresh undo i holder t items)
  unfolding batch first_failure
  undone_is [] i holder t e = absurd (not_both e)
  undone_is (asked ∷ later) i holder t e =
      let did = step (env_at n fresh i) holder t asked in
      told_first i asked later did (batch n fresh undo (i + 1) did.holder did.table later) (undone_is later (i + 1) did.holder did.table) e

-- ---- what is left under an option

-- another option than Undo
pub settled_other : (option : ℕ) (t : List ℕ) (ran : Ran) → (option ≡ undo → ⊥) → settled option t ran ≡ ran
unfolding settled
settled_other option t ran h = ifb_false _ _ _ (ap (λ (b : Bool). b && any_failed ran.answers) (ne_eqb option undo h))

pub kept_other : (option : ℕ) (t buffer : List ℕ) → (option ≡ undo → ⊥) → kept_in option t buffer ≡ buffer
unfolding kept_in
kept_other option t buffer h = ifb_false _ _ _ (ne_eqb option undo h)

-- Undo
module _ {option : ℕ} (e : option ≡ undo) (t : List ℕ) where
  pub kept_undo : (buffer : List ℕ) → kept_in option t buffer ≡ t
  unfolding kept_in
  kept_undo buffer = ifb_true _ _ _ (eq-eqb option undo e)

  pub settled_none : (ran : Ran) → any_failed ran.answers ≡ false → settled option t ran ≡ ran
  unfolding settled
  settled_none ran none = ifb_false _ _ _ (ap₂ (λ (a b : Bool). a && b) (eq-eqb option undo e) none)

  pub settled_any : (ran : Ran) → any_failed ran.answers ≡ true → settled option t ran ≡ record { answers = map undone_to ran.answers; table = t }
  unfolding settled
  settled_any ran any = ifb_true _ _ _ (ap₂ (λ (a b : Bool). a && b) (eq-eqb option undo e) any)
