-- A batch as a chain of links: what `batch` computes is what the chain says, item by item, and what is left of it under its option is what the links say.
-- Assumes nothing.
use Prim.Native.Nat.{ℕ, ◌+◌}
use mathlib.Core.Path.{◌≡◌, refl, sym, ap, ◌∙◌}
use mathlib.Core.Bool.{Bool, true, false, not, ◌&&◌, ◌||◌}
use Rattle.std.specs.Prelude.{Option, None, Some}
use mathlib.Core.List.{List, [], ◌∷◌, map}
use lib.Dec.{eqb}
use borrow.Author.Tests.{not-true, not-false}
use Rattle.octets.specs.If.{ifb}
use Rattle.octets.proofs.If.{on_if}
use Rattle.rules.specs.declared.Reason.{Reason}
use Rattle.rules.specs.Tests.{due}
use Rattle.batch_item.specs.Item.{Asked}
use Rattle.frame.specs.Frame.{continue, undo}
use Rattle.plans.specs.Plans.{Env, Did, env_at, carried, is_failed}
use Rattle.act.specs.Act.{step}
use Rattle.answer.specs.Respond.{Answer}
use Rattle.batch.specs.Batch.{Ran, answer_to, lastly, firstly, ends_batch, batch}
use Rattle.settle.specs.Undo.{any_failed, settled as settled_ran}
use Rattle.undone_answers.specs.Undone.{or_undone, undone_to}
use Rattle.demands.specs.Demand2.{Link, Due, plan_of, answer_for, goes_on, link_at, Chain, none_left, stops, goes_further, any_fails, is_undone, settled, undone_for, answers_for}
use Rattle.demands.specs.Box.{Call, places_of}

-- the link of an item that is carried out
abbrev pub link_to : Env → ℕ → List ℕ → Asked → Link
link_to env holder t asked = record { env = env; holder = holder; table = t; asked = asked; did = step env holder t asked }

-- an item is carried out as its conditions say
pub step_due : (env : Env) (holder : ℕ) (t : List ℕ) (asked : Asked) → Due (link_to env holder t asked)
unfolding step carried
step_due env holder t asked = record {
  succeeds = λ e. ap (carried t (plan_of (link_to env holder t asked)).did) e;
  fails = λ reason e. ap (carried t (plan_of (link_to env holder t asked)).did) e;
}

-- an item that is due is the one that is carried out
pub due_step : (l : Link) → Due l → l.did ≡ step l.env l.holder l.table l.asked
unfolding step carried
due_step l d = go (due (plan_of l).tests) refl
  where
    go : (o : Option Reason) → due (plan_of l).tests ≡ o → l.did ≡ carried l.table (plan_of l).did (due (plan_of l).tests)
    go None e = d.succeeds e ∙ sym (ap (carried l.table (plan_of l).did) e)
    go (Some reason) e = d.fails reason e ∙ sym (ap (carried l.table (plan_of l).did) e)

-- the links of a run of items: a chain to the table that the batch leaves, whose answers are the batch's
pub record Chained (c : Call) (option i holder : ℕ) (t : List ℕ) (items : List Asked) (ran : Ran) : Type 0 where
  pub links : List Link
  pub chain : Chain c option i holder t items links ran.table
  pub answers : map answer_for links ≡ ran.answers

-- a batch ends where the demand does not let it go on
pub ends_not : (option : ℕ) (did : Did) → ends_batch option did ≡ not (goes_on option did.outcome)
unfolding ends_batch goes_on
ends_not option did = go (is_failed did.outcome) (eqb option continue)
  where
    go : (a b : Bool) → (a && not b) ≡ not (not a || b)
    go true true = refl
    go true false = refl
    go false true = refl
    go false false = refl

module _ (c : Call) (option : ℕ) where
  -- the items of a call from number i on
  abbrev pub ran_from : ℕ → ℕ → List ℕ → List Asked → Ran
  ran_from i holder t items = batch (places_of c) c.strip option i holder t items

  pub batch_chain : (items : List Asked) (i holder : ℕ) (t : List ℕ) → Chained c option i holder t items (ran_from i holder t items)
  unfolding batch answer_for
  batch_chain [] i holder t = record { links = []; chain = none_left; answers = refl }
  batch_chain (asked ∷ later) i holder t =
      turn (step (env_at (places_of c) c.strip i) holder t asked) (step_due (env_at (places_of c) c.strip i) holder t asked)
      (batch_chain later (i + 1) (step (env_at (places_of c) c.strip i) holder t asked).holder (step (env_at (places_of c) c.strip i) holder t asked).table)
    where
      turn : (did : Did) → Due (link_at c i holder t asked did) → Chained c option (i + 1) did.holder did.table later (ran_from (i + 1) did.holder did.table later)
          → Chained c option i holder t (asked ∷ later)
          (ifb (ends_batch option did) (lastly (answer_to asked did) did.table) (firstly (answer_to asked did) (ran_from (i + 1) did.holder did.table later)))
      turn did d rest =
          on_if (Chained c option i holder t (asked ∷ later))
          (λ e. record {
            links = link_at c i holder t asked did ∷ [];
            chain = stops asked did d (not-true _ (sym (ends_not option did) ∙ e));
            answers = refl;
          })
          (λ e. record {
            links = link_at c i holder t asked did ∷ rest.links;
            chain = goes_further asked did d (not-false _ (sym (ends_not option did) ∙ e)) rest.chain;
            answers = ap {B = List Answer} (λ rs. answer_to asked did ∷ rs) rest.answers;
          })

-- ---- what is left under an option

-- a link failed where an answer says so
any_same : (links : List Link) → any_failed (map answer_for links) ≡ any_fails links
unfolding any_failed any_fails answer_for
any_same [] = refl
any_same (l ∷ links) = ap (λ (b : Bool). is_failed l.did.outcome || b) (any_same links)

undone_same : (links : List Link) → map undone_to (map answer_for links) ≡ map undone_for links
unfolding answer_for undone_for or_undone
undone_same [] = refl
undone_same (l ∷ links) = ap (λ (answers : List Answer). undone_for l ∷ answers) (undone_same links)

-- what the links lead to, as answers and table
abbrev pub ran_of : List Link → List ℕ → Ran
ran_of links u = record { answers = map answer_for links; table = u }

-- what is left of it, and what the demand says is left
pub settled_same : (option : ℕ) (start : List ℕ) (links : List Link) (u : List ℕ)
    → settled_ran option start (ran_of links u) ≡ record { answers = answers_for option links; table = settled option start links u }
unfolding settled_ran settled answers_for ifb
settled_same option start links u = ap (λ (b : Bool). ifb (eqb option undo && b) (record { answers = map undone_to (map answer_for links); table = start }) (ran_of links u)) (any_same links) ∙ by_undone (is_undone option links)
  where
    by_undone : (b : Bool)
        → ◌≡◌ {A = Ran} (ifb b (record { answers = map undone_to (map answer_for links); table = start }) (ran_of links u))
        (record { answers = ifb b (map undone_for links) (map answer_for links); table = ifb b start u })
    by_undone true = ap (λ (answers : List Answer). record { answers = answers; table = start }) (undone_same links)
    by_undone false = refl
