-- Events that count as never made: what failed, and what was undone. No count of the log moves along them, so the books stay as they are where the table does.
-- Assumes nothing.
use Prim.Native.Nat.{ℕ, ◌+◌, ◌<◌}
use native.Mathlib.Omega.{arith}
use mathlib.Core.Path.{◌≡◌, refl, sym, ap, subst, ◌∙◌}
use mathlib.Core.Bool.{true, false, not, true≢false}
use mathlib.Core.List.{List, [], ◌∷◌, map}
use lib.Dec.{eqb}
use borrow.Author.Tests.{ne_eqb}
use Rattle.octets.specs.If.{ifb}
use Rattle.octets.proofs.If.{ifb_true, ifb_false, on_if}
use Rattle.octets.proofs.Bools.{and_no}
use Rattle.table.specs.Records.{place_at}
use Rattle.search.specs.Search.{find, new_place}
use Rattle.soundness.specs.Checked.{is_at}
use Rattle.batch_item.specs.Item.{Asked}
use Rattle.payload.specs.declared.Command.{Command}
use Rattle.payload.specs.declared.Command.TheVariants.{Unsupported, Invalid, Create, Rekey, GetUsageAllocation, Activate, Revoke, Destroy, GetAttributes, Get, Locate}
use Rattle.payload.specs.Payload.{command}
use Rattle.plans.specs.declared.Outcome.{Outcome}
use Rattle.plans.specs.declared.Outcome.TheVariants.{Failed, Created, Done, Showed, Got, Located, Undone}
use Rattle.plans.specs.Plans.{Did, env_at, is_failed}
use Rattle.act.specs.Act.{step}
use Rattle.act.proofs.Went.{step_kind}
use Rattle.batch.specs.Batch.{Ran, answer_to, lastly, firstly, ends_batch, batch}
use Rattle.undone_answers.specs.Undone.{or_undone, undone_to}
use Rattle.demands.specs.Log.{Event, command_of, paired, onto, issued_by, issued, grant_by, granted, limit, heir_from, handed_by, destroyed_by, was_destroyed, handed_dead}
use Rattle.demands.specs.Demand3.{is_understood, is_made, carries, takes, unnames, Tame}
use Rattle.demands_met.proofs.Counted.{no_issue, no_grant}
use Rattle.demands_met.proofs.Logged.{granted_more, issued_before, limit_before, Balanced}
use Rattle.demands_met.proofs.Tame.{kind_understood}
use Rattle.demands_met.proofs.Paired.{paired_end, Books, Travelled, stood, onward}

-- ---- what the log counts of an answer

undone_issues : (c : Command) → issued_by c Undone ≡ 0
unfolding issued_by
undone_issues Unsupported = refl
undone_issues Invalid = refl
undone_issues (Create wanted) = refl
undone_issues (Rekey target offset) = refl
undone_issues (GetUsageAllocation target amount) = refl
undone_issues (Activate target) = refl
undone_issues (Revoke target code) = refl
undone_issues (Destroy target) = refl
undone_issues (GetAttributes target) = refl
undone_issues (Get target) = refl
undone_issues (Locate name) = refl

undone_grants : (x : ℕ) (c : Command) → grant_by x c Undone ≡ 0
unfolding grant_by
undone_grants x Unsupported = refl
undone_grants x Invalid = refl
undone_grants x (Create wanted) = refl
undone_grants x (Rekey target offset) = refl
undone_grants x (GetUsageAllocation target amount) = refl
undone_grants x (Activate target) = refl
undone_grants x (Revoke target code) = refl
undone_grants x (Destroy target) = refl
undone_grants x (GetAttributes target) = refl
undone_grants x (Get target) = refl
undone_grants x (Locate name) = refl

-- an answer to a command of which the log counts nothing
record Silent (operation : ℕ) (c : Command) (o : Outcome) : Type 0 where
  issues : issued_by c o ≡ 0
  grants : (x : ℕ) → grant_by x c o ≡ 0
  hands : handed_by o ≡ 0
  destroys : destroyed_by operation o ≡ 0
  carried : carries o ≡ 0

-- what counts as never made is silent
silent : (operation : ℕ) (c : Command) (o : Outcome) → is_made o ≡ false → Silent operation c o
unfolding is_made handed_by destroyed_by carries
silent operation c (Failed reason) m = record { issues = no_issue c reason; grants = λ x. no_grant x c reason; hands = refl; destroys = refl; carried = refl }
silent operation c (Created serial) m = absurd (true≢false m)
silent operation c (Done serial) m = absurd (true≢false m)
silent operation c (Showed shown) m = absurd (true≢false m)
silent operation c (Got key) m = absurd (true≢false m)
silent operation c (Located serial) m = absurd (true≢false m)
silent operation c Undone m = record { issues = undone_issues c; grants = λ x. undone_grants x c; hands = refl; destroys = refl; carried = refl }

-- ---- one event

-- an item's own answer that counts as never made
pub record Unmade (ev : Event) : Type 0 where
  pub operation : ev.answer.operation ≡ ev.asked.operation
  pub id : ev.answer.id ≡ ev.asked.id
  pub understood : is_understood (command_of ev) ≡ false → is_failed ev.answer.outcome ≡ true
  pub unmade : is_made ev.answer.outcome ≡ false

module _ (ev : Event) (u : Unmade ev) where
  nothing : Silent ev.answer.operation (command_of ev) ev.answer.outcome
  nothing = silent ev.answer.operation (command_of ev) ev.answer.outcome u.unmade

  -- no identifier is 0
  other : {k : ℕ} (x : ℕ) → (x ≡ 0 → ⊥) → k ≡ 0 → k ≡ x → ⊥
  other x z k e = z (sym e ∙ k)

  module _ (log : List Event) where
    -- no count moves
    same_granted : (x : ℕ) → granted x (ev ∷ log) ≡ granted x log
    same_granted x = omega (arith, granted_more x ev log, nothing.grants x)

    module _ (x : ℕ) (z : x ≡ 0 → ⊥) where
      same_issued : issued x (ev ∷ log) ≡ issued x log
      same_issued = issued_before x ev log (other x z nothing.issues)

      same_limit : limit x (ev ∷ log) ≡ limit x log
      same_limit = limit_before x ev log (other x z nothing.issues)

      same_destroyed : was_destroyed x (ev ∷ log) ≡ was_destroyed x log
      unfolding was_destroyed
      same_destroyed = rw (ne_eqb (destroyed_by ev.answer.operation ev.answer.outcome) x (other x z nothing.destroys)) refl

      same_handed : handed_dead x (ev ∷ log) ≡ handed_dead x log
      unfolding handed_dead
      same_handed = ifb_false _ _ _ (and_no (eqb (handed_by ev.answer.outcome) x) (was_destroyed x log) (ne_eqb _ x (other x z nothing.hands)))

    -- so the books stay as they are
    unmade_books : {n : ℕ} {t : List ℕ} → Books n log t → Books n (ev ∷ log) t
    unmade_books {n} {t} b = record {
      inv = record {
        held = b.inv.held;
        balanced = λ i low z. balanced i low z;
        within = λ x z. omega (arith, same_granted x, same_limit x z, b.inv.within x z);
        once = λ x z. omega (arith, same_issued x z, b.inv.once x z);
        later = λ x l. (same_issued x (λ z. omega arith) ∙ (b.inv.later x l).0, same_granted x ∙ (b.inv.later x l).1);
      };
      dead = record {
        states = λ x i z s w. b.dead.states x i z s (sym (same_destroyed x z) ∙ w);
        known = λ x z w. omega (arith, same_issued x z, b.dead.known x z (sym (same_destroyed x z) ∙ w));
        silent = λ x z. same_handed x z ∙ b.dead.silent x z;
      };
    }
      where
        balanced : (i : ℕ) → i < n → ((place_at n t i).serial ≡ 0 → ⊥) → Balanced (ev ∷ log) (place_at n t i)
        balanced i low z =
            let x = (place_at n t i).serial in
            let was : Balanced log (place_at n t i) = b.inv.balanced i low z in
            record {
              count = ap (λ (k : ℕ). k + (place_at n t i).count) (same_granted x) ∙ was.count ∙ sym (same_limit x z);
              total = was.total ∙ sym (same_limit x z);
              once = same_issued x z ∙ was.once;
            }

  -- and a table that stays is all that it may leave
  unmade_tame : {n : ℕ} (t : List ℕ) → Tame n ev t t
  unfolding is_made
  unmade_tame {n} t = record {
    operation = u.operation;
    id = u.id;
    understood = u.understood;
    failed = λ m. refl;
    others = λ i low a b. refl;
    kept = λ i low b. refl;
    called = λ i low b. sym (ifb_false _ _ _ (unnamed i));
    moves = λ i low b d. absurd (d refl);
    obeys = λ i low a m s. absurd (never m);
    taken = λ i low y. absurd (true≢false (sym y ∙ not_taken i));
    stands = λ h. absurd (h nothing.issues);
    about = λ m z a. absurd (never m);
    renews = λ m a. absurd (never m);
    located = λ a h. absurd (h nothing.carried);
    found = λ name e m. absurd (never m);
    hands = λ h. absurd (h nothing.hands);
    alive = λ i low a m k. absurd (never m);
    gives = λ key o i low a. absurd (never (ap is_made o));
    holds = λ i low b d. refl;
    spends = λ i low a m k. absurd (never m);
    latest = refl;
    grants = λ x z away. nothing.grants x;
  }
    where
      never : is_made ev.answer.outcome ≡ true → ⊥
      never m = true≢false (sym m ∙ u.unmade)

      unnamed : (i : ℕ) → unnames n ev t i ≡ false
      unnamed i = and_no (not (eqb (issued_by (command_of ev) ev.answer.outcome) 0)) (is_at i (find n t (heir_from ev.held (command_of ev)))) (ap (λ (s : ℕ). not (eqb s 0)) nothing.issues)

      not_taken : (i : ℕ) → takes n ev t i ≡ false
      not_taken i = and_no (not (eqb (issued_by (command_of ev) ev.answer.outcome) 0)) (is_at i (new_place n t)) (ap (λ (s : ℕ). not (eqb s 0)) nothing.issues)

-- ---- events in order

pub data AllUnmade : List Event → Type 0 where
  none : AllUnmade []
  more : {ev : Event} {events : List Event} → Unmade ev → AllUnmade events → AllUnmade (ev ∷ events)

-- the books go along them with the table as it is
pub unmade_travels : {n : ℕ} {t : List ℕ} {events : List Event} → AllUnmade events → (log : List Event) → Books n log t → Travelled n log t events t
unmade_travels none log b = stood b
unmade_travels {t = t} (more {ev} u rest) log b = onward ev t (unmade_tame ev u t) (unmade_books ev u log b) (unmade_travels rest (ev ∷ log) (unmade_books ev u log b))

-- and nothing is granted
pub unmade_granted : (x : ℕ) {events : List Event} → AllUnmade events → (log : List Event) → granted x (onto events log) ≡ granted x log
unfolding onto
unmade_granted x none log = refl
unmade_granted x (more {ev} u rest) log = unmade_granted x rest (ev ∷ log) ∙ same_granted ev u log x

-- ---- a batch that is undone

-- whatever became of an item, its answer counts as never made then
undone_unmade : (o : Outcome) → is_made (or_undone o) ≡ false
unfolding or_undone is_failed is_made ifb
undone_unmade (Failed reason) = refl
undone_unmade (Created serial) = refl
undone_unmade (Done serial) = refl
undone_unmade (Showed shown) = refl
undone_unmade (Got key) = refl
undone_unmade (Located serial) = refl
undone_unmade Undone = refl

-- and what failed failed
undone_failed : (o : Outcome) → is_failed o ≡ true → is_failed (or_undone o) ≡ true
unfolding or_undone
undone_failed o f = ap is_failed (ifb_true (is_failed o) o Undone f) ∙ f

module _ (n : ℕ) (strip : List ℕ) (option : ℕ) where
  -- each of its events counts as never made
  pub batch_unmade : (items : List Asked) (i holder held : ℕ) (t : List ℕ) → AllUnmade (paired held items (map undone_to (batch n strip option i holder t items).answers))
  unfolding batch paired
  batch_unmade [] i holder held t = none
  batch_unmade (asked ∷ later) i holder held t =
      turn (step (env_at n strip i) holder t asked) (kind_understood (env_at n strip i) holder t _ _ (step_kind (env_at n strip i) holder t asked))
      (λ next. batch_unmade later (i + 1) (step (env_at n strip i) holder t asked).holder next (step (env_at n strip i) holder t asked).table)
    where
      own : (did : Did) → (is_understood (command asked.operation asked.payload) ≡ false → is_failed did.outcome ≡ true)
          → Unmade (record { held = held; asked = asked; answer = undone_to (answer_to asked did) })
      own did fails = record { operation = refl; id = refl; understood = λ y. undone_failed did.outcome (fails y); unmade = undone_unmade did.outcome }

      turn : (did : Did) → (is_understood (command asked.operation asked.payload) ≡ false → is_failed did.outcome ≡ true)
          → ((next : ℕ) → AllUnmade (paired next later (map undone_to (batch n strip option (i + 1) did.holder did.table later).answers)))
          → AllUnmade (paired held (asked ∷ later) (map undone_to
          (ifb (ends_batch option did) (lastly (answer_to asked did) did.table) (firstly (answer_to asked did) (batch n strip option (i + 1) did.holder did.table later))).answers))
      turn did fails rest =
          on_if (λ (ran : Ran). AllUnmade (paired held (asked ∷ later) (map undone_to ran.answers)))
          (λ e. more (own did fails) (subst AllUnmade (sym (paired_end _ later)) none))
          (λ e. more (own did fails) (rest _))
