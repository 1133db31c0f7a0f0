-- Boxes that 00 warns of and that demand 3 shuts out: units go to an identifier whose place was taken.
-- Assumes nothing. Every box is refuted that does it.
use Prim.Native.Nat.{ℕ, ◌+◌}
use native.Mathlib.Omega.{arith}
use mathlib.Core.Path.{◌≡◌, refl, sym, ap, subst, ◌∙◌}
use mathlib.Core.Bool.{Bool, true, false, not, true≢false}
use mathlib.Core.List.{List, ◌∷◌, ◌++◌}
use lib.Dec.{eqb}
use borrow.Author.Tests.{eq-eqb}
use Rattle.octets.proofs.Bools.{and_l}
use Rattle.table.specs.Records.{serial_at}
use Rattle.search.specs.Search.{new_place}
use Rattle.soundness.specs.Checked.{is_at}
use Rattle.soundness.proofs.SoundIs.{sound_is}
use Rattle.payload.specs.declared.Command.{Command}
use Rattle.payload.specs.declared.Command.TheVariants.{Unsupported, Invalid, Create, Rekey, GetUsageAllocation, Activate, Revoke, Destroy, GetAttributes, Get, Locate}
use Rattle.plans.specs.declared.Outcome.{Outcome}
use Rattle.demands.specs.Box.{Box}
use Rattle.demands.specs.Log.{Event, command_of, onto, logged, issued_by, issued, grant_by, granted}
use Rattle.demands.specs.Demand3.{Stands, takes, Tame, InOrder, Path, went, Goes, Demand3}
use Rattle.wrong_boxes.specs.Wrong.{TakesFrom, GrantsTaken}
use Rattle.demands_met.proofs.Logged.{granted_more, issued_now, issued_before}
use Rattle.demands_met.proofs.Follows.{path_order, Between, path_between, onto_append, Gone, path_gone}

-- ---- units in the batch in which the place was taken

-- an item that issues grants nothing
issue_grants : (x : ℕ) (c : Command) (o : Outcome) → (issued_by c o ≡ 0 → ⊥) → grant_by x c o ≡ 0
unfolding issued_by grant_by
issue_grants x Unsupported o h = refl
issue_grants x Invalid o h = refl
issue_grants x (Create wanted) o h = refl
issue_grants x (Rekey target offset) o h = refl
issue_grants x (GetUsageAllocation target amount) o h = absurd (h refl)
issue_grants x (Activate target) o h = refl
issue_grants x (Revoke target code) o h = refl
issue_grants x (Destroy target) o h = refl
issue_grants x (GetAttributes target) o h = refl
issue_grants x (Get target) o h = refl
issue_grants x (Locate name) o h = refl

-- whoever stood at a place that is taken is gone
module _ {n : ℕ} (log : List Event) (t u : List ℕ) (ev : Event) (tame : Tame n ev t u) (before : InOrder n log t) (after : InOrder n (ev ∷ log) u)
    (x i : ℕ) (z : x ≡ 0 → ⊥) (s : Stands n x t i) (taken : takes n ev t i ≡ true) where
  abbrev new : ℕ
  new = issued_by (command_of ev) ev.answer.outcome

  issues : new ≡ 0 → ⊥
  issues e = true≢false (sym (and_l (not (eqb new 0)) (is_at i (new_place n t)) taken) ∙ ap not (eq-eqb new 0 e))

  once : issued x log ≡ 1
  once = before.known x i z s

  not_anew : new ≡ x → ⊥
  not_anew e = omega (arith, issued_now x ev log e, after.once x z, once)

  -- the place that is taken is the only one that had its serial
  elsewhere : (j : ℕ) → Stands n x u j → (b : Bool) → takes n ev t j ≡ b → ⊥
  elsewhere j r true e = not_anew (sym (tame.taken j r.below e).serial ∙ r.serial)
  elsewhere j r false e =
      let same : serial_at t j ≡ x = sym (tame.kept j r.below e) ∙ r.serial in
      let q : j ≡ i = (sound_is n t before.stays_sound).distinct j i r.below s.below (λ k. z (sym same ∙ k)) (same ∙ sym s.serial) in
      true≢false (sym taken ∙ ap (takes n ev t) (sym q) ∙ e)

  taken_gone : Gone n x (granted x log) (ev ∷ log) u
  taken_gone = record {
    once = omega (arith, issued_before x ev log not_anew, once);
    away = λ j r. elsewhere j r (takes n ev t j) refl;
    same = omega (arith, granted_more x ev log, issue_grants x (command_of ev) ev.answer.outcome issues);
  }

-- so it has the same units behind the whole call
path_taken : {n : ℕ} (log events : List Event) (t v : List ℕ) (ev : Event) (x i : ℕ) → InOrder n log t → Path n log t (ev ∷ events) v → (x ≡ 0 → ⊥) → Stands n x t i → takes n ev t i ≡ true
    → granted x (onto (ev ∷ events) log) ≡ granted x log
unfolding onto
path_taken log events t v ev x i before (went _ u tame after rest) z s taken = (path_gone x (granted x log) z rest (taken_gone log t u ev tame before after x i z s taken)).same

-- no box that grants units in such a batch meets demand 3
pub grants_taken : (B : Box) → GrantsTaken B → Demand3 B → ⊥
unfolding logged
grants_taken B g d = g.more (ap (λ (events : List Event). granted g.x (onto events g.log)) g.events_are ∙ ap (granted g.x) (onto_append g.before (g.taker ∷ g.later) g.log) ∙ same_units)
  where
    going : Goes g.places g.log g.c g.e
    going = (d g.places g.some_count).goes g.log g.t g.run g.c g.e g.same g.lent g.left

    path : Path g.places g.log going.start (g.before ++ (g.taker ∷ g.later)) g.e.table
    path = subst (λ (events : List Event). Path g.places g.log going.start events g.e.table) g.events_are going.path

    between : Between g.places g.log going.start g.before (g.taker ∷ g.later) g.e.table
    between = path_between g.before (g.taker ∷ g.later) path

    from : TakesFrom g.places g.x g.taker between.table
    from = g.taken going.start between.table going.opens between.there

    same_units : granted g.x (onto (g.taker ∷ g.later) (onto g.before g.log)) ≡ granted g.x (onto g.before g.log)
    same_units =
        path_taken (onto g.before g.log) g.later between.table g.e.table g.taker g.x from.place
        (path_order between.there going.order) between.on g.known from.stood from.taken
