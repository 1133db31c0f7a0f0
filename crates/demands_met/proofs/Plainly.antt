-- What demand 3 gives in 00's own words, for the runs of any box that meets it.
-- Assumes nothing.
use Prim.Native.Nat.{ℕ, ◌≤◌}
use native.Mathlib.Omega.{arith}
use native.Mathlib.Decide.{ℕ_discrete}
use mathlib.Core.Path.{◌≡◌, refl, sym, ap, subst, ◌∙◌}
use mathlib.Core.Bool.{Bool, true, false, true≢false}
use mathlib.Core.List.{List, ◌∷◌}
use lib.Dec.{eqb}
use borrow.Author.Tests.{eqb-true}
use Rattle.octets.proofs.If.{ifb_false, on_bool}
use Rattle.table.specs.Layout.{places_ok}
use Rattle.table.specs.Records.{place_at}
use Rattle.search.specs.Search.{is_destroyed}
use Rattle.soundness.proofs.SoundIs.{sound_is}
use Rattle.payload.specs.declared.Command.{Command}
use Rattle.payload.specs.declared.Command.TheVariants.{Unsupported, Invalid, Create, Rekey, GetUsageAllocation, Activate, Revoke, Destroy, GetAttributes, Get, Locate}
use Rattle.plans.specs.declared.Outcome.{Outcome}
use Rattle.plans.specs.declared.Outcome.TheVariants.{Failed, Created, Done, Showed, Got, Located, Undone}
use Rattle.demands.specs.Box.{Call, Box, counted}
use Rattle.demands.specs.Log.{Event, command_of, issued_by, issued, grant_by, granted, onto, logged}
use Rattle.demands.specs.Demand3.{Run, Later, here, further, Stands, asks_units, asks_name, is_made, carries, code_of, takes, Tame, InOrder, Path, arrived, went, Opens, accepted, refused, Demand3Of, Demand3}
use Rattle.demands.specs.Plain.{Ways, still, by_item, by_date, PlainOf, Plain}
use Rattle.demands_met.proofs.Logged.{granted_more, issued_now, issued_before}
use Rattle.demands_met.proofs.Ways.{ways_dead}
use Rattle.demands_met.proofs.Called.{run_told}
use Rattle.demands_met.proofs.Handed.{run_handed}
use Rattle.demands_met.proofs.Follows.{due_serial, later_run, in_order_lem, gone_for_good}

-- ---- an identifier that stood once, at place i in a state

-- where it stands, it stands there, in a state that this one led to
record Since (n x i from : ℕ) (log : List Event) (t : List ℕ) : Type 0 where
  once : 1 ≤ issued x log
  there : (j : ℕ) → Stands n x t j → (j ≡ i) × Ways from (place_at n t j).state

-- an answer that grants units to x
record Grants (c : Command) (o : Outcome) (x : ℕ) : Type 0 where
  asks : asks_units c ≡ true
  issues : issued_by c o ≡ 0
  made : is_made o ≡ true
  carried : carries o ≡ x
  nameless : asks_name c ≡ false

grants_is : (x : ℕ) (c : Command) (o : Outcome) → (grant_by x c o ≡ 0 → ⊥) → Grants c o x
unfolding grant_by asks_units issued_by is_made carries asks_name
grants_is x (GetUsageAllocation target amount) (Done serial) h =
    on_bool (eqb serial x)
    (λ e. record { asks = refl; issues = refl; made = refl; carried = eqb-true serial x e; nameless = refl })
    (λ e. absurd (h (ifb_false (eqb serial x) amount 0 e)))
grants_is x (GetUsageAllocation target amount) (Failed reason) h = absurd (h refl)
grants_is x (GetUsageAllocation target amount) (Created serial) h = absurd (h refl)
grants_is x (GetUsageAllocation target amount) (Showed shown) h = absurd (h refl)
grants_is x (GetUsageAllocation target amount) (Got key) h = absurd (h refl)
grants_is x (GetUsageAllocation target amount) (Located serial) h = absurd (h refl)
grants_is x (GetUsageAllocation target amount) Undone h = absurd (h refl)
grants_is x Unsupported o h = absurd (h refl)
grants_is x Invalid o h = absurd (h refl)
grants_is x (Create wanted) o h = absurd (h refl)
grants_is x (Rekey target offset) o h = absurd (h refl)
grants_is x (Activate target) o h = absurd (h refl)
grants_is x (Revoke target code) o h = absurd (h refl)
grants_is x (Destroy target) o h = absurd (h refl)
grants_is x (GetAttributes target) o h = absurd (h refl)
grants_is x (Get target) o h = absurd (h refl)
grants_is x (Locate name) o h = absurd (h refl)

module _ {n : ℕ} (x i from : ℕ) (z : x ≡ 0 → ⊥) where
  -- an item moves it by a listed transition, if at all
  item_since : (log : List Event) (t u : List ℕ) (ev : Event) → Tame n ev t u → InOrder n (ev ∷ log) u → Since n x i from log t → Since n x i from (ev ∷ log) u
  item_since log t u ev tame after s = record { once = omega (arith, before, s.once); there = λ j h. by_taking j h (takes n ev t j) refl }
    where
      -- it is not issued again
      anew : issued_by (command_of ev) ev.answer.outcome ≡ x → ⊥
      anew e = omega (arith, issued_now x ev log e, after.once x z, s.once)

      before : issued x (ev ∷ log) ≡ issued x log
      before = issued_before x ev log anew

      by_taking : (j : ℕ) → Stands n x u j → (b : Bool) → takes n ev t j ≡ b → (j ≡ i) × Ways from (place_at n u j).state
      by_taking j h true e = absurd (anew (sym (tame.taken j h.below e).serial ∙ h.serial))
      by_taking j h false e =
          let stood : Stands n x t j = record { below = h.below; serial = sym (tame.kept j h.below e) ∙ h.serial } in
          let w = s.there j stood in (
            w.0,
            elim (ℕ_discrete (place_at n u j).state (place_at n t j).state) [
              | yes same ↦ subst (Ways from) (sym same) w.1
              | no other ↦ by_item ev.asked.operation (code_of (command_of ev)) w.1 (tame.moves j h.below e other).way
            ],
          )

  -- and grants it nothing where it is destroyed
  item_idle : (log : List Event) (t u : List ℕ) (ev : Event) → Tame n ev t u → Since n x i from log t → is_destroyed from ≡ true → granted x (ev ∷ log) ≡ granted x log
  item_idle log t u ev tame s d = omega (arith, granted_more x ev log, none)
    where
      none : grant_by x (command_of ev) ev.answer.outcome ≡ 0
      none = elim (ℕ_discrete (grant_by x (command_of ev) ev.answer.outcome) 0) [
        | yes e ↦ e
        | no h ↦ (let g = grants_is x (command_of ev) ev.answer.outcome h in
            let a = tame.about g.made g.issues g.nameless in
            let stood : Stands n x t a.place = record { below = a.below; serial = sym a.serial ∙ g.carried } in
            let dead = ways_dead (s.there a.place stood).1 d in
            absurd (true≢false (sym dead ∙ ap is_destroyed (tame.spends a.place a.below a.named g.made g.asks))))
      ]

  path_since : {log events : List Event} {t v : List ℕ} → Path n log t events v → Since n x i from log t → Since n x i from (onto events log) v
  unfolding onto
  path_since arrived s = s
  path_since {log} {t = t} (went ev u tame after rest) s = path_since rest (item_since log t u ev tame after s)

  path_idle : {log events : List Event} {t v : List ℕ} → Path n log t events v → Since n x i from log t → is_destroyed from ≡ true → granted x (onto events log) ≡ granted x log
  unfolding onto
  path_idle arrived s d = refl
  path_idle {log} {t = t} (went ev u tame after rest) s d = path_idle rest (item_since log t u ev tame after s) d ∙ item_idle log t u ev tame s d

  -- what is due before the first item moves it by a date
  opens_since : {log : List Event} {c : Call} {number : ℕ} {start : List ℕ} → Opens n c number start → Since n x i from log c.table → Since n x i from log start
  opens_since {c = c} (accepted {start} due) s = record { once = s.once; there = moved }
    where
      moved : (j : ℕ) → Stands n x start j → (j ≡ i) × Ways from (place_at n start j).state
      moved j h =
          let w = s.there j (record { below = h.below; serial = sym (due_serial c.table start due j h.below) ∙ h.serial }) in (
            w.0,
            elim (ℕ_discrete (place_at n start j).state (place_at n c.table j).state) [
              | yes same ↦ subst (Ways from) (sym same) w.1
              | no other ↦ by_date (counted c) (place_at n c.table j) w.1 (due.moves j h.below other)
            ],
          )
  opens_since (refused h) s = s

-- ---- along a run

module _ (B : Box) (n : ℕ) (ok : places_ok n ≡ true) (d : Demand3Of n B) where
  -- an identifier that stands has stood since then
  stands_since : {log : List Event} {t : List ℕ} → Run n B log t → (x i : ℕ) → (x ≡ 0 → ⊥) → Stands n x t i → Since n x i (place_at n t i).state log t
  stands_since {log} {t} r x i z s = record { once = omega (arith, order.known x i z s); there = same }
    where
      order : InOrder n log t
      order = in_order_lem B n ok d r

      same : (j : ℕ) → Stands n x t j → (j ≡ i) × Ways (place_at n t i).state (place_at n t j).state
      same j h =
          let q : j ≡ i = (sound_is n t order.stays_sound).distinct j i h.below s.below (λ k. z (sym h.serial ∙ k)) (h.serial ∙ sym s.serial) in
          (q, subst (λ (k : ℕ). Ways (place_at n t i).state (place_at n t k).state) (sym q) still)

  module _ (x i from : ℕ) (z : x ≡ 0 → ⊥) where
    later_since : {log : List Event} {t : List ℕ} {log' : List Event} {t' : List ℕ} → Run n B log t → Since n x i from log t → Later n B log t log' t' → Since n x i from log' t'
    unfolding logged
    later_since r s here = s
    later_since r s (further {log'} {t'} c e l same lent b) =
        let goes = d.goes log' t' (later_run r l) c e same lent b in
        path_since x i from z goes.path (opens_since x i from z goes.opens (subst (Since n x i from log') (sym same) (later_since r s l)))

    later_idle : {log : List Event} {t : List ℕ} {log' : List Event} {t' : List ℕ} → Run n B log t → Since n x i from log t → is_destroyed from ≡ true → Later n B log t log' t' → granted x log' ≡ granted x log
    unfolding logged
    later_idle r s dead here = refl
    later_idle r s dead (further {log'} {t'} c e l same lent b) =
        let goes = d.goes log' t' (later_run r l) c e same lent b in
        path_idle x i from z goes.path (opens_since x i from z goes.opens (subst (Since n x i from log') (sym same) (later_since r s l))) dead ∙ later_idle r s dead l

  plain_of : PlainOf n B
  plain_of = record {
    counted = λ r x i z s. (in_order_lem B n ok d r).balance x i z s;
    total_kept = λ r x i z s. (in_order_lem B n ok d r).total x i z s;
    no_more = λ r x z. (in_order_lem B n ok d r).within x z;
    nothing_more = λ {log} {log'} {t} {t'} r l x z o away. gone_for_good B n ok d log t r x z o away log' t' l;
    once = λ r x z. (in_order_lem B n ok d r).once x z;
    states = λ {t = t} r l x i j z s h. (later_since x i (place_at n t i).state z r (stands_since r x i z s) l).there j h;
    wiped = λ r i low dead. (in_order_lem B n ok d r).wiped i low dead;
    named = λ r x i z s. (run_told B n ok d r).told x i z s;
    dead_as_told = λ r x i z s w. (in_order_lem B n ok d r).destroyed x i z s w;
    unheard = λ r x z. (in_order_lem B n ok d r).dead x z;
    same_key = λ r x z. (run_handed B n ok d r).one x z;
    own_key = λ r x i z s live. (run_handed B n ok d r).own x i z s live;
    stays_dead = λ {t = t} r l x i z s dead.
        let from = (place_at n t i).state in
        let since = stands_since r x i z s in
        (λ j h. ways_dead ((later_since x i from z r since l).there j h).1 dead, later_idle x i from z r since dead l);
  }

-- every box that meets demand 3 has it
pub plainly : (B : Box) → Demand3 B → Plain B
plainly B d n ok = plain_of B n ok (d n ok)
