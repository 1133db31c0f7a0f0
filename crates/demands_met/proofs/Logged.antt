-- Counts, serials and the log, kept in step: an invariant of the log and the table, over one item, a batch and a run.
-- Assumes nothing.
use Rattle.std.specs.Prelude.{Some}
use Prim.Native.Nat.{ℕ, suc, ◌+◌, ◌≤◌, ◌<◌}
use native.Mathlib.Omega.{arith}
use native.Mathlib.Decide.{ℕ_discrete}
use mathlib.Core.Path.{◌≡◌, refl, sym, ap, subst, ◌∙◌}
use mathlib.Core.Logic.{⊎_elim}
use mathlib.Core.List.{List, ◌∷◌}
use borrow.Author.Tests.{eq-eqb, ne_eqb}
use Rattle.octets.proofs.If.{ifb_true, ifb_false}
use Rattle.table.specs.declared.Record.{Record}
use Rattle.table.specs.Records.{place_at, last_serial}
use Rattle.search.specs.Search.{find}
use Rattle.table.proofs.Places.{serial_is}
use Rattle.search.proofs.Finds.{find_below, find_serial, find_nonzero}
use Rattle.keeps.proofs.Keeps.{Held, facts}
use Rattle.payload.specs.declared.Command.{Command}
use Rattle.payload.specs.declared.Command.TheVariants.{Unsupported, Invalid, Create, Rekey, GetUsageAllocation, Activate, Revoke, Destroy, GetAttributes, Get, Locate}
use Rattle.plans.specs.declared.Outcome.{Outcome}
use Rattle.plans.specs.Plans.{Did}
use Rattle.act.specs.Act.{sought}
use Rattle.demands.specs.Log.{Event, command_of, issued_by, issues, issued, grant_by, granted, limit_by, limit}
use Rattle.demands_met.proofs.Counted.{Old, New, Counted, begins_with, Counts}

-- ---- one event more

module _ (x : ℕ) (e : Event) (log : List Event) where
  pub granted_more : granted x (e ∷ log) ≡ grant_by x (command_of e) e.answer.outcome + granted x log
  unfolding granted
  granted_more = refl

  module _ (is : issued_by (command_of e) e.answer.outcome ≡ x) where
    pub issued_now : issued x (e ∷ log) ≡ suc (issued x log)
    unfolding issued
    issued_now = ifb_true (issues x e) (suc (issued x log)) (issued x log) (eq-eqb _ x is)

    pub limit_now : limit x (e ∷ log) ≡ limit_by e (command_of e) (λ y. limit y log)
    unfolding limit
    limit_now = ifb_true (issues x e) (limit_by e (command_of e) (λ y. limit y log)) (limit x log) (eq-eqb _ x is)

  module _ (is : issued_by (command_of e) e.answer.outcome ≡ x → ⊥) where
    pub issued_before : issued x (e ∷ log) ≡ issued x log
    unfolding issued
    issued_before = ifb_false (issues x e) (suc (issued x log)) (issued x log) (ne_eqb _ x is)

    pub limit_before : limit x (e ∷ log) ≡ limit x log
    unfolding limit
    limit_before = ifb_false (issues x e) (limit_by e (command_of e) (λ y. limit y log)) (limit x log) (ne_eqb _ x is)

-- ---- the invariant

-- what the log says of a record that stands
pub record Balanced (log : List Event) (r : Record) : Type 0 where
  pub count : granted r.serial log + r.count ≡ limit r.serial log
  pub total : r.total ≡ limit r.serial log
  pub once : issued r.serial log ≡ 1

pub record Inv (n : ℕ) (log : List Event) (t : List ℕ) : Type 0 where
  pub held : Held n t
  pub balanced : (i : ℕ) → i < n → ((place_at n t i).serial ≡ 0 → ⊥) → Balanced log (place_at n t i)
  pub within : (x : ℕ) → (x ≡ 0 → ⊥) → granted x log ≤ limit x log
  pub once : (x : ℕ) → (x ≡ 0 → ⊥) → issued x log ≤ 1
  pub later : (x : ℕ) → last_serial t < x → (issued x log ≡ 0) × (granted x log ≡ 0)

-- a record that stands has an issued serial
pub stands_issued : (n : ℕ) (t : List ℕ) → Held n t → (i : ℕ) → i < n → (place_at n t i).serial ≤ last_serial t
stands_issued n t h i l = subst (λ (k : ℕ). k ≤ last_serial t) (serial_is n t i) ((facts n t h).issued i l)

module _ (n : ℕ) (log : List Event) (t : List ℕ) (inv : Inv n log t) (e : Event) (did : Did) (same : e.answer.outcome ≡ did.outcome)
    (q : Counts n t e.held (command_of e) did) (after : Held n did.table) where
  abbrev s : ℕ
  s = issued_by (command_of e) e.answer.outcome

  abbrev g : ℕ → ℕ
  g x = grant_by x (command_of e) e.answer.outcome

  -- the total with which a new object begins is what the log says
  begun_is : s ≡ last_serial t + 1 → limit_by e (command_of e) (λ y. limit y log) ≡ begins_with n t e.held (command_of e) q.place
  unfolding limit_by begins_with
  begun_is i = by_command (command_of e) refl
    where
      by_command : (c : Command) → command_of e ≡ c → limit_by e c (λ y. limit y log) ≡ begins_with n t e.held c q.place
      by_command Unsupported d = refl
      by_command Invalid d = refl
      by_command (Create wanted) d = refl
      by_command (Rekey target offset) d = copied (q.copies target offset d (sym (ap (issued_by (command_of e)) same) ∙ i))
        where
          copied : find n t (sought e.held target) ≡ Some q.place → limit (sought e.held target) log ≡ (place_at n t q.place).total
          copied f =
              let x = sought e.held target in
              let is : (place_at n t q.place).serial ≡ x = sym (serial_is n t q.place) ∙ find_serial n t x q.place f in
              let b = inv.balanced q.place (find_below n t x q.place f) (λ z. find_nonzero n t x q.place f (sym is ∙ z)) in
              ap (λ (y : ℕ). limit y log) (sym is) ∙ sym b.total
      by_command (GetUsageAllocation target amount) d = refl
      by_command (Activate target) d = refl
      by_command (Revoke target code) d = refl
      by_command (Destroy target) d = refl
      by_command (GetAttributes target) d = refl
      by_command (Get target) d = refl
      by_command (Locate name) d = refl

  -- the counts, with what the event says in place of what was done
  counted : Counted n t did.table s g (begins_with n t e.held (command_of e) q.place)
  counted = subst (λ (o : Outcome). Counted n t did.table (issued_by (command_of e) o) (λ x. grant_by x (command_of e) o) (begins_with n t e.held (command_of e) q.place)) (sym same) q.counted

  -- what is issued is 0 or the next serial
  issues_next : (x : ℕ) → (x ≡ 0 → ⊥) → s ≡ x → x ≡ last_serial t + 1
  issues_next x z i = ⊎_elim (λ k. absurd (z (sym i ∙ k.0))) (λ k. sym i ∙ k.0) counted.issued

  -- what is granted was there
  grants_known : (x : ℕ) → last_serial t < x → g x ≡ 0
  grants_known x l =
      ⊎_elim (λ z. z) (λ h. absurd (let b : (place_at n t h.place).serial ≤ last_serial t = stands_issued n t inv.held h.place h.below in let k : (place_at n t h.place).serial ≡ x = h.serial in omega arith))
      (counted.granted x)

  balanced_after : (j : ℕ) → j < n → ((place_at n did.table j).serial ≡ 0 → ⊥) → Balanced (e ∷ log) (place_at n did.table j)
  balanced_after j l z = ⊎_elim old new (counted.places j l z)
    where
      r : Record
      r = place_at n did.table j

      x : ℕ
      x = r.serial

      old : Old n t g j r → Balanced (e ∷ log) r
      old o =
          let stood : (place_at n t j).serial ≡ 0 → ⊥ = λ k. z (sym o.serial ∙ k) in
          let b : Balanced log (place_at n t j) = inv.balanced j l stood in
          let known : x ≤ last_serial t = subst (λ (k : ℕ). k ≤ last_serial t) o.serial (stands_issued n t inv.held j l) in
          let no : s ≡ x → ⊥ = λ i. (let k : x ≡ last_serial t + 1 = issues_next x z i in omega arith) in
          let bc : granted x log + (place_at n t j).count ≡ limit x log = subst (λ (k : ℕ). granted k log + (place_at n t j).count ≡ limit k log) o.serial b.count in
          let bt : (place_at n t j).total ≡ limit x log = subst (λ (k : ℕ). (place_at n t j).total ≡ limit k log) o.serial b.total in
          let bo : issued x log ≡ 1 = subst (λ (k : ℕ). issued k log ≡ 1) o.serial b.once in
          let c : g x + r.count ≡ (place_at n t j).count = o.count in
          let m : granted x (e ∷ log) ≡ g x + granted x log = granted_more x e log in
          let lim : limit x (e ∷ log) ≡ limit x log = limit_before x e log no in
          record {
            count = omega arith;
            total = sym o.total ∙ bt ∙ sym lim;
            once = issued_before x e log no ∙ bo;
          }

      new : New t s (begins_with n t e.held (command_of e) q.place) r → Balanced (e ∷ log) r
      new w =
          let is : s ≡ x = w.issued ∙ sym w.serial in
          let beyond : last_serial t < x = let k : x ≡ last_serial t + 1 = w.serial in omega arith in
          let none : granted x log ≡ 0 = (inv.later x beyond).1 in
          let never : issued x log ≡ 0 = (inv.later x beyond).0 in
          let gone : g x ≡ 0 = grants_known x beyond in
          let m : granted x (e ∷ log) ≡ g x + granted x log = granted_more x e log in
          let lim : limit x (e ∷ log) ≡ begins_with n t e.held (command_of e) q.place = limit_now x e log is ∙ begun_is w.issued in
          let c : r.count ≡ begins_with n t e.held (command_of e) q.place = w.count in
          record {
            count = omega arith;
            total = w.total ∙ sym lim;
            once = issued_now x e log is ∙ ap suc never;
          }

  within_after : (x : ℕ) → (x ≡ 0 → ⊥) → granted x (e ∷ log) ≤ limit x (e ∷ log)
  within_after x z = elim (ℕ_discrete s x) [ yes i ↦ now i | no i ↦ before i ]
    where
      m : granted x (e ∷ log) ≡ g x + granted x log
      m = granted_more x e log

      now : s ≡ x → granted x (e ∷ log) ≤ limit x (e ∷ log)
      now i =
          let beyond : last_serial t < x = let k : x ≡ last_serial t + 1 = issues_next x z i in omega arith in
          let none : granted x log ≡ 0 = (inv.later x beyond).1 in
          let gone : g x ≡ 0 = grants_known x beyond in
          omega (arith, m)

      before : (s ≡ x → ⊥) → granted x (e ∷ log) ≤ limit x (e ∷ log)
      before i =
          let lim : limit x (e ∷ log) ≡ limit x log = limit_before x e log i in
          ⊎_elim (λ k. omega (arith, m, inv.within x z))
          (λ h.
          let b : Balanced log (place_at n t h.place) = inv.balanced h.place h.below (λ k. z (sym h.serial ∙ k)) in
          let bc : granted x log + (place_at n t h.place).count ≡ limit x log = subst (λ (k : ℕ). granted k log + (place_at n t h.place).count ≡ limit k log) h.serial b.count in
          let en : g x ≤ (place_at n t h.place).count = h.enough in
          omega (arith, m))
          (counted.granted x)

  once_after : (x : ℕ) → (x ≡ 0 → ⊥) → issued x (e ∷ log) ≤ 1
  once_after x z = elim (ℕ_discrete s x) [
    | yes i ↦ (let never : issued x log ≡ 0 = (inv.later x (let k : x ≡ last_serial t + 1 = issues_next x z i in omega arith)).0 in omega (arith, issued_now x e log i))
    | no i ↦ omega (arith, issued_before x e log i, inv.once x z)
  ]

  -- the last serial does not fall, and what was issued is at most the last
  last_after : (last_serial t ≤ last_serial did.table) × (s ≤ last_serial did.table)
  last_after = ⊎_elim (λ k. (omega (arith, k.1), omega (arith, k.0))) (λ k. (omega (arith, k.1), omega (arith, k.0, k.1))) counted.issued

  later_after : (x : ℕ) → last_serial did.table < x → (issued x (e ∷ log) ≡ 0) × (granted x (e ∷ log) ≡ 0)
  later_after x l =
      let beyond : last_serial t < x = omega (arith, last_after.0) in
      let no : s ≡ x → ⊥ = λ i. omega (arith, last_after.1) in
      let gone : g x ≡ 0 = grants_known x beyond in
      (issued_before x e log no ∙ (inv.later x beyond).0, omega (arith, granted_more x e log, (inv.later x beyond).1))

  -- one item more
  pub inv_event : Inv n (e ∷ log) did.table
  inv_event = record { held = after; balanced = balanced_after; within = within_after; once = once_after; later = later_after }
