-- Names by the log: in every box that meets demand 3 a key has the name that the log gives it.
-- Assumes nothing.
use Rattle.std.specs.Prelude.{Option, None, Some}
use Prim.Native.Nat.{ℕ}
use native.Mathlib.Omega.{arith}
use native.Mathlib.Decide.{ℕ_discrete}
use mathlib.Core.Path.{◌≡◌, refl, sym, ap, ap₂, subst, ◌∙◌}
use mathlib.Core.Bool.{Bool, true, false, not, false≢true}
use mathlib.Core.List.{List, ◌∷◌}
use lib.Dec.{eqb}
use borrow.Author.Tests.{eqb-true, eq-eqb, ne_eqb}
use Rattle.octets.specs.If.{ifb}
use Rattle.octets.proofs.If.{ifb_true, ifb_false, on_bool}
use Rattle.octets.proofs.Bools.{and_no, and_second}
use Rattle.names.specs.declared.Name.{Name}
use Rattle.names.specs.Names.{no_name}
use Rattle.table.specs.Layout.{places_ok}
use Rattle.table.specs.declared.Record.{Record}
use Rattle.table.specs.Records.{place_at, serial_at}
use Rattle.table.proofs.Blank.{serial_blank}
use Rattle.search.specs.Search.{find}
use Rattle.search.proofs.Finds.{find_is, find_serial, find_nonzero}
use Rattle.soundness.specs.Checked.{is_at}
use Rattle.soundness.proofs.SoundIs.{sound_is}
use Rattle.changes.specs.Records.{in_state}
use Rattle.payload.specs.declared.Command.{Command}
use Rattle.payload.specs.declared.Command.TheVariants.{Unsupported, Invalid, Create, Rekey, GetUsageAllocation, Activate, Revoke, Destroy, GetAttributes, Get, Locate}
use Rattle.plans.specs.declared.Outcome.{Outcome}
use Rattle.plans.specs.declared.Outcome.TheVariants.{Failed, Created, Done, Showed, Got, Located, Undone}
use Rattle.act.specs.Act.{sought}
use Rattle.demands.specs.Box.{Call, Box}
use Rattle.demands.specs.Log.{Event, command_of, issued_by, onto, logged, name_by, heir_from, replaced_by, name_in}
use Rattle.demands.specs.Demand3.{Run, begins, calls, Stands, named_by, asks_heir, is_made, name_born, found_in, takes, unnames, Tame, InOrder, Path, arrived, went, Opens, accepted, refused, Demand3Of}
use Rattle.demands_met.proofs.Logged.{issued_now}
use Rattle.demands_met.proofs.Follows.{due_serial}

-- every key that stands has the name that the log gives it
pub record Told (n : ℕ) (log : List Event) (t : List ℕ) : Type 0 where
  pub told : (x i : ℕ) → (x ≡ 0 → ⊥) → Stands n x t i → (place_at n t i).name ≡ name_in x log

-- what issues an identifier is made
issued_made : (c : Command) (o : Outcome) → (issued_by c o ≡ 0 → ⊥) → is_made o ≡ true
unfolding issued_by is_made
issued_made (Create wanted) (Created serial) h = refl
issued_made (Create wanted) (Failed reason) h = absurd (h refl)
issued_made (Create wanted) (Done serial) h = refl
issued_made (Create wanted) (Showed shown) h = refl
issued_made (Create wanted) (Got key) h = refl
issued_made (Create wanted) (Located serial) h = refl
issued_made (Create wanted) Undone h = absurd (h refl)
issued_made (Rekey target offset) (Done serial) h = refl
issued_made (Rekey target offset) (Failed reason) h = absurd (h refl)
issued_made (Rekey target offset) (Created serial) h = refl
issued_made (Rekey target offset) (Showed shown) h = refl
issued_made (Rekey target offset) (Got key) h = refl
issued_made (Rekey target offset) (Located serial) h = refl
issued_made (Rekey target offset) Undone h = absurd (h refl)
issued_made Unsupported o h = absurd (h refl)
issued_made Invalid o h = absurd (h refl)
issued_made (GetUsageAllocation target amount) o h = absurd (h refl)
issued_made (Activate target) o h = absurd (h refl)
issued_made (Revoke target code) o h = absurd (h refl)
issued_made (Destroy target) o h = absurd (h refl)
issued_made (GetAttributes target) o h = absurd (h refl)
issued_made (Get target) o h = absurd (h refl)
issued_made (Locate name) o h = absurd (h refl)

-- a search that found a place
at_found : (i : ℕ) (f : Option ℕ) → is_at i f ≡ true → f ≡ Some i
unfolding is_at
at_found i (Some k) h = ap Some (eqb-true k i h)
at_found i None h = absurd (false≢true h)

-- a search for y finds no place where x stands
not_there : (n : ℕ) (t : List ℕ) (x y j : ℕ) → (y ≡ x → ⊥) → serial_at t j ≡ x → (f : Option ℕ) → find n t y ≡ f → is_at j f ≡ false
unfolding is_at
not_there n t x y j d s None e = refl
not_there n t x y j d s (Some i) e = on_bool (eqb i j) (λ h. absurd (d (sym (find_serial n t y i e) ∙ ap (serial_at t) (eqb-true i j h) ∙ s))) (λ h. h)

module _ {n : ℕ} (log : List Event) (t u : List ℕ) (ev : Event) (tame : Tame n ev t u) (order : InOrder n log t) (after : InOrder n (ev ∷ log) u) (names : Told n log t) where
  abbrev o : Outcome
  o = ev.answer.outcome

  -- the name of a new object
  begun_name : (x : ℕ) → (x ≡ 0 → ⊥) → (c : Command) → command_of ev ≡ c → issued_by c o ≡ x → name_born c (found_in n t (find n t (named_by ev.held c))) ≡ name_by ev c (λ y. name_in y log)
  unfolding name_born name_by issued_by named_by asks_heir found_in
  begun_name x z (Create wanted) e is = refl
  begun_name x z (Rekey target offset) e is = moved
    where
      y : ℕ
      y = sought ev.held target

      nonzero : issued_by (Rekey target offset) o ≡ 0 → ⊥
      nonzero q = z (sym is ∙ q)

      moved : (found_in n t (find n t (named_by ev.held (Rekey target offset)))).name ≡ name_in y log
      moved =
          let r = tame.renews (issued_made (Rekey target offset) o nonzero) (ap asks_heir e) in
          let found : find n t y ≡ Some r.place = at_found r.place _ (sym (ap (λ (c : Command). is_at r.place (find n t (named_by ev.held c))) e) ∙ r.named) in
          ap (λ (f : Option ℕ). (found_in n t f).name) found
          ∙ names.told y r.place (find_nonzero n t y r.place found) (record { below = r.below; serial = find_serial n t y r.place found })
  begun_name x z Unsupported e is = absurd (z (sym is))
  begun_name x z Invalid e is = absurd (z (sym is))
  begun_name x z (GetUsageAllocation target amount) e is = absurd (z (sym is))
  begun_name x z (Activate target) e is = absurd (z (sym is))
  begun_name x z (Revoke target code) e is = absurd (z (sym is))
  begun_name x z (Destroy target) e is = absurd (z (sym is))
  begun_name x z (GetAttributes target) e is = absurd (z (sym is))
  begun_name x z (Get target) e is = absurd (z (sym is))
  begun_name x z (Locate name) e is = absurd (z (sym is))

  -- where x stands, the item takes its name exactly if it replaced x
  same_test : (x j : ℕ) → (x ≡ 0 → ⊥) → Stands n x t j → unnames n ev t j ≡ eqb (replaced_by ev) x
  unfolding is_at
  same_test x j z s = on_bool (eqb k 0)
      (λ h. and_no (not (eqb k 0)) _ (ap not h) ∙ sym (ap (λ (q : ℕ). eqb q x) (ifb_true (eqb k 0) 0 y h) ∙ ne_eqb 0 x (λ q. z (sym q))))
      (λ h. and_second (not (eqb k 0)) _ (ap not h) ∙ by_which ∙ sym (ap (λ (q : ℕ). eqb q x) (ifb_false (eqb k 0) 0 y h)))
    where
      k : ℕ
      k = issued_by (command_of ev) o

      y : ℕ
      y = heir_from ev.held (command_of ev)

      there : find n t x ≡ Some j
      there = find_is n t x j z s.below s.serial (λ l h q. absurd (let w : l ≡ j = (sound_is n t order.stays_sound).distinct l j (let b = s.below in omega arith) s.below (λ v. z (sym q ∙ v)) (q ∙ sym s.serial) in omega arith))

      by_which : is_at j (find n t y) ≡ eqb y x
      by_which = elim (ℕ_discrete y x) [
        | yes e ↦ ap (λ (q : ℕ). is_at j (find n t q)) e ∙ ap (is_at j) there ∙ eq-eqb j j refl ∙ sym (eq-eqb y x e)
        | no d ↦ not_there n t x y j d s.serial (find n t y) refl ∙ sym (ne_eqb y x d)
      ]

  pub item_told : Told n (ev ∷ log) u
  unfolding name_in
  item_told = record { told = λ x j z s. on_bool (takes n ev t j) (by_taken x j z s) (by_kept x j z s) }
    where
      by_taken : (x j : ℕ) → (x ≡ 0 → ⊥) → Stands n x u j → takes n ev t j ≡ true → (place_at n u j).name ≡ name_in x (ev ∷ log)
      by_taken x j z s y =
          let new = tame.taken j s.below y in
          let is : issued_by (command_of ev) o ≡ x = sym new.serial ∙ s.serial in
          new.name ∙ begun_name x z (command_of ev) refl is ∙ sym (ifb_true (eqb (issued_by (command_of ev) o) x) _ _ (eq-eqb _ x is))

      by_kept : (x j : ℕ) → (x ≡ 0 → ⊥) → Stands n x u j → takes n ev t j ≡ false → (place_at n u j).name ≡ name_in x (ev ∷ log)
      by_kept x j z s miss =
          let stood : Stands n x t j = record { below = s.below; serial = sym (tame.kept j s.below miss) ∙ s.serial } in
          let anew : issued_by (command_of ev) o ≡ x → ⊥ = λ e. omega (arith, issued_now x ev log e, after.once x z, order.known x j z stood) in
          tame.called j s.below miss
          ∙ ap₂ (λ (b : Bool) (m : Name). ifb b no_name m) (same_test x j z stood) (names.told x j z stood)
          ∙ sym (ifb_false (eqb (issued_by (command_of ev) o) x) _ _ (ne_eqb _ x anew))

pub path_told : {n : ℕ} {log events : List Event} {t v : List ℕ} → Path n log t events v → InOrder n log t → Told n log t → Told n (onto events log) v
unfolding onto
path_told arrived order names = names
path_told {log = log} {t = t} (went ev u tame after rest) order names = path_told rest after (item_told log t u ev tame order after names)

pub opens_told : {n : ℕ} {log : List Event} {c : Call} {number : ℕ} {start : List ℕ} → Opens n c number start → Told n log c.table → Told n log start
unfolding in_state
opens_told {n} {c = c} (accepted {start} due) names = record {
  told = λ x j z s.
      ap (λ (r : Record). r.name) (due.others j s.below)
      ∙ names.told x j z (record { below = s.below; serial = sym (due_serial c.table start due j s.below) ∙ s.serial });
}
opens_told (refused h) names = names

module _ (B : Box) (n : ℕ) (ok : places_ok n ≡ true) (d : Demand3Of n B) where
  pub run_told : {log : List Event} {t : List ℕ} → Run n B log t → Told n log t
  unfolding logged
  run_told begins = record { told = λ x i z s. absurd (z (sym s.serial ∙ serial_blank n i s.below)) }
  run_told (calls {log} {t} c e r same lent b) =
      let g = d.goes log t r c e same lent b in
      path_told g.path g.order (opens_told g.opens (subst (Told n log) (sym same) (run_told r)))
