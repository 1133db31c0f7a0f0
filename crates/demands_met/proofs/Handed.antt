-- Keys by the log: in every box that meets demand 3 all that is handed out under an identifier is one key, that of its record.
-- Assumes nothing.
use Prim.Native.Nat.{ℕ}
use native.Mathlib.Omega.{arith}
use native.Mathlib.Decide.{ℕ_discrete}
use mathlib.Core.Path.{◌≡◌, sym, ap, subst, ◌∙◌}
use mathlib.Core.Bool.{true, false, true≢false}
use mathlib.Core.List.{List, ◌∷◌}
use Rattle.octets.proofs.If.{on_bool}
use Rattle.table.specs.Layout.{places_ok}
use Rattle.table.specs.Records.{place_at, blank}
use Rattle.search.specs.Search.{is_destroyed}
use Rattle.soundness.proofs.SoundIs.{sound_is}
use Rattle.changes.specs.Records.{in_state}
use Rattle.plans.specs.declared.Key.{Key}
use Rattle.plans.specs.declared.Outcome.{Outcome}
use Rattle.plans.specs.declared.Outcome.TheVariants.{Got}
use Rattle.plans.specs.Plans.{key_of}
use Rattle.demands.specs.Box.{Call, Box, counted}
use Rattle.demands.specs.Log.{Event, command_of, issued_by, issued, handed_by, onto, logged}
use Rattle.demands.specs.Demand3.{Run, begins, calls, Stands, names, takes, code_of, Tame, InOrder, Path, arrived, went, Opens, accepted, refused, Demand3Of}
use Rattle.demands.specs.Plain.{still, by_item, by_date, HandsOut}
use Rattle.demands_met.proofs.Logged.{issued_now, issued_before}
use Rattle.demands_met.proofs.Dead.{asks_not, handed_is}
use Rattle.demands_met.proofs.Follows.{due_serial}
use Rattle.demands_met.proofs.Ways.{ways_dead}

-- what was handed out, by the log and the table
pub record Handed (n : ℕ) (log : List Event) (t : List ℕ) : Type 0 where
  -- the key of a record that stands and is not destroyed
  pub own : (x i : ℕ) → (x ≡ 0 → ⊥) → Stands n x t i → is_destroyed (place_at n t i).state ≡ false → HandsOut x (key_of (place_at n t i)) log
  -- one key for each identifier
  pub one : (x : ℕ) → (x ≡ 0 → ⊥) → (key : Key) × HandsOut x key log
  -- and none for what was not issued
  pub unborn : (x : ℕ) → (x ≡ 0 → ⊥) → issued x log ≡ 0 → (key : Key) → HandsOut x key log

module _ {n : ℕ} (log : List Event) (t u : List ℕ) (ev : Event) (tame : Tame n ev t u) (order : InOrder n log t) (after : InOrder n (ev ∷ log) u) (was : Handed n log t) where
  abbrev o : Outcome
  o = ev.answer.outcome

  got_handed : (k : Key) → o ≡ Got k → handed_by o ≡ k.serial
  unfolding handed_by
  got_handed k e = ap handed_by e

  -- an item that hands out something under x names the record that has x, which is not destroyed
  record Out (x : ℕ) : Type 0 where
    pub place : ℕ
    pub stood : Stands n x t place
    pub named : names n ev t place ≡ true
    pub live : is_destroyed (place_at n t place).state ≡ false

  out : (x : ℕ) → (x ≡ 0 → ⊥) → handed_by o ≡ x → Out x
  out x z h =
      let asks = tame.hands (λ q. z (sym h ∙ q)) in
      let g = handed_is (command_of ev) o x z h in
      let a = tame.about g.succeeded g.issues (asks_not (command_of ev) asks) in
      record {
        place = a.place;
        stood = record { below = a.below; serial = sym a.serial ∙ g.carried };
        named = a.named;
        live = tame.alive a.place a.below a.named g.succeeded asks;
      }

  -- and hands out the key of that record
  here : (x j : ℕ) → (x ≡ 0 → ⊥) → Stands n x t j → (k : Key) → o ≡ Got k → k.serial ≡ x → k ≡ key_of (place_at n t j)
  here x j z s k e q =
      let g = out x z (got_handed k e ∙ q) in
      let same : g.place ≡ j = (sound_is n t order.stays_sound).distinct g.place j g.stood.below s.below (λ w. z (sym g.stood.serial ∙ w)) (g.stood.serial ∙ sym s.serial) in
      tame.gives k e g.place g.stood.below g.named ∙ ap (λ (i : ℕ). key_of (place_at n t i)) same

  -- nothing was handed out of what was not issued
  nothing : (x : ℕ) → (x ≡ 0 → ⊥) → issued x log ≡ 0 → (key k : Key) → o ≡ Got k → k.serial ≡ x → k ≡ key
  nothing x z never key k e q =
      let g = out x z (got_handed k e ∙ q) in
      absurd (omega (arith, never, order.known x g.place z g.stood))

  own_after : (x j : ℕ) → (x ≡ 0 → ⊥) → Stands n x u j → is_destroyed (place_at n u j).state ≡ false → HandsOut x (key_of (place_at n u j)) (ev ∷ log)
  own_after x j z s live = on_bool (takes n ev t j) new kept
    where
      new : takes n ev t j ≡ true → HandsOut x (key_of (place_at n u j)) (ev ∷ log)
      new y =
          let is : issued_by (command_of ev) o ≡ x = sym (tame.taken j s.below y).serial ∙ s.serial in
          let never : issued x log ≡ 0 = omega (arith, issued_now x ev log is, after.once x z) in
          (nothing x z never (key_of (place_at n u j)), was.unborn x z never (key_of (place_at n u j)))

      -- it was not destroyed before
      lived : takes n ev t j ≡ false → is_destroyed (place_at n t j).state ≡ true → ⊥
      lived miss dead = elim (ℕ_discrete (place_at n u j).state (place_at n t j).state) [
        | yes same ↦ true≢false (sym (ap is_destroyed same ∙ dead) ∙ live)
        | no other ↦ true≢false (sym (ways_dead (by_item ev.asked.operation (code_of (command_of ev)) still (tame.moves j s.below miss other).way) dead) ∙ live)
      ]

      kept : takes n ev t j ≡ false → HandsOut x (key_of (place_at n u j)) (ev ∷ log)
      kept miss =
          let stood : Stands n x t j = record { below = s.below; serial = sym (tame.kept j s.below miss) ∙ s.serial } in
          let before : is_destroyed (place_at n t j).state ≡ false = on_bool (is_destroyed (place_at n t j).state) (λ dead. absurd (lived miss dead)) (λ l. l) in
          subst (λ (k : Key). HandsOut x k (ev ∷ log)) (sym (tame.holds j s.below miss live)) (here x j z stood, was.own x j z stood before)

  one_after : (x : ℕ) → (x ≡ 0 → ⊥) → (key : Key) × HandsOut x key (ev ∷ log)
  one_after x z = elim (ℕ_discrete (handed_by o) x) [
    | yes h ↦ (let g = out x z h in (key_of (place_at n t g.place), (here x g.place z g.stood, was.own x g.place z g.stood g.live)))
    | no d ↦ (let w = was.one x z in (w.0, (λ k e q. absurd (d (got_handed k e ∙ q)), w.1)))
  ]

  unborn_after : (x : ℕ) → (x ≡ 0 → ⊥) → issued x (ev ∷ log) ≡ 0 → (key : Key) → HandsOut x key (ev ∷ log)
  unborn_after x z never key =
      let before : issued x log ≡ 0 = elim (ℕ_discrete (issued_by (command_of ev) o) x) [
        | yes is ↦ omega (arith, issued_now x ev log is, never)
        | no other ↦ sym (issued_before x ev log other) ∙ never
      ] in
      (nothing x z before key, was.unborn x z before key)

  pub item_handed : Handed n (ev ∷ log) u
  item_handed = record { own = own_after; one = one_after; unborn = unborn_after }

pub path_handed : {n : ℕ} {log events : List Event} {t v : List ℕ} → Path n log t events v → InOrder n log t → Handed n log t → Handed n (onto events log) v
unfolding onto
path_handed arrived order was = was
path_handed {log = log} {t = t} (went ev u tame after rest) order was = path_handed rest after (item_handed log t u ev tame order after was)

pub opens_handed : {n : ℕ} {log : List Event} {c : Call} {number : ℕ} {start : List ℕ} → Opens n c number start → Handed n log c.table → Handed n log start
unfolding in_state key_of
opens_handed {n} {log} {c} (accepted {start} due) was = record { own = own; one = was.one; unborn = was.unborn }
  where
    own : (x j : ℕ) → (x ≡ 0 → ⊥) → Stands n x start j → is_destroyed (place_at n start j).state ≡ false → HandsOut x (key_of (place_at n start j)) log
    own x j z s live =
        let stood : Stands n x c.table j = record { below = s.below; serial = sym (due_serial c.table start due j s.below) ∙ s.serial } in
        let before : is_destroyed (place_at n c.table j).state ≡ false = on_bool (is_destroyed (place_at n c.table j).state) (λ dead. absurd (lived dead)) (λ l. l) in
        subst (λ (k : Key). HandsOut x k log) (sym (ap key_of (due.others j s.below))) (was.own x j z stood before)
      where
        lived : is_destroyed (place_at n c.table j).state ≡ true → ⊥
        lived dead = elim (ℕ_discrete (place_at n start j).state (place_at n c.table j).state) [
          | yes same ↦ true≢false (sym (ap is_destroyed same ∙ dead) ∙ live)
          | no other ↦ true≢false (sym (ways_dead (by_date (counted c) (place_at n c.table j) still (due.moves j s.below other)) dead) ∙ live)
        ]
opens_handed (refused h) was = was

module _ (B : Box) (n : ℕ) (ok : places_ok n ≡ true) (d : Demand3Of n B) where
  pub run_handed : {log : List Event} {t : List ℕ} → Run n B log t → Handed n log t
  unfolding logged
  run_handed begins = record { own = λ x i z s live. tt; one = λ x z. (key_of (place_at n (blank n) 0), tt); unborn = λ x z never key. tt }
  run_handed (calls {log} {t} c e r same lent b) =
      let g = d.goes log t r c e same lent b in
      path_handed g.path g.order (opens_handed g.opens (subst (Handed n log) (sym same) (run_handed r)))
