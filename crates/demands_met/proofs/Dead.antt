-- What is destroyed stays so and is not handed out: from what demand 3 asks of each item.
-- Assumes nothing.
use Prim.Native.Nat.{ℕ, ◌≤◌, ◌<◌}
use native.Mathlib.Omega.{arith}
use native.Mathlib.Decide.{ℕ_discrete}
use mathlib.Core.Path.{◌≡◌, refl, sym, ap, subst, ◌∙◌}
use mathlib.Core.Bool.{Bool, true, false, not, ◌&&◌, ◌||◌, true≢false, false≢true}
use mathlib.Core.List.{List, [], ◌∷◌}
use lib.Dec.{eqb}
use borrow.Author.Tests.{eqb-true}
use Rattle.octets.proofs.Bools.{both, or_l, or_r}
use Rattle.octets.proofs.If.{ifb_true, ifb_false, on_bool}
use Rattle.table.specs.Records.{place_at}
use Rattle.search.specs.Search.{is_destroyed}
use Rattle.soundness.specs.Sound.{sound}
use Rattle.soundness.proofs.SoundIs.{sound_is}
use Rattle.rules.specs.Numbers.{create, rekey, get, get_attributes, get_usage_allocation, activate, revoke, destroy, locate}
use Rattle.rules.specs.States.{is_compromise}
use Rattle.payload.specs.declared.Command.{Command}
use Rattle.payload.specs.declared.Command.TheVariants.{Unsupported, Invalid, Create, Rekey, GetUsageAllocation, Activate, Revoke, Destroy, GetAttributes, Get, Locate}
use Rattle.plans.specs.declared.Key.{Key}
use Rattle.plans.specs.declared.Outcome.{Outcome}
use Rattle.plans.specs.declared.Outcome.TheVariants.{Failed, Created, Done, Showed, Got, Located, Undone}
use Rattle.plans.specs.Plans.{is_failed}
use Rattle.answer.proofs.Tests.{on_or}
use Rattle.batch_keeps.proofs.Commands.{Commanded, not_supported, not_valid, to_create, to_rekey, to_allocate, to_activate, to_revoke, to_destroy, to_show, to_get, to_locate, commanded}
use Rattle.demands.specs.Log.{Event, command_of, issued_by, issued, handed_by, destroyed_by, was_destroyed, handed_dead}
use Rattle.demands.specs.Demand3.{Stands, is_understood, moves_state, is_made, carries, code_of, takes, listed, About, Tame, asks_key, asks_name}
use Rattle.demands_met.proofs.Logged.{issued_now, issued_before}

-- ---- the listed transitions

-- Destroy leads to a destroyed state
listed_destroys : (code from to : ℕ) → listed destroy code from to ≡ true → is_destroyed to ≡ true
unfolding listed
listed_destroys code from to h =
    on_or ((eqb from 1 && eqb to 5) || (eqb from 3 && eqb to 5)) (eqb from 4 && eqb to 6) h
    (λ g. on_or (eqb from 1 && eqb to 5) (eqb from 3 && eqb to 5) g
    (λ k. or_l (eqb to 5) (eqb to 6) (both (eqb from 1) (eqb to 5) k).1)
    (λ k. or_l (eqb to 5) (eqb to 6) (both (eqb from 3) (eqb to 5) k).1))
    (λ k. or_r (eqb to 5) (eqb to 6) (both (eqb from 4) (eqb to 6) k).1)

and_never : (a : Bool) → (a && false) ≡ true → ⊥
and_never true h = false≢true h
and_never false h = false≢true h

-- no transition leads out of the destroyed states: from 5 there is the one to 6, and from 6 none
from_five : (operation code to : ℕ) → listed operation code 5 to ≡ true → is_destroyed to ≡ true
unfolding listed
from_five operation code to h =
    let a = eqb operation activate && false in
    let b = eqb operation revoke && is_compromise code && eqb to 6 in
    let c = eqb operation revoke && not (is_compromise code) && false in
    let d = eqb operation destroy && false in
    on_or (a || b || c) d h
    (λ g. on_or (a || b) c g
    (λ k. on_or a b k (λ z. absurd (and_never (eqb operation activate) z)) (λ z. or_r (eqb to 5) (eqb to 6) (both (eqb operation revoke && is_compromise code) (eqb to 6) z).1))
    (λ z. absurd (and_never (eqb operation revoke && not (is_compromise code)) z)))
    (λ z. absurd (and_never (eqb operation destroy) z))

from_six : (operation code to : ℕ) → listed operation code 6 to ≡ true → ⊥
unfolding listed
from_six operation code to h =
    let a = eqb operation activate && false in
    let b = eqb operation revoke && is_compromise code && false in
    let c = eqb operation revoke && not (is_compromise code) && false in
    let d = eqb operation destroy && false in
    on_or (a || b || c) d h
    (λ g. on_or (a || b) c g
    (λ k. on_or a b k (and_never (eqb operation activate)) (and_never (eqb operation revoke && is_compromise code)))
    (and_never (eqb operation revoke && not (is_compromise code))))
    (and_never (eqb operation destroy))

pub listed_stays : (operation code from to : ℕ) → listed operation code from to ≡ true → is_destroyed from ≡ true → is_destroyed to ≡ true
listed_stays operation code from to h d =
    on_or (eqb from 5) (eqb from 6) d
    (λ e. from_five operation code to (subst (λ (s : ℕ). listed operation code s to ≡ true) (eqb-true from 5 e) h))
    (λ e. absurd (from_six operation code to (subst (λ (s : ℕ). listed operation code s to ≡ true) (eqb-true from 6 e) h)))

-- ---- what an event says

-- what is made did not fail
made_not : (o : Outcome) → is_made o ≡ true → is_failed o ≡ false
unfolding is_made is_failed
made_not (Failed reason) m = absurd (false≢true m)
made_not (Created serial) m = refl
made_not (Done serial) m = refl
made_not (Showed shown) m = refl
made_not (Got key) m = refl
made_not (Located serial) m = refl
made_not Undone m = refl

-- a command of Destroy's operation that is understood is a Destroy
record Destroys (c : Command) : Type 0 where
  issues : (o : Outcome) → issued_by c o ≡ 0
  moves : moves_state c ≡ true

destroys : (operation : ℕ) (c : Command) → Commanded operation c → operation ≡ destroy → is_understood c ≡ true → Destroys c
unfolding issued_by moves_state is_understood
destroys operation c not_supported e u = absurd (false≢true u)
destroys operation c not_valid e u = absurd (false≢true u)
destroys operation c (to_create o a) e u = absurd (let z : create ≡ destroy = sym o ∙ e in omega arith)
destroys operation c (to_rekey o) e u = absurd (let z : rekey ≡ destroy = sym o ∙ e in omega arith)
destroys operation c (to_allocate o) e u = absurd (let z : get_usage_allocation ≡ destroy = sym o ∙ e in omega arith)
destroys operation c (to_activate o) e u = absurd (let z : activate ≡ destroy = sym o ∙ e in omega arith)
destroys operation c (to_revoke o) e u = absurd (let z : revoke ≡ destroy = sym o ∙ e in omega arith)
destroys operation c (to_destroy o) e u = record { issues = λ out. refl; moves = refl }
destroys operation c (to_show o) e u = absurd (let z : get_attributes ≡ destroy = sym o ∙ e in omega arith)
destroys operation c (to_get o) e u = absurd (let z : get ≡ destroy = sym o ∙ e in omega arith)
destroys operation c (to_locate o) e u = absurd (let z : locate ≡ destroy = sym o ∙ e in omega arith)

-- what moves a state, or asks for a key, asks for no name
moves_not : (c : Command) → moves_state c ≡ true → asks_name c ≡ false
unfolding moves_state asks_name
moves_not Unsupported m = refl
moves_not Invalid m = refl
moves_not (Create wanted) m = refl
moves_not (Rekey target offset) m = refl
moves_not (GetUsageAllocation target amount) m = refl
moves_not (Activate target) m = refl
moves_not (Revoke target code) m = refl
moves_not (Destroy target) m = refl
moves_not (GetAttributes target) m = refl
moves_not (Get target) m = refl
moves_not (Locate name) m = absurd (false≢true m)

pub asks_not : (c : Command) → asks_key c ≡ true → asks_name c ≡ false
unfolding asks_key asks_name
asks_not Unsupported m = refl
asks_not Invalid m = refl
asks_not (Create wanted) m = refl
asks_not (Rekey target offset) m = refl
asks_not (GetUsageAllocation target amount) m = refl
asks_not (Activate target) m = refl
asks_not (Revoke target code) m = refl
asks_not (Destroy target) m = refl
asks_not (GetAttributes target) m = refl
asks_not (Get target) m = refl
asks_not (Locate name) m = absurd (false≢true m)

-- an answer that destroyed x
record Destroyed (operation : ℕ) (o : Outcome) (x : ℕ) : Type 0 where
  is : operation ≡ destroy
  succeeded : is_made o ≡ true
  carried : carries o ≡ x

destroyed_is : (operation : ℕ) (o : Outcome) (x : ℕ) → (x ≡ 0 → ⊥) → destroyed_by operation o ≡ x → Destroyed operation o x
unfolding destroyed_by carries is_made
destroyed_is operation (Failed reason) x z e = absurd (z (sym e))
destroyed_is operation (Created serial) x z e = absurd (z (sym e))
destroyed_is operation (Done serial) x z e =
    on_bool (eqb operation destroy)
    (λ d. record { is = eqb-true operation destroy d; succeeded = refl; carried = sym (ifb_true (eqb operation destroy) serial 0 d) ∙ e })
    (λ d. absurd (z (sym e ∙ ifb_false (eqb operation destroy) serial 0 d)))
destroyed_is operation (Showed shown) x z e = absurd (z (sym e))
destroyed_is operation (Got key) x z e = absurd (z (sym e))
destroyed_is operation (Located serial) x z e = absurd (z (sym e))
destroyed_is operation Undone x z e = absurd (z (sym e))

-- an answer that handed x out
pub record HandedOut (c : Command) (o : Outcome) (x : ℕ) : Type 0 where
  pub issues : issued_by c o ≡ 0
  pub succeeded : is_made o ≡ true
  pub carried : carries o ≡ x

no_issue_got : (c : Command) (key : Key) → issued_by c (Got key) ≡ 0
unfolding issued_by
no_issue_got Unsupported key = refl
no_issue_got Invalid key = refl
no_issue_got (Create wanted) key = refl
no_issue_got (Rekey target offset) key = refl
no_issue_got (GetUsageAllocation target amount) key = refl
no_issue_got (Activate target) key = refl
no_issue_got (Revoke target code) key = refl
no_issue_got (Destroy target) key = refl
no_issue_got (GetAttributes target) key = refl
no_issue_got (Get target) key = refl
no_issue_got (Locate name) key = refl

pub handed_is : (c : Command) (o : Outcome) (x : ℕ) → (x ≡ 0 → ⊥) → handed_by o ≡ x → HandedOut c o x
unfolding handed_by carries is_made
handed_is c (Failed reason) x z e = absurd (z (sym e))
handed_is c (Created serial) x z e = absurd (z (sym e))
handed_is c (Done serial) x z e = absurd (z (sym e))
handed_is c (Showed shown) x z e = absurd (z (sym e))
handed_is c (Got key) x z e = record { issues = no_issue_got c key; succeeded = refl; carried = e }
handed_is c (Located serial) x z e = absurd (z (sym e))
handed_is c Undone x z e = absurd (z (sym e))

-- ---- the dead, in the log and in the table

pub record Dead (n : ℕ) (log : List Event) (t : List ℕ) : Type 0 where
  pub states : (x i : ℕ) → (x ≡ 0 → ⊥) → Stands n x t i → was_destroyed x log ≡ true → is_destroyed (place_at n t i).state ≡ true
  pub known : (x : ℕ) → (x ≡ 0 → ⊥) → was_destroyed x log ≡ true → 1 ≤ issued x log
  pub silent : (x : ℕ) → (x ≡ 0 → ⊥) → handed_dead x log ≡ 0

pub none_dead : (n : ℕ) (t : List ℕ) → Dead n [] t
unfolding was_destroyed handed_dead
none_dead n t = record { states = λ x i z s w. absurd (false≢true w); known = λ x z w. absurd (false≢true w); silent = λ x z. refl }

module _ {n : ℕ} (log : List Event) (t u : List ℕ) (ev : Event) (tame : Tame n ev t u) (right : sound n t ≡ true)
    (stood : (x i : ℕ) → (x ≡ 0 → ⊥) → Stands n x t i → issued x log ≡ 1) (once : (x : ℕ) → (x ≡ 0 → ⊥) → issued x (ev ∷ log) ≤ 1) (d : Dead n log t) where
  abbrev o : Outcome
  o = ev.answer.outcome

  abbrev c : Command
  c = command_of ev

  -- the record that a success is about stands, with the identifier that is carried
  about_stands : (x : ℕ) → carries o ≡ x → (a : About n ev t) → Stands n x t a.place
  about_stands x e a = record { below = a.below; serial = sym a.serial ∙ e }

  -- what is not understood fails
  is_understood_lem : is_made o ≡ true → is_understood c ≡ true
  is_understood_lem f = on_bool (is_understood c) (λ y. y) (λ y. absurd (true≢false (sym (tame.understood y) ∙ made_not o f)))

  -- ---- an item that destroyed x

  module _ (x : ℕ) (z : x ≡ 0 → ⊥) (e : destroyed_by ev.answer.operation o ≡ x) where
    said : Destroyed ev.answer.operation o x
    said = destroyed_is ev.answer.operation o x z e

    asked : ev.asked.operation ≡ destroy
    asked = sym tame.operation ∙ said.is

    did : Destroys c
    did = destroys ev.asked.operation c (commanded ev.asked.operation ev.asked.payload) asked (is_understood_lem said.succeeded)

    whose : About n ev t
    whose = tame.about said.succeeded (did.issues o) (moves_not c did.moves)

    -- its record stood, and is in a destroyed state
    destroyed_stood : Stands n x t whose.place
    destroyed_stood = about_stands x said.carried whose

    destroyed_there : is_destroyed (place_at n u whose.place).state ≡ true
    destroyed_there =
        listed_destroys (code_of c) (place_at n t whose.place).state (place_at n u whose.place).state
        (subst (λ (operation : ℕ). listed operation (code_of c) (place_at n t whose.place).state (place_at n u whose.place).state ≡ true) asked
        (tame.obeys whose.place whose.below whose.named said.succeeded did.moves))

  -- ---- behind it

  -- a record that was destroyed and kept its place is destroyed still
  stays : (i : ℕ) → i < n → takes n ev t i ≡ false → is_destroyed (place_at n t i).state ≡ true → is_destroyed (place_at n u i).state ≡ true
  stays i low miss before = elim (ℕ_discrete (place_at n u i).state (place_at n t i).state) [
    | yes same ↦ ap is_destroyed same ∙ before
    | no other ↦ listed_stays _ _ _ _ (tame.moves i low miss other).way before
  ]

  known_after : (x : ℕ) → (x ≡ 0 → ⊥) → was_destroyed x (ev ∷ log) ≡ true → 1 ≤ issued x (ev ∷ log)
  unfolding was_destroyed
  known_after x z w =
      on_or (eqb (destroyed_by ev.answer.operation o) x) (was_destroyed x log) w
      (λ e. more (let k = stood x _ z (destroyed_stood x z (eqb-true _ x e)) in omega arith))
      (λ k. more (d.known x z k))
    where
      more : 1 ≤ issued x log → 1 ≤ issued x (ev ∷ log)
      more k = elim (ℕ_discrete (issued_by c o) x) [ yes q ↦ omega (arith, issued_now x ev log q) | no q ↦ omega (arith, issued_before x ev log q) ]

  -- nobody who was issued before is issued by this item
  not_issued : (x : ℕ) → (x ≡ 0 → ⊥) → 1 ≤ issued x log → issued_by c o ≡ x → ⊥
  not_issued x z k q = omega (arith, issued_now x ev log q, once x z)

  issued_when : (x : ℕ) → (x ≡ 0 → ⊥) → was_destroyed x (ev ∷ log) ≡ true → 1 ≤ issued x log
  unfolding was_destroyed
  issued_when x z w =
      on_or (eqb (destroyed_by ev.answer.operation o) x) (was_destroyed x log) w
      (λ e. let k = stood x _ z (destroyed_stood x z (eqb-true _ x e)) in omega arith)
      (d.known x z)

  states_after : (x i : ℕ) → (x ≡ 0 → ⊥) → Stands n x u i → was_destroyed x (ev ∷ log) ≡ true → is_destroyed (place_at n u i).state ≡ true
  unfolding was_destroyed
  states_after x i z s w = on_bool (takes n ev t i) taken kept
    where
      taken : takes n ev t i ≡ true → is_destroyed (place_at n u i).state ≡ true
      taken y = absurd (not_issued x z (issued_when x z w) (sym (tame.taken i s.below y).serial ∙ s.serial))

      kept : takes n ev t i ≡ false → is_destroyed (place_at n u i).state ≡ true
      kept miss =
          let before : Stands n x t i = record { below = s.below; serial = sym (tame.kept i s.below miss) ∙ s.serial } in
          on_or (eqb (destroyed_by ev.answer.operation o) x) (was_destroyed x log) w
          (λ e.
          let a = destroyed_stood x z (eqb-true _ x e) in
          let q : i ≡ (whose x z (eqb-true _ x e)).place = (sound_is _ t right).distinct i _ s.below a.below (λ k. z (sym before.serial ∙ k)) (before.serial ∙ sym a.serial) in
          subst (λ (j : ℕ). is_destroyed (place_at n u j).state ≡ true) (sym q) (destroyed_there x z (eqb-true _ x e)))
          (λ k. stays i s.below miss (d.states x i z before k))

  silent_after : (x : ℕ) → (x ≡ 0 → ⊥) → handed_dead x (ev ∷ log) ≡ 0
  unfolding handed_dead
  silent_after x z = on_bool (eqb (handed_by o) x && was_destroyed x log) (λ y. absurd (never y)) (λ y. ifb_false _ _ _ y ∙ d.silent x z)
    where
      never : (eqb (handed_by o) x && was_destroyed x log) ≡ true → ⊥
      never y =
          let p = both (eqb (handed_by o) x) (was_destroyed x log) y in
          let is = eqb-true (handed_by o) x p.0 in
          let h = handed_is c o x z is in
          let asks = tame.hands (λ k. z (sym is ∙ k)) in
          let a = tame.about h.succeeded h.issues (asks_not c asks) in
          let s = about_stands x h.carried a in
          true≢false (sym (d.states x a.place z s p.1) ∙ tame.alive a.place a.below a.named h.succeeded asks)

  pub step_dead : Dead n (ev ∷ log) u
  step_dead = record { states = states_after; known = known_after; silent = silent_after }
