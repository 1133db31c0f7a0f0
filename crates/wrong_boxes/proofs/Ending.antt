-- The last item of a call: the step that it went, the table that it left, and what is seen of both.
-- Assumes nothing.
use Rattle.std.specs.Prelude.{Some}
use Prim.Native.Nat.{ℕ}
use native.Mathlib.Omega.{arith}
use native.Mathlib.Decide.{ℕ_discrete}
use mathlib.Core.Path.{◌≡◌, sym, ap, ◌∙◌}
use mathlib.Core.Bool.{Bool, true, false, not, true≢false}
use mathlib.Core.List.{List, [], ◌∷◌}
use lib.Dec.{eqb, lit<}
use Rattle.octets.proofs.Bools.{and_no}
use Rattle.ttlv.specs.Items.{nil}
use Rattle.table.specs.Layout.{small_count}
use Rattle.table.specs.Records.{place_at, serial_at}
use Rattle.search.specs.Search.{find}
use Rattle.search.proofs.Finds.{find_is}
use Rattle.plans.specs.declared.Outcome.TheVariants.{Done}
use Rattle.calls.specs.Effects.{Effect}
use Rattle.demands.specs.Box.{Call}
use Rattle.demands.specs.Log.{Event, command_of, events_of, issued_by}
use Rattle.demands.specs.Demand3.{named_by, moves_state, asks_units, asks_heir, is_made, code_of, takes, listed, Tame, Path, arrived, went}

unfoldable pub last_or : Event → List Event → Event
last_or ev [] = ev
last_or ev (next ∷ events) = last_or next events

-- the last item went a tame step to the table that is left
pub record Last (ev : Event) (v : List ℕ) : Type 0 where
  pub met : List ℕ
  pub tame : Tame small_count ev met v

path_last : {log events : List Event} {t v : List ℕ} (ev : Event) → Path small_count log t events v → Last ev t → Last (last_or ev events) v
unfolding last_or
path_last ev arrived l = l
path_last ev (went {t = t} next u tame after rest) l = path_last next rest (record { met = t; tame = tame })

unfoldable pub is_empty : List Event → Bool
is_empty [] = true
is_empty (ev ∷ events) = false

pub path_end : {log events : List Event} {t v : List ℕ} (ev : Event) → Path small_count log t events v → is_empty events ≡ false → Last (last_or ev events) v
unfolding last_or is_empty
path_end ev arrived e = absurd (true≢false e)
path_end ev (went {t = t} next u tame after rest) e = path_last next rest (record { met = t; tame = tame })

-- ---- what is seen of it, and of place 0 behind it

pub record Seen : Type 0 where
  pub none : Bool
  pub operation : ℕ
  pub code : ℕ
  pub named : ℕ
  pub issued : ℕ
  pub made : Bool
  pub moves : Bool
  pub units : Bool
  pub heir : Bool
  pub serial : ℕ
  pub state : ℕ
  pub count : ℕ

unfoldable pub seen_of : Event → Bool → List ℕ → Seen
seen_of ev none v = record {
  none = none;
  operation = ev.asked.operation;
  code = code_of (command_of ev);
  named = named_by ev.held (command_of ev);
  issued = issued_by (command_of ev) ev.answer.outcome;
  made = is_made ev.answer.outcome;
  moves = moves_state (command_of ev);
  units = asks_units (command_of ev);
  heir = asks_heir (command_of ev);
  serial = serial_at v 0;
  state = (place_at small_count v 0).state;
  count = (place_at small_count v 0).count;
}

-- where there is no item
unfoldable pub no_event : Event
no_event = record { held = 0; asked = record { operation = 0; id = []; payload = nil }; answer = record { operation = 0; id = []; outcome = Done 0 } }

unfoldable pub seen : List Event → List ℕ → Seen
seen events v = seen_of (last_or no_event events) (is_empty events) v

-- of a call
unfoldable pub seen_on : Call → Effect → Seen
seen_on c e = seen (events_of c e) e.table

-- no call ends with what no item can leave
pub no_such_end : {log events : List Event} {t v : List ℕ} (s : Seen) → s.none ≡ false → ((ev : Event) (none : Bool) (v : List ℕ) → Last ev v → seen_of ev none v ≡ s → ⊥)
    → Path small_count log t events v → seen events v ≡ s → ⊥
unfolding seen seen_of
no_such_end {events = events} {v = v} s some excluded p e = excluded (last_or no_event events) (is_empty events) v (path_end no_event p (ap (λ (x : Seen). x.none) e ∙ some)) e

-- ---- the table that it met

module _ (ev : Event) (none : Bool) (v : List ℕ) (l : Last ev v) (s : Seen) (e : seen_of ev none v ≡ s) where
  -- an item that issues nothing takes no place
  pub untaken : s.issued ≡ 0 → takes small_count ev l.met 0 ≡ false
  unfolding seen_of
  untaken h = and_no _ _ (ap (λ (x : ℕ). not (eqb x 0)) (ap (λ (x : Seen). x.issued) e ∙ h))

  -- the key that it left with serial 1 at place 0 stood there before it
  module _ (stays : takes small_count ev l.met 0 ≡ false) (first : s.serial ≡ 1) where
    met_serial : serial_at l.met 0 ≡ 1
    unfolding seen_of
    met_serial = sym (l.tame.kept 0 (lit< tt) stays) ∙ ap (λ (x : Seen). x.serial) e ∙ first

    pub met_found : s.named ≡ 1 → find small_count l.met (named_by ev.held (command_of ev)) ≡ Some 0
    unfolding seen_of
    met_found h = ap (find small_count l.met) (ap (λ (x : Seen). x.named) e ∙ h) ∙ find_is small_count l.met 1 0 (λ z. omega arith) (lit< tt) met_serial (λ j k. absurd (omega arith))

  -- and an operation without transitions met the state that it left
  pub met_state : takes small_count ev l.met 0 ≡ false → ((from to : ℕ) → listed s.operation s.code from to ≡ true → ⊥) → (place_at small_count l.met 0).state ≡ s.state
  unfolding seen_of
  met_state stays never = elim (ℕ_discrete (place_at small_count v 0).state (place_at small_count l.met 0).state) [
    | yes same ↦ sym same ∙ ap (λ (x : Seen). x.state) e
    | no other ↦ absurd (never (place_at small_count l.met 0).state (place_at small_count v 0).state (sym (ap (λ (x : Seen). listed x.operation x.code (place_at small_count l.met 0).state (place_at small_count v 0).state) e) ∙ (l.tame.moves 0 (lit< tt) stays other).way))
  ]
