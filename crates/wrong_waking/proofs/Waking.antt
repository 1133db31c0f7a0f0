-- Boxes that 00 warns of and that demand 3 shuts out: they wake a destroyed key, or say that a key is destroyed and leave it Active.
-- Assumes nothing. Each is refuted by a run that is worked out.
use Rattle.std.specs.Prelude.{Some}
use Prim.Native.Nat.{ℕ, ◌<◌}
use native.Mathlib.Omega.{arith}
use mathlib.Core.Path.{◌≡◌, refl, sym, ap, ◌∙◌}
use mathlib.Core.Bool.{Bool, true, false, ◌&&◌, ◌||◌, false≢true, true≢false}
use mathlib.Core.List.{List, []}
use lib.Dec.{eqb, lit<}
use Rattle.octets.specs.If.{ifb}
use Rattle.table.specs.Layout.{small_count}
use Rattle.table.specs.Records.{place_at, serial_at, state_at, blank}
use Rattle.search.specs.Search.{find}
use Rattle.soundness.specs.Checked.{is_at}
use Rattle.rules.specs.Numbers.{destroy}
use Rattle.calls.specs.Effects.{Effect}
use Rattle.demands.specs.Box.{Call, Lent}
use Rattle.demands.specs.Demand2.{frame_of, of_frame, refusal_conditions, lowest}
use Rattle.demands.specs.Log.{Event, command_of, held_after, paired, or_no_items, or_no_answers, events_of, issued_by}
use Rattle.demands.specs.Demand3.{begins, calls, named_by, moves_state, asks_units, asks_heir, is_made, code_of, listed, Demand3, further, here, Stands}
use Rattle.wrong_boxes.specs.Wrong.{with_table, woken, Wakes, LeavesAlive}
use Rattle.cases.specs.Cards.{life_request, compromise_request}
use Rattle.cases.proofs.Cases.{opened}
use Rattle.demands_met.proofs.Ladder.{served}
use Rattle.demands_met.proofs.Plainly.{plainly}
use Rattle.search.specs.Search.{is_destroyed}
use Rattle.wrong_boxes.proofs.Ending.{last_or, is_empty, Last, Seen, seen_of, no_event, seen, seen_on, no_such_end, untaken, met_found}
use Rattle.wrong_boxes.proofs.Calling.{is_byte, bytes_test, calling, calling_on, lent_on, accepted_is, lent_life, life_accepted}

-- ---- a destroyed key that is Active

-- a success that moves the key with serial 1, which is left Active at place 0
abbrev waking_by : ℕ → ℕ → Seen
waking_by operation code =
    record { none = false; operation = operation; code = code; named = 1; issued = 0; made = true; moves = true; units = false; heir = false; serial = 1; state = 2; count = 0 }

-- no item does it that has no transition to Active
module _ (operation code : ℕ) (never : (from : ℕ) → listed operation code from 2 ≡ false) where
  last_waking : (ev : Event) (none : Bool) (v : List ℕ) → Last ev v → seen_of ev none v ≡ waking_by operation code → ⊥
  unfolding seen_of is_at
  last_waking ev none v l e = false≢true (sym (never from) ∙ way)
    where
      from : ℕ
      from = (place_at small_count l.met 0).state

      found : find small_count l.met (named_by ev.held (command_of ev)) ≡ Some 0
      found = met_found ev none v l _ e (untaken ev none v l _ e refl) refl refl

      way : listed operation code from 2 ≡ true
      way =
          sym (ap (λ (x : Seen). listed x.operation x.code from x.state) e)
          ∙ l.tame.obeys 0 (lit< tt) (ap (is_at 0) found) (ap (λ (x : Seen). x.made) e) (ap (λ (x : Seen). x.moves) e)

-- neither Destroy nor Revoke for a compromise leads to Active
destroy_not : (from : ℕ) → listed destroy 0 from 2 ≡ false
unfolding listed
destroy_not from = go (eqb from 1) (eqb from 3) (eqb from 4)
  where
    go : (a b c : Bool) → ((a && false) || (b && false) || (c && false)) ≡ false
    go true true true = refl
    go true true false = refl
    go true false true = refl
    go true false false = refl
    go false true true = refl
    go false true false = refl
    go false false true = refl
    go false false false = refl

-- what the box leaves of the life of a key: its last item is a Destroy that it answers with success
abbrev life : Call
life = calling life_request 1

alive : Effect
alive = with_table (λ due. ifb (eqb (state_at due 0) 5) (woken due) due) (served life)

alive_seen : seen_on life alive ≡ waking_by destroy 0
unfolding opened alive with_table woken no_event events_of paired held_after or_no_items or_no_answers last_or is_empty seen_on seen seen_of code_of named_by issued_by moves_state asks_units asks_heir is_made
alive_seen = refl

pub leaves_alive : Demand3 LeavesAlive → ⊥
unfolding alive seen_on
leaves_alive d = no_such_end (waking_by destroy 0) refl (last_waking destroy 0 destroy_not) ((d small_count refl).goes [] (blank small_count) begins life alive refl (lent_life 1 (lit< tt)) (accepted_is life alive (life_accepted 1 refl))).path alive_seen

-- ---- the next call wakes it

-- it leaves of the life of a key what it should: the key is destroyed
first_left_lem : Effect
first_left_lem = with_table (λ due. ifb (eqb (state_at (blank small_count) 0) 5) (woken due) due) (served life)

-- then Revoke for a compromise, which should lead from 5 to 6
next : Call
next = calling_on first_left_lem.table compromise_request 1

next_left : Effect
next_left = with_table (λ due. ifb (eqb (state_at next.table 0) 5) (woken due) due) (served next)

lent_next : Lent next
unfolding opened is_byte next first_left_lem with_table woken
lent_next = lent_on first_left_lem.table compromise_request 1 (bytes_test first_left_lem.table refl) refl (lit< tt)

next_accepted : lowest 1 (refusal_conditions next) ≡ 0
unfolding opened next first_left_lem with_table woken frame_of of_frame refusal_conditions lowest
next_accepted = refl

-- what is seen of place 0: its serial, and whether its key is destroyed
record Place : Type 0 where
  pub serial : ℕ
  pub dead : Bool

place_seen : List ℕ → Place
place_seen t = record { serial = serial_at t 0; dead = is_destroyed (place_at small_count t 0).state }

first_place : place_seen first_left_lem.table ≡ record { serial = 1; dead = true }
unfolding opened first_left_lem with_table woken place_seen
first_place = refl

next_place : place_seen next_left.table ≡ record { serial = 1; dead = false }
unfolding opened next_left next first_left_lem with_table woken place_seen
next_place = refl

pub wakes : Demand3 Wakes → ⊥
unfolding first_left_lem next next_left with_table place_seen
wakes d =
    let r = calls life first_left_lem begins refl (lent_life 1 (lit< tt)) (accepted_is life first_left_lem (life_accepted 1 refl)) in
    let l = further next next_left here refl lent_next (accepted_is next next_left next_accepted) in
    let there : Stands small_count 1 first_left_lem.table 0 = record { below = lit< tt; serial = ap (λ (p : Place). p.serial) first_place } in
    let still : Stands small_count 1 next_left.table 0 = record { below = lit< tt; serial = ap (λ (p : Place). p.serial) next_place } in
    let dead = ((plainly Wakes d small_count refl).stays_dead r l 1 0 (λ z. omega arith) there (ap (λ (p : Place). p.dead) first_place)).0 0 still in
    true≢false (sym dead ∙ ap (λ (p : Place). p.dead) next_place)
