-- Boxes that hand out what they must not, and that demand 3 shuts out: a destroyed key, and the bytes of another key.
-- Assumes nothing. Each is refuted by a run of one call that is worked out.
use Prim.Native.Nat.{ℕ}
use native.Mathlib.Omega.{arith}
use mathlib.Core.Path.{◌≡◌, refl, sym, ap, ◌∙◌}
use mathlib.Core.Bool.{Bool, true, false, false≢true}
use mathlib.Core.List.{List, [], ◌∷◌, map}
use lib.Dec.{lit<}
use Rattle.hex_digits.specs.Texts.{hex}
use Rattle.calls.specs.Effects.{Effect}
use Rattle.table.specs.Layout.{small_count}
use Rattle.table.specs.Records.{place_at, serial_at}
use Rattle.search.specs.Search.{is_destroyed}
use Rattle.plans.specs.declared.Key.{Key}
use Rattle.plans.specs.declared.Outcome.{Outcome}
use Rattle.plans.specs.declared.Outcome.TheVariants.{Failed, Created, Done, Showed, Got, Located, Undone}
use Rattle.plans.specs.Plans.{key_of}
use Rattle.demands.specs.Box.{Call, Lent}
use Rattle.demands.specs.Demand2.{frame_of, of_frame, refusal_conditions, lowest}
use Rattle.demands.specs.Log.{Event, items_asked, held_after, paired, or_no_items, or_no_answers, events_of, onto, logged, handed_by, destroyed_by, was_destroyed, handed_dead}
use Rattle.demands.specs.Demand3.{begins, calls, Stands, Demand3}
use Rattle.demands.specs.Plain.{HandsOut}
use Rattle.demands_met.proofs.Plainly.{plainly}
use Rattle.cases.proofs.Cases.{opened}
use Rattle.wrong_boxes.specs.Wrong.{responding, left_under, ran_under, undead_for, undead, handing_out, HandsDead, some_key, other_for, other_answer, HandsOther}
use Rattle.wrong_boxes.proofs.Calling.{is_byte, calling, lent_blank, accepted_is}

-- ---- a destroyed key

-- under Continue: a Create of 128 bits, a Destroy of "00000001", a Get of it
unfoldable dead_request : List ℕ
dead_request = hex "42007801 00000118 42007701 00000048 42006901 00000020 42006A02 00000004 00000002 00000000 42006B02 00000004 00000001 00000000 42000E05 00000004 00000001 00000000 42000D02 00000004 00000003 00000000 42000F01 00000060 42005C05 00000004 00000001 00000000 42007901 00000048 42005705 00000004 00000002 00000000 42012501 00000030 42002805 00000004 00000003 00000000 42002A02 00000004 00000080 00000000 42002C02 00000004 00000004 00000000 42000F01 00000028 42005C05 00000004 00000014 00000000 42007901 00000010 42009407 00000008 30303030 30303031 42000F01 00000028 42005C05 00000004 0000000A 00000000 42007901 00000010 42009407 00000008 30303030 30303031"

abbrev dead_call : Call
dead_call = calling dead_request 1

lent_dead : Lent dead_call
unfolding opened is_byte dead_request
lent_dead = lent_blank dead_request 1 refl (lit< tt)

dead_accepted : lowest 1 (refusal_conditions dead_call) ≡ 0
unfolding opened dead_request frame_of of_frame refusal_conditions lowest
dead_accepted = refl

-- what that box leaves
handed : Effect
handed = responding dead_call (handing_out (items_asked dead_call) (left_under dead_call (frame_of dead_call)).answers) (left_under dead_call (frame_of dead_call)).table

-- the log of the call says that key 1 was handed out once after it was destroyed
handed_once : handed_dead 1 (logged dead_call handed []) ≡ 1
unfolding opened dead_request handed frame_of left_under ran_under undead_for undead handing_out logged onto events_of paired held_after or_no_items or_no_answers handed_by destroyed_by was_destroyed handed_dead
handed_once = refl

pub hands_dead : Demand3 HandsDead → ⊥
unfolding handed
hands_dead d =
    let r = calls dead_call handed begins refl lent_dead (accepted_is dead_call handed dead_accepted) in
    let z : ◌≡◌ {A = ℕ} 1 0 = sym handed_once ∙ (plainly HandsDead d small_count refl).unheard r 1 (λ e. omega arith) in
    omega arith

-- ---- the bytes of another key

-- two Creates of 128 bits, a Get of "00000002"
unfoldable other_request : List ℕ
other_request = hex "42007801 00000140 42007701 00000038 42006901 00000020 42006A02 00000004 00000002 00000000 42006B02 00000004 00000001 00000000 42000D02 00000004 00000003 00000000 42000F01 00000060 42005C05 00000004 00000001 00000000 42007901 00000048 42005705 00000004 00000002 00000000 42012501 00000030 42002805 00000004 00000003 00000000 42002A02 00000004 00000080 00000000 42002C02 00000004 00000004 00000000 42000F01 00000060 42005C05 00000004 00000001 00000000 42007901 00000048 42005705 00000004 00000002 00000000 42012501 00000030 42002805 00000004 00000003 00000000 42002A02 00000004 00000080 00000000 42002C02 00000004 00000004 00000000 42000F01 00000028 42005C05 00000004 0000000A 00000000 42007901 00000010 42009407 00000008 30303030 30303032"

abbrev other_call : Call
other_call = calling other_request 1

lent_other : Lent other_call
unfolding opened is_byte other_request
lent_other = lent_blank other_request 1 refl (lit< tt)

other_accepted : lowest 1 (refusal_conditions other_call) ≡ 0
unfolding opened other_request frame_of of_frame refusal_conditions lowest
other_accepted = refl

-- what that box leaves
other : Effect
other =
    responding other_call (map (other_answer (place_at small_count (left_under other_call (frame_of other_call)).table 0).material) (left_under other_call (frame_of other_call)).answers) (left_under other_call (frame_of other_call)).table

-- the answer to the last item of a log
last_answer : List Event → Outcome
last_answer [] = Undone
last_answer (e ∷ log) = e.answer.outcome

key_from : Outcome → Key
key_from (Failed reason) = some_key 0
key_from (Created serial) = some_key 0
key_from (Done serial) = some_key 0
key_from (Showed shown) = some_key 0
key_from (Got key) = key
key_from (Located serial) = some_key 0
key_from Undone = some_key 0

is_got : Outcome → Bool
is_got (Failed reason) = false
is_got (Created serial) = false
is_got (Done serial) = false
is_got (Showed shown) = false
is_got (Got key) = true
is_got (Located serial) = false
is_got Undone = false

got_key : (o : Outcome) → is_got o ≡ true → o ≡ Got (key_from o)
unfolding is_got key_from
got_key (Failed reason) h = absurd (false≢true h)
got_key (Created serial) h = absurd (false≢true h)
got_key (Done serial) h = absurd (false≢true h)
got_key (Showed shown) h = absurd (false≢true h)
got_key (Got key) h = refl
got_key (Located serial) h = absurd (false≢true h)
got_key Undone h = absurd (false≢true h)

-- a log that hands out one key under x does so in its last answer
last_handed : (x : ℕ) (key : Key) (log : List Event) → HandsOut x key log → is_got (last_answer log) ≡ true → (key_from (last_answer log)).serial ≡ x → key_from (last_answer log) ≡ key
unfolding last_answer is_got
last_handed x key [] h g s = absurd (false≢true g)
last_handed x key (e ∷ log) h g s = h.0 (key_from e.answer.outcome) (got_key e.answer.outcome g) s

other_seen : is_got (last_answer (logged other_call other [])) ≡ true
unfolding opened other_request other other_for frame_of left_under ran_under logged onto events_of paired held_after or_no_items or_no_answers last_answer is_got
other_seen = refl

other_serial : (key_from (last_answer (logged other_call other []))).serial ≡ 2
unfolding opened other_request other other_for frame_of left_under ran_under logged onto events_of paired held_after or_no_items or_no_answers last_answer key_from
other_serial = refl

-- its bytes are 0 to 7, and those of key 2 are 32 to 39
other_bytes : (key_from (last_answer (logged other_call other []))).material.a ≡ 0x0001020304050607
unfolding opened other_request other other_for frame_of left_under ran_under logged onto events_of paired held_after or_no_items or_no_answers last_answer key_from
other_bytes = refl

own_bytes : (key_of (place_at small_count other.table 1)).material.a ≡ 0x2021222324252627
unfolding opened other_request other frame_of left_under ran_under key_of
own_bytes = refl

stands_two : serial_at other.table 1 ≡ 2
unfolding opened other_request other frame_of left_under ran_under
stands_two = refl

lives_two : is_destroyed (place_at small_count other.table 1).state ≡ false
unfolding opened other_request other frame_of left_under ran_under
lives_two = refl

pub hands_other : Demand3 HandsOther → ⊥
unfolding other
hands_other d =
    let r = calls other_call other begins refl lent_other (accepted_is other_call other other_accepted) in
    let there : Stands small_count 2 other.table 1 = record { below = lit< tt; serial = stands_two } in
    let own = (plainly HandsOther d small_count refl).own_key r 2 1 (λ e. omega arith) there lives_two in
    let same = last_handed 2 (key_of (place_at small_count other.table 1)) (logged other_call other []) own other_seen other_serial in
    let z : ◌≡◌ {A = ℕ} 0x0001020304050607 0x2021222324252627 = sym other_bytes ∙ ap (λ (k : Key). k.material.a) same ∙ own_bytes in
    omega arith
