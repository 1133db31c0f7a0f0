-- Boxes that demand 3 shuts out by what they touch: the table of a call that they refuse, and a record that nothing named.
-- Assumes nothing. Each is refuted by a run that is worked out.
use Rattle.std.specs.Prelude.{None}
use Prim.Native.Nat.{ℕ, ◌<◌}
use native.Mathlib.Omega.{arith}
use mathlib.Core.Path.{◌≡◌, refl, sym, ap, subst, ◌∙◌}
use mathlib.Core.Bool.{Bool, true, false, ◌&&◌, false≢true}
use mathlib.Core.List.{List, [], ◌∷◌, ◌++◌}
use lib.ListN.{replicate}
use lib.Dec.{leb, eqb, lit<}
use borrow.Author.Tests.{ne_eqb, eqb-true}
use Rattle.hex_digits.specs.Texts.{hex}
use Rattle.octets.specs.If.{ifb}
use Rattle.octets.proofs.If.{ifb_true, ifb_false, on_bool}
use Rattle.octets.proofs.Bools.{and_l, and_r}
use Rattle.names.specs.declared.Name.{Name}
use Rattle.table.specs.declared.Record.{Record}
use Rattle.table.specs.Layout.{small_count, large_count}
use Rattle.table.specs.Records.{place_at, with_place, serial_at, places_said, blank}
use Rattle.search.specs.Search.{find}
use Rattle.soundness.specs.Checked.{is_at}
use Rattle.changes.specs.Records.{in_state}
use Rattle.calls.specs.Effects.{Effect}
use Rattle.demands.specs.Box.{Call, Lent, places_of, counted}
use Rattle.demands.specs.Demand2.{frame_of, of_frame, refusal_conditions, lowest}
use Rattle.demands.specs.Log.{Event, command_of, held_after, paired, or_no_items, or_no_answers, events_of, logged, issued_by}
use Rattle.demands.specs.Demand3.{begins, calls, named_by, names, takes, DueOnly, Path, arrived, went, Run, Demand3}
use Rattle.cases.proofs.Cases.{opened}
use Rattle.demands_met.proofs.Ladder.{served, served_number}
use Rattle.demands_met.proofs.Follows.{opens_due}
use Rattle.wrong_boxes.specs.Wrong.{with_table, saying_places, unnamed, WritesRefused, ForgetsOther}
use Rattle.wrong_boxes.proofs.Calling.{is_byte, bytes_test, calling, calling_on, lent_on, lent_blank, accepted_is}
use Rattle.wrong_boxes.proofs.Given.{no_call, lent_none, none_refused}

-- ---- the table of a call that is refused

written : Effect
written = with_table (saying_places large_count) (served no_call)

written_places : places_said written.table ≡ 256
unfolding opened written with_table saying_places
written_places = refl

blank_places : places_said (blank small_count) ≡ 64
unfolding opened
blank_places = refl

pub writes_refused : Demand3 WritesRefused → ⊥
unfolding written with_table
writes_refused d =
    let four : (served no_call).number ≡ 4 = served_number no_call ∙ none_refused in
    let some : (served no_call).number ≡ 0 → ⊥ = λ z. (let q : ◌≡◌ {A = ℕ} 4 0 = sym four ∙ z in omega arith) in
    let same : written.table ≡ blank small_count = (d small_count refl).refused [] (blank small_count) begins no_call written refl lent_none (sym (ifb_false _ _ _ (ne_eqb (served no_call).number 0 some))) some in
    let q : ◌≡◌ {A = ℕ} 256 64 = sym written_places ∙ ap places_said same ∙ blank_places in
    omega arith

-- ---- a record that nothing named

losing : Call → List ℕ → List ℕ
losing c due = ifb (leb 2 c.clock) (with_place (places_of c) due 0 (unnamed (place_at (places_of c) due 0))) due

-- at clock 1: Create with the name "a", as it should be
one_request : List ℕ
one_request = hex "42007801 000000D0 42007701 00000038 42006901 00000020 42006A02 00000004 00000002 00000000 42006B02 00000004 00000001 00000000 42000D02 00000004 00000001 00000000 42000F01 00000088 42005C05 00000004 00000001 00000000 42007901 00000070 42005705 00000004 00000002 00000000 42012501 00000058 42002805 00000004 00000003 00000000 42002A02 00000004 00000080 00000000 42002C02 00000004 00000004 00000000 42005301 00000020 42005507 00000001 61000000 00000000 42005405 00000004 00000001 00000000"

abbrev one_call : Call
one_call = calling one_request 1

lent_one : Lent one_call
unfolding opened is_byte one_request
lent_one = lent_blank one_request 1 refl (lit< tt)

one_accepted : lowest 1 (refusal_conditions one_call) ≡ 0
unfolding opened one_request frame_of of_frame refusal_conditions lowest
one_accepted = refl

first_left_lem : Effect
first_left_lem = with_table (losing one_call) (served one_call)

-- which leaves key 1 at place 0, with its name; written out, so that the next call is worked out from here
one_table : List ℕ
one_table =
    hex "00000001 00000040 00000000 00000001 00000001 01000080 00000000 00000000"
    ++ (replicate 1008 0
    ++ (hex "00000000 00000000 00000000 00000000 00000004 00000000 00010203 04050607 08090A0B 0C0D0E0F 00000000 00000000 00000000 00000000 00000000 00000000 00000000 00000000 01000000 00000000 61000000 00000000 00000000 00000000 00000000 00000000 00000000 00000000"
    ++ replicate 7056 0))

first_table : first_left_lem.table ≡ one_table
unfolding opened first_left_lem losing with_table one_request one_table
first_table = refl

-- at clock 2: another Create
next_request : List ℕ
next_request = hex "42007801 000000A8 42007701 00000038 42006901 00000020 42006A02 00000004 00000002 00000000 42006B02 00000004 00000001 00000000 42000D02 00000004 00000001 00000000 42000F01 00000060 42005C05 00000004 00000001 00000000 42007901 00000048 42005705 00000004 00000002 00000000 42012501 00000030 42002805 00000004 00000003 00000000 42002A02 00000004 00000080 00000000 42002C02 00000004 00000004 00000000"

abbrev next : Call
next = calling_on one_table next_request 2

next_left : Effect
next_left = with_table (losing next) (served next)

lent_next : Lent next
unfolding opened is_byte one_table next_request
lent_next = lent_on one_table next_request 2 (bytes_test one_table refl) refl (lit< tt)

next_accepted : lowest 1 (refusal_conditions next) ≡ 0
unfolding opened one_table next_request frame_of of_frame refusal_conditions lowest
next_accepted = refl

-- one item, which names nothing and issues 2
is_one : List Event → Bool
is_one [] = false
is_one (ev ∷ []) = eqb (named_by ev.held (command_of ev)) 0 && eqb (issued_by (command_of ev) ev.answer.outcome) 2
is_one (ev ∷ other ∷ events) = false

-- what is seen of a call: whether it is that item, and what it leaves at place 0
record Left : Type 0 where
  pub one : Bool
  pub serial : ℕ
  pub name : ℕ

left_of : List Event → List ℕ → Left
left_of events v = record { one = is_one events; serial = serial_at v 0; name = (place_at small_count v 0).name.len }

-- key 1 stands at place 0 behind it, with no name, and had one before it
next_seen : left_of (events_of next next_left) next_left.table ≡ record { one = true; serial = 1; name = 0 }
unfolding opened next_left losing unnamed with_table one_table next_request is_one left_of named_by issued_by events_of paired held_after or_no_items or_no_answers
next_seen = refl

name_before : (place_at small_count one_table 0).name.len ≡ 1
unfolding opened one_table
name_before = refl

-- a search for nothing finds no place
none_there : (t : List ℕ) → is_at 0 (find small_count t 0) ≡ false
unfolding find is_at
none_there t = ap (is_at 0) (ifb_true (eqb 0 0) None _ refl)

-- along the one item the record at place 0 stays: it is not named, and what is issued has another serial
stayed : {log events : List Event} {t v : List ℕ} → Path small_count log t events v → is_one events ≡ true → serial_at v 0 ≡ 1 → place_at small_count v 0 ≡ place_at small_count t 0
unfolding is_one
stayed arrived e one = absurd (false≢true e)
stayed {t = t} (went ev u tame after arrived) e one =
    let nobody : named_by ev.held (command_of ev) ≡ 0 = eqb-true _ 0 (and_l _ (eqb (issued_by (command_of ev) ev.answer.outcome) 2) e) in
    let two : issued_by (command_of ev) ev.answer.outcome ≡ 2 = eqb-true _ 2 (and_r (eqb (named_by ev.held (command_of ev)) 0) (eqb (issued_by (command_of ev) ev.answer.outcome) 2) e) in
    let unnamed_there : names small_count ev t 0 ≡ false = ap (λ (x : ℕ). is_at 0 (find small_count t x)) nobody ∙ none_there t in
    let untaken : takes small_count ev t 0 ≡ false = on_bool (takes small_count ev t 0)
    (λ y. absurd (let z : ◌≡◌ {A = ℕ} 1 2 = sym one ∙ (tame.taken 0 (lit< tt) y).serial ∙ two in omega arith))
    (λ y. y) in
    tame.others 0 (lit< tt) unnamed_there untaken
stayed (went ev u tame after (went other w also behind rest)) e one = absurd (false≢true e)

-- and so it does before the first
kept_name : (start : List ℕ) → DueOnly small_count (counted next) one_table start → (place_at small_count start 0).name ≡ (place_at small_count one_table 0).name
unfolding in_state
kept_name start due = ap (λ (r : Record). r.name) (due.others 0 (lit< tt))

pub forgets_other : Demand3 ForgetsOther → ⊥
unfolding first_left_lem next_left losing with_table left_of
forgets_other d =
    let log = logged one_call first_left_lem [] in
    let r : Run small_count ForgetsOther log one_table = subst (Run small_count ForgetsOther log) first_table (calls one_call first_left_lem begins refl lent_one (accepted_is one_call first_left_lem one_accepted)) in
    let g = (d small_count refl).goes log one_table r next next_left refl lent_next (accepted_is next next_left next_accepted) in
    let due = opens_due g.opens (served_number next ∙ next_accepted) in
    let same = stayed g.path (ap (λ (l : Left). l.one) next_seen) (ap (λ (l : Left). l.serial) next_seen) in
    let z : ◌≡◌ {A = ℕ} 0 1 =
    sym (ap (λ (l : Left). l.name) next_seen) ∙ ap (λ (r : Record). r.name.len) same ∙ ap (λ (m : Name). m.len) (kept_name g.start due) ∙ name_before in
    omega arith
