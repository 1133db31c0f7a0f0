-- The boxes that 01 warns of and that demand 2 shuts out.
-- Assumes nothing. Each is refuted by a call that is worked out: it leaves another table, or other bytes, than are due.
use Prim.Native.Nat.{ℕ, max}
use native.Mathlib.Omega.{arith}
use mathlib.Core.Path.{◌≡◌, refl, sym, ap, ◌∙◌}
use Rattle.std.specs.Prelude.{Option, None, Some}
use mathlib.Core.List.{List}
use lib.ListN.{length, take}
use lib.Dec.{lit<}
use Rattle.octets.specs.Octets.{from_be, over}
use Rattle.octets.proofs.Maybe.{some_is}
use Rattle.table.specs.Layout.{small_count}
use Rattle.table.specs.Records.{place_at, with_place, serial_at, blank}
use Rattle.table.proofs.Blank.{serial_blank, latest_blank}
use Rattle.answer.specs.Respond.{Response}
use Rattle.answer.specs.Read.{answers_in}
use Rattle.calls.specs.Effects.{Effect}
use Rattle.engine.specs.Serving.{turned_away}
use Rattle.demands.specs.Box.{Call}
use Rattle.demands.specs.Demand1.{Demand1}
use Rattle.demands.specs.Demand2.{Demand2, Answered, frame_of}
use Rattle.wrong_boxes.specs.Wrong.{NeverEnds, responding, begun_by, kept_by, ran_under, left_under, RefusesAll, DoesNothing, LeavesTable, all_failed, FailsAll, SameAnswer, AnswersFirst, RunsPastStop, with_material_of, SharesMaterial}
use Rattle.cases.specs.Cards.{life_request}
use Rattle.cases.proofs.Cases.{opened}
use Rattle.demands_met.proofs.Ladder.{served}
use Rattle.wrong_boxes.proofs.Due.{zero_one, given, as_due, leaves_due}
use Rattle.wrong_boxes.proofs.Calling.{calling, lent_life, life_accepted, pair_call, lent_pair, pair_accepted, past_request, past_call, lent_past, past_accepted}

abbrev life : Call
life = calling life_request 1

-- ---- no answer at all

pub never_ends : Demand1 NeverEnds → ⊥
never_ends d = (d.ends life (lent_life 1 (lit< tt))).1

-- ---- the life of a key, as it should go

-- what is seen of a call: the serial at place 0, and how long the response is
record Seen : Type 0 where
  pub serial : ℕ
  pub size : ℕ

seen : Effect → Seen
seen e = record { serial = serial_at e.table 0; size = length (take e.length e.output) }

-- a key stands at place 0, and there are five answers
life_seen : seen (served life) ≡ record { serial = 1; size = 416 }
unfolding opened seen
life_seen = refl

life_serial : serial_at (served life).table 0 ≡ 1
unfolding seen
life_serial = ap (λ (s : Seen). s.serial) life_seen

life_length : length (take (served life).length (served life).output) ≡ 416
unfolding seen
life_length = ap (λ (s : Seen). s.size) life_seen

-- none stands there before
blank_serial : serial_at (blank small_count) 0 ≡ 0
blank_serial = serial_blank small_count 0 (lit< tt)

-- nor where the first item begins
begun_serial : serial_at (begun_by life) 0 ≡ 0
unfolding opened
begun_serial = refl

-- ---- the boxes

-- a box that refuses everything refuses what has to be answered
pub refuses_all : Demand2 RefusesAll → ⊥
refuses_all d = zero_one (sym (life_accepted 1 refl) ∙ sym (d.number life (turned_away life.table life.output life.undo 1) (lent_life 1 (lit< tt)) refl))

-- a box that does nothing gives no response
pub does_nothing : Demand2 DoesNothing → ⊥
does_nothing d =
    let q = as_due (λ c. turned_away c.table c.output c.undo 0) d life (lent_life 1 (lit< tt)) (life_accepted 1 refl) refl in
    let z : ◌≡◌ {A = ℕ} 0 416 = ap length q.bytes ∙ life_length in
    omega arith

-- a box that answers as it should and leaves the table
pub leaves_table : Demand2 LeavesTable → ⊥
leaves_table d = zero_one (sym blank_serial ∙ ap (λ (t : List ℕ). serial_at t 0) (leaves_due (λ c due. c.table) d life (lent_life 1 (lit< tt)) (life_accepted 1 refl)) ∙ life_serial)

-- a box that fails every item
pub fails_all : Demand2 FailsAll → ⊥
fails_all d =
    let q = as_due (λ c. responding c (all_failed (frame_of c)) (begun_by c)) d life (lent_life 1 (lit< tt)) (life_accepted 1 refl) refl in
    zero_one (sym begun_serial ∙ ap (λ (t : List ℕ). serial_at t 0) q.table ∙ life_serial)

-- one answer for all has the wrong clock for one of two calls
pub same_answer : (bytes : List ℕ) (table_of : Call → List ℕ) → Demand2 (SameAnswer bytes table_of) → ⊥
same_answer bytes table_of d = let z : ◌≡◌ {A = ℕ} 1 2 = sym (clock_of 1 refl a1) ∙ ap clock_in same ∙ clock_of 2 refl a2 in omega arith
  where
    made : Call → Effect
    made c = record { number = 0; length = length bytes; table = table_of c; output = over bytes c.output; undo = kept_by c (frame_of c) }

    clock_in : Option Response → ℕ
    clock_in None = 0
    clock_in (Some r) = r.clock

    a1 : Answered (calling life_request 1) (made (calling life_request 1))
    a1 = given made d (calling life_request 1) (lent_life 1 (lit< tt)) (life_accepted 1 refl) refl

    a2 : Answered (calling life_request 2) (made (calling life_request 2))
    a2 = given made d (calling life_request 2) (lent_life 2 (lit< tt)) (life_accepted 2 refl) refl

    clock_of : (clock : ℕ) → max clock 0 ≡ clock → (a : Answered (calling life_request clock) (made (calling life_request clock))) → clock_in (answers_in a.response) ≡ clock
    clock_of clock m a = ap clock_in a.read_back ∙ ap (max clock) (latest_blank small_count) ∙ m

    same : answers_in a1.response ≡ answers_in a2.response
    same = ap answers_in (some_is (sym a1.readable ∙ a2.readable))

-- a box that executes the whole batch at its first item and answers that one alone
first : Call → Effect
first c = responding c (take 1 (left_under c (frame_of c)).answers) (left_under c (frame_of c)).table

first_length : length (take (first life).length (first life).output) ≡ 168
unfolding opened first left_under ran_under frame_of
first_length = refl

pub answers_first : Demand2 AnswersFirst → ⊥
unfolding first
answers_first d =
    let q = as_due first d life (lent_life 1 (lit< tt)) (life_accepted 1 refl) refl in
    let z : ◌≡◌ {A = ℕ} 168 416 = sym first_length ∙ ap length q.bytes ∙ life_length in
    omega arith

-- a box that runs past a failure under Stop, and answers as under Stop
past : Call → List ℕ → List ℕ
past c due = (ran_under (λ option. 1) c (frame_of c)).table

past_serial : serial_at (past past_call (served past_call).table) 0 ≡ 1
unfolding opened past ran_under frame_of past_request
past_serial = refl

stopped_serial : serial_at (served past_call).table 0 ≡ 0
unfolding opened past_request
stopped_serial = refl

pub runs_past_stop : Demand2 RunsPastStop → ⊥
unfolding past
runs_past_stop d = zero_one (sym stopped_serial ∙ ap (λ (t : List ℕ). serial_at t 0) (sym (leaves_due past d past_call lent_past past_accepted)) ∙ past_serial)

-- a box that leaves one key with another's material
first_byte : List ℕ → ℕ
first_byte t = from_be (take 1 (place_at small_count t 0).material)

shared : Call → List ℕ → List ℕ
shared c due = with_place small_count due 0 (with_material_of (place_at small_count due 1) (place_at small_count due 0))

-- the first byte of the key at place 0, as it should be and as it is left
record Materials : Type 0 where
  pub due : ℕ
  pub left : ℕ

materials : List ℕ → Materials
materials t = record { due = first_byte t; left = first_byte (shared pair_call t) }

pair_materials : materials (served pair_call).table ≡ record { due = 0; left = 32 }
unfolding opened first_byte shared with_material_of materials
pair_materials = refl

pub shares_material : Demand2 SharesMaterial → ⊥
unfolding shared materials
shares_material d =
    let z : ◌≡◌ {A = ℕ} 32 0 =
    sym (ap (λ (m : Materials). m.left) pair_materials) ∙ ap first_byte (leaves_due shared d pair_call lent_pair pair_accepted) ∙ ap (λ (m : Materials). m.due) pair_materials in
    omega arith
