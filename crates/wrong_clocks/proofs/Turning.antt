-- Boxes that turn the clock back, of which 02 and 00's hope warn: one stamps the clock that it was given, one stores it, and one lets a key live again whose date looks not yet come.
-- Assumes nothing. The first is refuted by a call that is worked out, the others by a run: a key with dates is created at clock 1 and stopped at clock 9, and then clock 5 is given.
use Prim.Native.Nat.{ℕ, ◌<◌, max}
use native.Mathlib.Omega.{arith}
use native.Mathlib.Decide.{ℕ_discrete}
use mathlib.Core.Path.{◌≡◌, refl, sym, ap, subst, ◌∙◌}
use mathlib.Core.Logic.{⊎_elim}
use mathlib.Core.Bool.{Bool, true, false, not, ◌&&◌, true≢false, false≢true}
use Rattle.std.specs.Prelude.{Option, None, Some}
use mathlib.Core.List.{List, [], ◌∷◌}
use lib.ListN.{take}
use lib.Dec.{ltb, eqb, lit<}
use Rattle.octets.specs.If.{ifb}
use Rattle.octets.specs.Maybe.{◌>>=◌}
use Rattle.octets.specs.Octets.{all}
use Rattle.octets.proofs.Bools.{and_no}
use Rattle.table.specs.declared.Record.{Record}
use Rattle.table.specs.Layout.{small_count}
use Rattle.table.specs.Records.{place_at, state_at, latest_clock, with_clock, blank}
use Rattle.ttlv.specs.Parse.{message}
use Rattle.rules.specs.Numbers.{get_attributes}
use Rattle.answer.specs.Respond.{Response}
use Rattle.answer.specs.Read.{answers_in}
use Rattle.calls.specs.Effects.{Effect}
use Rattle.demands.specs.Box.{Call, Box, Lent, counted}
use Rattle.demands.specs.Demand2.{Demand2, Answered, frame_of, of_frame, refusal_conditions, lowest}
use Rattle.demands.specs.Log.{Event, command_of, held_after, paired, or_no_items, or_no_answers, events_of, logged, issued_by}
use Rattle.demands.specs.Demand3.{Run, begins, calls, code_of, takes, listed, listed_by, Tame, DueOnly, Path, arrived, went, Goes, Demand3}
use Rattle.wrong_boxes.specs.Wrong.{with_table, stamping, left_under, ran_under, Leaves, woken, StampsGiven, StoresGiven, Revives}
use Rattle.dated_cases.specs.Cards.{dated_request, show_request}
use Rattle.dated_cases.proofs.Cases.{dated_opened}
use Rattle.demands_met.proofs.Ladder.{served}
use Rattle.demands_met.proofs.Follows.{opens_due}
use Rattle.wrong_boxes.proofs.Calling.{is_byte, bytes_test, calling, calling_on, lent_on, lent_blank, accepted_is}
use Rattle.wrong_boxes.proofs.Ending.{no_event}

-- ---- a Time Stamp of the clock that was given

-- on a table whose latest clock is 9, clock 5 is given
abbrev earlier : Call
earlier = calling_on (with_clock (blank small_count) 9) show_request 5

lent_earlier : Lent earlier
unfolding dated_opened is_byte
lent_earlier = lent_on (with_clock (blank small_count) 9) show_request 5 (bytes_test (with_clock (blank small_count) 9) refl) refl (lit< tt)

earlier_accepted : lowest 1 (refusal_conditions earlier) ≡ 0
unfolding dated_opened frame_of of_frame refusal_conditions lowest
earlier_accepted = refl

stamped : Effect
stamped = stamping 5 earlier (left_under earlier (frame_of earlier)).answers (left_under earlier (frame_of earlier)).table

-- the Time Stamp of a response
clock_in : Option Response → ℕ
clock_in None = 0
clock_in (Some r) = r.clock

stamped_clock : clock_in (message (take stamped.length stamped.output) >>= answers_in) ≡ 5
unfolding dated_opened stamped left_under ran_under frame_of clock_in
stamped_clock = refl

counts_nine : counted earlier ≡ 9
unfolding dated_opened
counts_nine = refl

pub stamps_given : Demand2 StampsGiven → ⊥
unfolding stamped clock_in ◌>>=◌
stamps_given d =
    let a : Answered earlier stamped = d.answered earlier stamped lent_earlier (accepted_is earlier stamped earlier_accepted) refl in
    let back : (message (take stamped.length stamped.output) >>= answers_in) ≡ answers_in a.response = ap (λ o. o >>= answers_in) a.readable in
    let z : ◌≡◌ {A = ℕ} 5 9 = sym stamped_clock ∙ ap clock_in (back ∙ a.read_back) ∙ counts_nine in
    omega arith

-- ---- a run of three calls, each with one item

-- the one item of a call
head_or : Event → List Event → Event
head_or ev [] = ev
head_or ev (first ∷ events) = first

is_alone : List Event → Bool
is_alone [] = false
is_alone (ev ∷ []) = true
is_alone (ev ∷ next ∷ events) = false

-- goes one tame step
alone_tame : {log events : List Event} {t v : List ℕ} (ev : Event) → Path small_count log t events v → is_alone events ≡ true → Tame small_count (head_or ev events) t v
unfolding head_or is_alone
alone_tame ev arrived e = absurd (false≢true e)
alone_tame ev (went first u tame after arrived) e = tame
alone_tame ev (went first u tame after (went next w also behind rest)) e = absurd (false≢true e)

-- what is seen of the last call
record Seen : Type 0 where
  pub taken_second : ℕ
  pub taken_third : ℕ
  pub bytes_second : Bool
  pub bytes_third : Bool
  pub number : ℕ
  pub alone : Bool
  pub operation : ℕ
  pub issued : ℕ
  pub counts : ℕ
  pub latest_before : ℕ
  pub latest_after : ℕ
  pub state_before : ℕ
  pub state_after : ℕ

-- where `made` is what the box makes of the table that is due
module _ (made : Call → List ℕ → List ℕ) where
  abbrev left_of : Call → Effect
  left_of c = with_table (made c) (served c)

  first_call : Call
  first_call = calling dated_request 1

  second_call : Call
  second_call = calling_on (left_of first_call).table show_request 9

  third_call : Call
  third_call = calling_on (left_of second_call).table show_request 5

  seen : Seen
  seen =
      let second = second_call in
      let third = third_call in
      let left = left_of third in
      let event = head_or no_event (events_of third left) in
      record {
        taken_second = lowest 1 (refusal_conditions second);
        taken_third = lowest 1 (refusal_conditions third);
        bytes_second = all is_byte second.table;
        bytes_third = all is_byte third.table;
        number = left.number;
        alone = is_alone (events_of third left);
        operation = event.asked.operation;
        issued = issued_by (command_of event) event.answer.outcome;
        counts = counted third;
        latest_before = latest_clock third.table;
        latest_after = latest_clock left.table;
        state_before = (place_at small_count third.table 0).state;
        state_after = (place_at small_count left.table 0).state;
      }

-- the key was stopped, by clock 9, and then a Get Attributes came with clock 5
abbrev seen_left : ℕ → ℕ → Seen
seen_left latest state = record {
  taken_second = 0;
  taken_third = 0;
  bytes_second = true;
  bytes_third = true;
  number = 0;
  alone = true;
  operation = get_attributes;
  issued = 0;
  counts = 9;
  latest_before = 9;
  latest_after = latest;
  state_before = 3;
  state_after = state;
}

lent_first : Lent (calling dated_request 1)
unfolding dated_opened is_byte
lent_first = lent_blank dated_request 1 refl (lit< tt)

first_accepted : lowest 1 (refusal_conditions (calling dated_request 1)) ≡ 0
unfolding dated_opened frame_of of_frame refusal_conditions lowest
first_accepted = refl

show_bytes : all is_byte show_request ≡ true
unfolding dated_opened is_byte
show_bytes = refl

-- what is Deactivated, no date changes
stopped_stays : (clock : ℕ) (r : Record) (to : ℕ) → r.state ≡ 3 → listed_by clock r to ≡ false
unfolding listed_by
stopped_stays clock r to e = rw e

-- and Get Attributes moves nothing
show_moves : (code from to : ℕ) → listed get_attributes code from to ≡ false
unfolding listed
show_moves code from to = refl

-- what demand 3 gives of the last call
module _ (made : Call → List ℕ → List ℕ) (d : Demand3 (Leaves made)) {latest state : ℕ} (is : seen made ≡ seen_left latest state) where
  abbrev third : Call
  third = third_call made

  abbrev left : Effect
  left = left_of made third

  going : Goes small_count (logged (second_call made) (left_of made (second_call made)) (logged (first_call made) (left_of made (first_call made)) [])) third left
  unfolding seen first_call second_call third_call
  going =
      let first = first_call made in
      let second = second_call made in
      let r = calls first (left_of made first) begins refl lent_first (accepted_is first (left_of made first) first_accepted) in
      let lent_second = lent_on second.table show_request 9 (bytes_test second.table (ap (λ (s : Seen). s.bytes_second) is)) show_bytes (lit< tt) in
      let lent_third = lent_on third.table show_request 5 (bytes_test third.table (ap (λ (s : Seen). s.bytes_third) is)) show_bytes (lit< tt) in
      let q = calls second (left_of made second) r refl lent_second (accepted_is second (left_of made second) (ap (λ (s : Seen). s.taken_second) is)) in
      (d small_count refl).goes _ _ q third left refl lent_third (accepted_is third left (ap (λ (s : Seen). s.taken_third) is))

  abbrev start : List ℕ
  start = going.start

  due : DueOnly small_count (counted third) third.table start
  unfolding seen
  due = opens_due going.opens (ap (λ (s : Seen). s.number) is)

  abbrev event : Event
  event = head_or no_event (events_of third left)

  step : Tame small_count event start left.table
  unfolding seen
  step = alone_tame no_event going.path (ap (λ (s : Seen). s.alone) is)

  -- the latest clock is 9 still
  latest_is : latest ≡ 9
  unfolding seen
  latest_is =
      sym (ap (λ (s : Seen). s.latest_after) is)
      ∙ step.latest
      ∙ ⊎_elim (λ e. e ∙ ap (λ (s : Seen). s.latest_before) is) (λ e. e ∙ ap (λ (s : Seen). s.counts) is) due.latest

  start_stopped : (place_at small_count start 0).state ≡ 3
  unfolding seen
  start_stopped =
      let before : (place_at small_count third.table 0).state ≡ 3 = ap (λ (s : Seen). s.state_before) is in
      elim (ℕ_discrete (place_at small_count start 0).state (place_at small_count third.table 0).state) [
        | yes e ↦ e ∙ before
        | no e ↦ absurd (true≢false (sym (due.moves 0 (lit< tt) e) ∙ stopped_stays (counted third) (place_at small_count third.table 0) _ before))
      ]

  -- and the key is Deactivated still
  state_is : state ≡ 3
  unfolding seen
  state_is =
      let after : (place_at small_count left.table 0).state ≡ state = ap (λ (s : Seen). s.state_after) is in
      let untaken : takes small_count event start 0 ≡ false = and_no _ _ (ap (λ (s : Seen). not (eqb s.issued 0)) is) in
      elim (ℕ_discrete (place_at small_count left.table 0).state (place_at small_count start 0).state) [
        | yes e ↦ sym after ∙ e ∙ start_stopped
        | no e ↦ absurd (true≢false (sym (step.moves 0 (lit< tt) untaken e).way
            ∙ ap (λ (s : Seen). listed s.operation (code_of (command_of event)) (place_at small_count start 0).state (place_at small_count left.table 0).state) is
            ∙ show_moves (code_of (command_of event)) (place_at small_count start 0).state (place_at small_count left.table 0).state))
      ]

-- ---- the boxes

stores_seen : seen (λ c due. with_clock due c.clock) ≡ seen_left 5 3
unfolding dated_opened is_byte seen first_call second_call third_call no_event head_or is_alone with_table frame_of of_frame refusal_conditions lowest events_of paired held_after or_no_items or_no_answers issued_by
stores_seen = refl

pub stores_given : Demand3 StoresGiven → ⊥
stores_given d = let z : ◌≡◌ {A = ℕ} 5 9 = latest_is (λ c due. with_clock due c.clock) d stores_seen in omega arith

abbrev reviving : Call → List ℕ → List ℕ
reviving c due = ifb (eqb (state_at due 0) 3 && ltb c.clock (place_at small_count due 0).deactivation) (woken due) due

revives_seen : seen reviving ≡ seen_left 9 2
unfolding dated_opened is_byte seen first_call second_call third_call no_event head_or is_alone with_table woken frame_of of_frame refusal_conditions lowest events_of paired held_after or_no_items or_no_answers issued_by
revives_seen = refl

pub revives : Demand3 Revives → ⊥
revives d = let z : ◌≡◌ {A = ℕ} 2 3 = state_is reviving d revives_seen in omega arith
