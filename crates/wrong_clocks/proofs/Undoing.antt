-- Boxes that 02 warns of and that demands 2 and 3 shut out: one leaves what an undone batch did, and one says of undone items that they were done.
-- Assumes nothing. Both are refuted by one call that is worked out: under option 3 a Create that succeeds, then one that fails.
use Prim.Native.Nat.{ℕ}
use native.Mathlib.Omega.{arith}
use mathlib.Core.Path.{◌≡◌, refl, sym, ap, ◌∙◌}
use mathlib.Core.Bool.{Bool, true, false, not, ◌&&◌, false≢true}
use mathlib.Core.List.{List, [], ◌∷◌}
use lib.ListN.{length, take}
use lib.Dec.{eqb, lit<}
use borrow.Author.Tests.{eqb-true, not-true}
use Rattle.octets.proofs.Bools.{both}
use Rattle.table.specs.Layout.{small_count}
use Rattle.table.specs.Records.{serial_at, blank}
use Rattle.calls.specs.Effects.{Effect}
use Rattle.demands.specs.Box.{Call, Lent}
use Rattle.demands.specs.Demand2.{Demand2, frame_of, of_frame, refusal_conditions, lowest}
use Rattle.demands.specs.Log.{Event, command_of, held_after, paired, or_no_items, or_no_answers, events_of, onto, logged, issued_by, issued}
use Rattle.demands.specs.Demand3.{begins, calls, Stands, is_made, Path, arrived, went, Demand3}
use Rattle.demands_met.proofs.Ladder.{served}
use Rattle.demands_met.proofs.Follows.{in_order_lem}
use Rattle.undone_cases.specs.Cards.{undo_request}
use Rattle.undone_cases.proofs.Cases.{undone_opened}
use Rattle.wrong_boxes.specs.Wrong.{with_table, responding, ran_under, left_under, KeepsUndone, SaysDone}
use Rattle.wrong_boxes.proofs.Calling.{is_byte, calling, lent_blank, accepted_is}
use Rattle.wrong_boxes.proofs.Filling.{begun_at, filled_blank, filled_begun}
use Rattle.wrong_boxes.proofs.Due.{zero_one, as_due, leaves_due}

-- ---- the call

abbrev undo_call : Call
undo_call = calling undo_request 1

lent_undo : Lent undo_call
unfolding undone_opened is_byte
lent_undo = lent_blank undo_request 1 refl (lit< tt)

undo_accepted : lowest 1 (refusal_conditions undo_call) ≡ 0
unfolding undone_opened frame_of of_frame refusal_conditions lowest
undo_accepted = refl

-- two items, of which the first issued identifier 1, and the second counts as never made
is_first_alone : List Event → Bool
is_first_alone [] = false
is_first_alone (ev ∷ []) = false
is_first_alone (ev ∷ next ∷ []) = eqb (issued_by (command_of ev) ev.answer.outcome) 1 && not (is_made next.answer.outcome)
is_first_alone (ev ∷ next ∷ another ∷ events) = false

-- what is seen of it: the serial at place 0, how long the response is, how often identifier 1 was issued by the log, and by which items
record Seen : Type 0 where
  pub serial : ℕ
  pub size : ℕ
  pub times : ℕ
  pub first_alone : Bool

seen : Effect → Seen
seen e = record {
  serial = serial_at e.table 0;
  size = length (take e.length e.output);
  times = issued 1 (logged undo_call e []);
  first_alone = is_first_alone (events_of undo_call e);
}

-- as it should be: no key stands and none was issued
due_seen : seen (served undo_call) ≡ record { serial = 0; size = 184; times = 0; first_alone = false }
unfolding undone_opened seen is_first_alone is_made logged onto events_of paired held_after or_no_items or_no_answers issued_by issued
due_seen = refl

-- ---- a box that leaves what an undone batch did

keeping : Call → List ℕ → List ℕ
keeping c due = (ran_under (λ option. option) c (frame_of c)).table

kept : Effect
kept = with_table (keeping undo_call) (served undo_call)

-- key 1 stands, and nobody issued it
kept_seen : seen kept ≡ record { serial = 1; size = 184; times = 0; first_alone = false }
unfolding undone_opened kept keeping with_table ran_under frame_of seen is_first_alone is_made logged onto events_of paired held_after or_no_items or_no_answers issued_by issued
kept_seen = refl

pub keeps_undone : Demand2 KeepsUndone → ⊥
unfolding keeping kept with_table seen
keeps_undone d =
    zero_one (sym (ap (λ (s : Seen). s.serial) due_seen)
    ∙ ap (λ (t : List ℕ). serial_at t 0) (sym (leaves_due keeping d undo_call lent_undo undo_accepted)) ∙ ap (λ (s : Seen). s.serial) kept_seen)

pub keeps_undone_3 : Demand3 KeepsUndone → ⊥
unfolding keeping kept seen
keeps_undone_3 d =
    let r = calls undo_call kept begins refl lent_undo (accepted_is undo_call kept undo_accepted) in
    let there : Stands small_count 1 kept.table 0 = record { below = lit< tt; serial = ap (λ (s : Seen). s.serial) kept_seen } in
    zero_one (sym (ap (λ (s : Seen). s.times) kept_seen) ∙ (in_order_lem KeepsUndone small_count refl (d small_count refl) r).known 1 0 (λ z. omega arith) there)

-- ---- a box that says of undone items that they were done

said : Effect
said = responding undo_call (ran_under (λ option. option) undo_call (frame_of undo_call)).answers (left_under undo_call (frame_of undo_call)).table

-- it leaves the table that it should, and issues identifier 1
said_seen : seen said ≡ record { serial = 0; size = 224; times = 1; first_alone = true }
unfolding undone_opened said left_under ran_under frame_of seen is_first_alone is_made logged onto events_of paired held_after or_no_items or_no_answers issued_by issued
said_seen = refl

saying : Call → Effect
saying c = responding c (ran_under (λ option. option) c (frame_of c)).answers (left_under c (frame_of c)).table

pub says_done : Demand2 SaysDone → ⊥
unfolding saying said seen
says_done d =
    let q = as_due saying d undo_call lent_undo undo_accepted refl in
    let z : ◌≡◌ {A = ℕ} 224 184 = sym (ap (λ (s : Seen). s.size) said_seen) ∙ ap length q.bytes ∙ ap (λ (s : Seen). s.size) due_seen in
    omega arith

-- where the first of two items issued identifier 1, and the second counts as never made, its record stands behind them
issued_stands : {log events : List Event} {t v : List ℕ} → Path small_count log t events v → is_first_alone events ≡ true → (i : ℕ) × Stands small_count 1 v i
unfolding is_first_alone
issued_stands arrived e = absurd (false≢true e)
issued_stands (went ev u tame after arrived) e = absurd (false≢true e)
issued_stands (went ev u tame after (went next v also behind arrived)) e =
    let p = both (eqb (issued_by (command_of ev) ev.answer.outcome) 1) (not (is_made next.answer.outcome)) e in
    let is : issued_by (command_of ev) ev.answer.outcome ≡ 1 = eqb-true _ 1 p.0 in
    let s = tame.stands (λ z. (let q : ◌≡◌ {A = ℕ} 1 0 = sym is ∙ z in omega arith)) in
    (s.0, record { below = s.1.below; serial = ap (λ (t : List ℕ). serial_at t s.0) (also.failed (not-true _ p.1)) ∙ s.1.serial ∙ is })
issued_stands (went ev u tame after (went next v also behind (went another w third last rest))) e = absurd (false≢true e)

-- none stands: the table is the one before the first item
said_table : said.table ≡ begun_at (blank small_count)
unfolding undone_opened said left_under ran_under frame_of
said_table = refl

pub says_done_3 : Demand3 SaysDone → ⊥
unfolding said seen
says_done_3 d =
    let goes = (d small_count refl).goes [] (blank small_count) begins undo_call said refl lent_undo (accepted_is undo_call said undo_accepted) in
    let s = issued_stands goes.path (ap (λ (x : Seen). x.first_alone) said_seen) in
    let free = (filled_begun 0 (blank small_count) filled_blank (omega arith)).free s.0 (omega arith) s.1.below in
    zero_one (sym free ∙ ap (λ (t : List ℕ). serial_at t s.0) (sym said_table) ∙ s.1.serial)
