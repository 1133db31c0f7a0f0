-- Which demands the wrong boxes meet: one that refuses everything or does nothing meets 1 and 3; one that leaves a wrong table, or answers of its own that are short enough, meets 1.
-- Assumes nothing.
use Prim.Native.Nat.{ℕ, zero, suc, ◌+◌, ◌^◌, ◌≤◌, ◌<◌}
use native.Mathlib.Omega.{arith}
use mathlib.Core.Path.{◌≡◌, refl, sym, ap, subst, ◌∙◌}
use mathlib.Core.Logic.{inl}
use mathlib.Core.Bool.{true}
use Rattle.std.specs.Prelude.{Option, Some}
use mathlib.Core.List.{List, [], ◌∷◌, map}
use lib.ListN.{length, take, drop, length-map}
use lib.Seq.{drop_at}
use lib.Dec.{leb, ltb}
use borrow.Author.Tests.{eqb-true, eqb-false, le-leb, lt-ltb}
use Rattle.octets.specs.Maybe.{◌>>=◌}
use Rattle.octets.specs.Octets.{over, all}
use Rattle.octets.proofs.Over.{length_over}
use Rattle.octets.proofs.Bools.{and_l, and_i}
use Rattle.octets.proofs.If.{on_if}
use Rattle.ttlv.specs.Items.{Items, encode}
use Rattle.batch_item.specs.Item.{Asked, id_most}
use Rattle.frame.specs.Frame.{Frame, frame_in, option_of, batch_most}
use Rattle.batch_item.proofs.Bounds.{AllBounded}
use Rattle.answer.specs.Respond.{Answer, respond}
use Rattle.answer.specs.Read.{outcome_ok, answer_ok, allowed}
use Rattle.answer.proofs.Front.{response_size}
use Rattle.table.specs.Layout.{places_ok}
use Rattle.table.specs.Records.{blank}
use Rattle.values.specs.Values.{above_zero}
use Rattle.changes.specs.Records.{in_state}
use Rattle.changes.specs.Dates.{began}
use Rattle.batch.specs.Batch.{Ran, running}
use Rattle.settle.specs.Undo.{settled}
use Rattle.batch_keeps.proofs.Batches.{Leaves as Left}
use Rattle.calls.specs.Effects.{Effect}
use Rattle.demands.specs.Box.{Call, Box, Lent, places_of, counted}
use Rattle.demands.specs.Demand1.{Demand1, Untouched, Within, refusals}
use Rattle.demands.specs.Demand2.{frame_of, refusal_conditions, lowest}
use Rattle.demands.specs.Log.{Event, items_asked, answers_given, events_of, onto, logged}
use Rattle.demands.specs.Demand3.{Run, begins, calls, InOrder, Path, arrived, Opens, accepted, refused, Demand3}
use Rattle.wrong_boxes.specs.Wrong.{or_refused, responding, begun_by, kept_by, ran_under, left_under, with_table, Leaves, RefusesAll, DoesNothing, failed_answer, all_failed, FailsAll, SameAnswer, AnswersFirst, StampsGiven, SaysDone}
use Rattle.demands_met.proofs.Ladder.{served, served_number, lowest_most, Accepted, request_of, start_of, ran_by, left_of, turned, Told, away, accepted as taken, told}
use Rattle.demands_met.proofs.Meets.{counting_is, counting_above, bounded, count_facts, ran_leaves, left_leaves, meets_1}
use Rattle.demands_met.proofs.Ordered.{inv_order}
use Rattle.demands_met.proofs.Runs.{events_away, asked_away, blank_books}

-- ---- demand 3

-- a box that only ever turns calls away, with whatever number, 0 included
module _ (B : Box) (still : (c : Call) (e : Effect) → B c e → (k : ℕ) × (e ≡ turned c k)) where
  no_events : (c : Call) (e : Effect) → B c e → events_of c e ≡ []
  no_events c e b = let p = still c e b in ap (events_of c) p.1 ∙ events_away c p.0

  same_table : (c : Call) (e : Effect) → B c e → e.table ≡ c.table
  same_table c e b = ap (λ (x : Effect). x.table) (still c e b).1

  module _ (n : ℕ) (ok : places_ok n ≡ true) where
    -- so nothing ever happens
    still_run : {log : List Event} {t : List ℕ} → Run n B log t → (log ≡ []) × (t ≡ blank n)
    unfolding logged onto
    still_run begins = (refl, refl)
    still_run (calls {log} c e r same lent b) =
        let before = still_run r in
        (ap (λ (events : List Event). onto events log) (no_events c e b) ∙ before.0, same_table c e b ∙ same ∙ before.1)

    still_order : {log : List Event} {t : List ℕ} → Run n B log t → InOrder n log t
    still_order {log} {t} r =
        let p = still_run r in
        let books = blank_books n ok in
        subst (λ (l : List Event). InOrder n l t) (sym p.0) (subst (InOrder n []) (sym p.1) (inv_order [] (blank n) books.inv books.dead))

    still_opens : (c : Call) (number : ℕ) → Opens n c number c.table
    unfolding in_state
    still_opens c zero = accepted (record { latest = inl refl; issued = refl; moves = λ i low h. absurd (h refl); others = λ i low. refl })
    still_opens c (suc k) = refused (λ z. (let q : suc k ≡ 0 = z in omega arith))

  still_meets_3 : Demand3 B
  still_meets_3 n ok = record {
    goes = λ log t r c e same lent b. record {
      start = c.table;
      opens = still_opens n ok c e.number;
      order = subst (InOrder n log) (sym same) (still_order n ok r);
      path = subst (λ (u : List ℕ). Path n log c.table (events_of c e) u) (sym (same_table c e b)) (subst (λ (events : List Event). Path n log c.table events c.table) (sym (no_events c e b)) arrived);
    };
    asked = λ log t r c e same lent b.
        let p = still c e b in
        subst (λ (x : Effect). length (answers_given x) ≤ length (items_asked c)) (sym p.1) (asked_away c p.0);
    refused = λ log t r c e same lent b h. same_table c e b ∙ same;
  }

-- "Demand 3 holds for a box that refuses everything"
pub refuses_all_3 : Demand3 RefusesAll
refuses_all_3 = still_meets_3 RefusesAll (λ c e b. (1, b))

-- "or does nothing"
pub does_nothing_3 : Demand3 DoesNothing
unfolding or_refused
does_nothing_3 = still_meets_3 DoesNothing (λ c e b. subst (λ (x : Effect). (k : ℕ) × (x ≡ turned c k)) (sym b) (away c))
  where
    away : (c : Call) → (k : ℕ) × (or_refused c (turned c 0) ≡ turned c k)
    away c = on_if (λ (x : Effect). (k : ℕ) × (x ≡ turned c k)) (λ h. (0, refl)) (λ h. (lowest 1 (refusal_conditions c), refl))

-- ---- demand 1

-- what demand 1 says of an outcome
record Fits (c : Call) (e : Effect) : Type 0 where
  pub numbered : e.number ≤ refusals
  pub refused : (e.number ≡ 0 → ⊥) → Untouched c e
  pub answered : e.number ≡ 0 → Within c e

fits_away : (c : Call) (k : ℕ) → k ≤ refusals → (k ≡ 0 → ⊥) → Fits c (turned c k)
fits_away c k l z = record { numbered = l; refused = λ h. record { length = refl; table = refl; output = refl; undo = refl }; answered = λ h. absurd (z h) }

fits_meets_1 : (made : Call → Effect) → ((c : Call) → Lent c → Fits c (made c)) → Demand1 (λ c e. e ≡ made c)
fits_meets_1 made fits = record {
  ends = λ c lent. (made c, refl);
  numbered = λ c e lent b. subst (λ (x : Effect). x.number ≤ refusals) (sym b) (fits c lent).numbered;
  refused = λ c e lent b. subst (λ (x : Effect). (x.number ≡ 0 → ⊥) → Untouched c x) (sym b) (fits c lent).refused;
  answered = λ c e lent b. subst (λ (x : Effect). x.number ≡ 0 → Within c x) (sym b) (fits c lent).answered;
}

-- a box that refuses as it should, and keeps within its room where a request is accepted
fits_or_refused : (c : Call) (e : Effect) → (lowest 1 (refusal_conditions c) ≡ 0 → (e.number ≡ 0) × Within c e) → Fits c (or_refused c e)
unfolding or_refused refusal_conditions
fits_or_refused c e w =
    on_if (Fits c)
    (λ h. (let p = w (eqb-true (lowest 1 (refusal_conditions c)) 0 h) in record { numbered = omega (arith, p.0); refused = λ z. absurd (z p.0); answered = λ n. p.1 }))
    (λ h. fits_away c (lowest 1 (refusal_conditions c)) (let m : lowest 1 (refusal_conditions c) < 1 + 11 = lowest_most 1 (refusal_conditions c) (omega arith) in omega arith) (eqb-false (lowest 1 (refusal_conditions c)) 0 h))

pub refuses_all_1 : Demand1 RefusesAll
refuses_all_1 = fits_meets_1 (λ c. turned c 1) (λ c lent. fits_away c 1 (omega arith) (λ z. omega arith))

pub does_nothing_1 : Demand1 DoesNothing
does_nothing_1 =
    fits_meets_1 (λ c. or_refused c (turned c 0))
    (λ c lent. fits_or_refused c (turned c 0) (λ h. (refl, record { short = omega arith; room = omega arith; same_room = refl; past = refl })))

-- what our definitions leave keeps within the room
within_served : (c : Call) → Lent c → (served c).number ≡ 0 → Within c (served c)
within_served c lent n = (meets_1 (λ d e. e ≡ served d) (λ d e l b. b) (λ d l. (served d, refl))).answered c (served c) lent refl n

-- a box that answers as it should, and leaves whatever table
pub leaves_1 : (made : Call → List ℕ → List ℕ) → Demand1 (Leaves made)
unfolding with_table
leaves_1 made =
    fits_meets_1 (λ c. or_refused c (with_table (made c) (served c)))
    (λ c lent. fits_or_refused c (with_table (made c) (served c)) (λ h.
    let n : (served c).number ≡ 0 = served_number c ∙ h in
    let w : Within c (served c) = within_served c lent n in
    (n, record { short = w.short; room = w.room; same_room = w.same_room; past = w.past })))

-- ---- answers of their own

-- a call that no refusal is due to is accepted
told_accepted : (c : Call) (e : Effect) → Told c e → e.number ≡ 0 → Accepted c
told_accepted c e (away k) z = absurd (omega arith)
told_accepted c e (taken a) z = a

-- bytes over the front of the output
abbrev writing : (Call → List ℕ) → (Call → List ℕ) → Call → Effect
writing bytes table_of c = record { number = 0; length = length (bytes c); table = table_of c; output = over (bytes c) c.output; undo = kept_by c (frame_of c) }

-- a box that refuses as it should, writes bytes that are short enough where a request is accepted, and leaves whatever table
writing_1 : (bytes table_of : Call → List ℕ) → ((c : Call) → Lent c → Accepted c → length (bytes c) ≤ 6360) → Demand1 (λ c e. e ≡ or_refused c (writing bytes table_of c))
writing_1 bytes table_of short =
    fits_meets_1 (λ c. or_refused c (writing bytes table_of c)) (λ c lent. fits_or_refused c (writing bytes table_of c) (λ h.
    let a : Accepted c = told_accepted c (served c) (told c) (served_number c ∙ h) in
    let room : 6360 ≤ length c.output = a.room in
    let l : length (bytes c) ≤ 6360 = short c lent a in (
      refl,
      record {
        short = l;
        room = omega arith;
        same_room = length_over (bytes c) c.output (omega arith);
        past = drop_at (bytes c) (drop (length (bytes c)) c.output) (length (bytes c)) refl;
      },
    )))

-- one answer for all, if it is short enough
pub same_answer_1 : (bytes : List ℕ) (table_of : Call → List ℕ) → length bytes ≤ 6360 → Demand1 (SameAnswer bytes table_of)
same_answer_1 bytes table_of short = writing_1 (λ c. bytes) table_of (λ c lent a. short)

-- answers that a response may have
record Fine (answers : List Answer) : Type 0 where
  pub ok : all answer_ok answers ≡ true
  pub some : 1 ≤ length answers
  pub few : length answers ≤ batch_most

fine_first : (answers : List Answer) → Fine answers → Fine (take 1 answers)
unfolding all
fine_first [] f = f
fine_first (a ∷ answers) f = record { ok = and_i (answer_ok a) true (and_l (answer_ok a) (all answer_ok answers) f.ok) refl; some = omega arith; few = omega arith }

fine_short : (clock : ℕ) (answers : List Answer) → above_zero clock ≡ true → Fine answers → length (encode (respond (record { clock = clock; answers = answers }))) ≤ 6360
unfolding allowed
fine_short clock answers h f =
    let n = length answers in
    let ok : allowed (record { clock = clock; answers = answers }) ≡ true =
    and_i _ (all answer_ok answers) (and_i _ (leb n batch_most) (and_i (above_zero clock) (leb 1 n) h (le-leb 1 n f.some)) (le-leb n batch_most f.few)) f.ok in
    response_size (record { clock = clock; answers = answers }) ok

-- the clock that counts is from 1 up
counted_above : (c : Call) → Lent c → Accepted c → above_zero (counted c) ≡ true
counted_above c lent a = ap above_zero (sym (counting_is c)) ∙ counting_above c lent a

responding_1 : (answers_of : Call → List Answer) (table_of : Call → List ℕ) → ((c : Call) → Lent c → Accepted c → Fine (answers_of c)) → Demand1 (λ c e. e ≡ or_refused c (responding c (answers_of c) (table_of c)))
responding_1 answers_of table_of fine =
    writing_1 (λ c. encode (respond (record { clock = counted c; answers = answers_of c }))) table_of (λ c lent a. fine_short (counted c) (answers_of c) (counted_above c lent a) (fine c lent a))

-- the frame of an accepted call
frame_is : (c : Call) (a : Accepted c) → frame_of c ≡ Some a.frame
unfolding frame_of ◌>>=◌
frame_is c a = ap (λ (m : Option Items). m >>= frame_in) a.reads ∙ a.framed

-- every item failed: operations and IDs are as the frame bounds them
failed_ok : (items : List Asked) → AllBounded items → all answer_ok (map failed_answer items) ≡ true
unfolding all answer_ok outcome_ok
failed_ok [] b = refl
failed_ok (asked ∷ items) b =
    and_i _ (all answer_ok (map failed_answer items))
    (and_i _ true (and_i (ltb asked.operation (2 ^ 32)) (leb (length asked.id) id_most) (lt-ltb asked.operation (2 ^ 32) b.0.below) (le-leb (length asked.id) id_most b.0.short)) refl)
    (failed_ok items b.1)

failed_fine : (c : Call) → Lent c → Accepted c → Fine (all_failed (frame_of c))
unfolding all_failed
failed_fine c lent a = subst (λ (o : Option Frame). Fine (all_failed o)) (sym (frame_is c a)) (on_if Fine (λ h. all_fine) (λ h. fine_first _ all_fine))
  where
    all_fine : Fine (map failed_answer a.frame.items)
    all_fine =
        let n : length (map failed_answer a.frame.items) ≡ length a.frame.items = length-map a.frame.items failed_answer in
        record { ok = failed_ok a.frame.items (bounded c lent a); some = omega (arith, (count_facts c lent a).0); few = omega (arith, (count_facts c lent a).1) }

pub fails_all_1 : Demand1 FailsAll
fails_all_1 = responding_1 (λ c. all_failed (frame_of c)) begun_by failed_fine

-- the first answer alone
abbrev left_rightly : Call → Ran
left_rightly c = left_under c (frame_of c)

-- it is what is left of the batch that is due
left_rightly_lem : (c : Call) (a : Accepted c) → left_rightly c ≡ left_of c a
unfolding left_under ran_under
left_rightly_lem c a =
    ap (left_under c) (frame_is c a)
    ∙ ap (λ (k : ℕ).
    let start = began (places_of c) k c.table in
    settled (request_of a.frame).option start (running (places_of c) c.strip start (request_of a.frame))) (sym (counting_is c))

-- a batch of an accepted call, run or undone
leaves_fine : (c : Call) (lent : Lent c) (a : Accepted c) (ran : Ran)
    → Left (places_of c) c.strip (option_of a.frame.header.option) lent.strip (start_of c) a.frame.items ran → Fine ran.answers
leaves_fine c lent a ran l = record {
  ok = l.ok;
  some = l.some (count_facts c lent a).0;
  few = omega (arith, l.few, (count_facts c lent a).1);
}

left_fine : (c : Call) → Lent c → (a : Accepted c) → Fine (left_rightly c).answers
left_fine c lent a = subst (λ (r : Ran). Fine r.answers) (sym (left_rightly_lem c a)) (leaves_fine c lent a (left_of c a) (left_leaves c lent a))

pub answers_first_1 : Demand1 AnswersFirst
answers_first_1 = responding_1 (λ c. take 1 (left_rightly c).answers) (λ c. (left_rightly c).table) (λ c lent a. fine_first _ (left_fine c lent a))

-- the answers of an undone batch as they went
abbrev ran_rightly : Call → Ran
ran_rightly c = ran_under (λ option. option) c (frame_of c)

-- they are those of the batch that is due
ran_rightly_lem : (c : Call) (a : Accepted c) → ran_rightly c ≡ ran_by c a
unfolding ran_under
ran_rightly_lem c a =
    ap (ran_under (λ option. option) c) (frame_is c a)
    ∙ ap (λ (k : ℕ). running (places_of c) c.strip (began (places_of c) k c.table) (request_of a.frame)) (sym (counting_is c))

pub says_done_1 : Demand1 SaysDone
says_done_1 =
    responding_1 (λ c. (ran_rightly c).answers) (λ c. (left_rightly c).table)
    (λ c lent a. subst (λ (r : Ran). Fine r.answers) (sym (ran_rightly_lem c a)) (leaves_fine c lent a (ran_by c a) (ran_leaves c lent a)))

-- the clock that was given in place of the one that counts
pub stamps_given_1 : Demand1 StampsGiven
stamps_given_1 =
    writing_1 (λ c. encode (respond (record { clock = c.clock; answers = (left_rightly c).answers }))) (λ c. (left_rightly c).table)
    (λ c lent a. fine_short c.clock (left_rightly c).answers a.clock (left_fine c lent a))
