-- Boxes that are wrong by the second buffer alone: one forgets it, and one wipes it where it refuses.
-- Assumes nothing. Each is refuted by a call that is worked out.
use Prim.Native.Nat.{ℕ, ◌≤◌}
use native.Mathlib.Omega.{arith}
use mathlib.Core.Path.{◌≡◌, refl, sym, ap, subst, ◌∙◌}
use mathlib.Core.List.{List}
use lib.ListN.{length, replicate}
use lib.Dec.{lit<}
use borrow.Author.Tests.{ne_eqb}
use Rattle.octets.proofs.If.{ifb_false}
use Rattle.table.specs.Layout.{small_count}
use Rattle.table.specs.Records.{latest_clock, places_said, blank}
use Rattle.calls.specs.Effects.{Effect}
use Rattle.demands.specs.Box.{Call, Box, Lent}
use Rattle.demands.specs.Demand1.{Demand1, Untouched, Within}
use Rattle.demands.specs.Demand2.{Demand2, frame_of, of_frame, refusal_conditions, lowest}
use Rattle.demands.specs.Log.{Event, items_asked, answers_given, events_of, logged}
use Rattle.demands.specs.Demand3.{Run, begins, calls, Goes, Demand3}
use Rattle.cases.proofs.Cases.{opened}
use Rattle.undone_cases.specs.Cards.{undo_request}
use Rattle.undone_cases.proofs.Cases.{undone_opened}
use Rattle.demands_met.proofs.Ladder.{served, served_number}
use Rattle.demands_met.proofs.Meets.{meets_1}
use Rattle.demands_met.proofs.Meets3.{meets_3}
use Rattle.demands_met.proofs.Only.{answered_due}
use Rattle.wrong_boxes.specs.Wrong.{with_second, WipesSecond, ForgetsSecond}
use Rattle.wrong_boxes.proofs.Given.{no_call, lent_none, none_refused}
use Rattle.wrong_boxes.proofs.Calling.{is_byte, calling, lent_blank}
use Rattle.wrong_boxes.proofs.Due.{zero_one}

-- the box that does as the definitions say
Rightly : Box
Rightly c e = e ≡ served c

rightly_1 : Demand1 Rightly
unfolding Rightly
rightly_1 = meets_1 Rightly (λ c e lent b. b) (λ c lent. (served c, refl))

rightly_3 : Demand3 Rightly
unfolding Rightly
rightly_3 = meets_3 Rightly (λ c e lent b. b)

-- ---- a box that forgets the second buffer

abbrev undo_call : Call
undo_call = calling undo_request 1

lent_undo : Lent undo_call
unfolding undone_opened is_byte
lent_undo = lent_blank undo_request 1 refl (lit< tt)

undo_accepted : lowest 1 (refusal_conditions undo_call) ≡ 0
unfolding undone_opened frame_of of_frame refusal_conditions lowest
undo_accepted = refl

-- under option 3 it should hold the table before the first item, with clock 1 stored; it held a blank one
due_latest : latest_clock (served undo_call).undo ≡ 1
unfolding undone_opened
due_latest = refl

held_latest : latest_clock (blank small_count) ≡ 0
unfolding opened
held_latest = refl

forgotten : Call → Effect
forgotten c = with_second (λ due. c.undo) (served c)

pub forgets_second : Demand2 ForgetsSecond → ⊥
unfolding forgotten with_second
forgets_second d =
    let zero : (served undo_call).number ≡ 0 = served_number undo_call ∙ undo_accepted in
    let q = answered_due undo_call (forgotten undo_call) lent_undo (d.answered undo_call (forgotten undo_call) lent_undo refl zero) zero in
    zero_one (sym held_latest ∙ ap latest_clock q.undo ∙ due_latest)

pub forgets_second_1 : Demand1 ForgetsSecond
unfolding with_second Rightly
forgets_second_1 = record {
  ends = λ c lent. (with_second (λ due. c.undo) (served c), refl);
  numbered = λ c e lent b. subst (λ (x : Effect). x.number ≤ 11) (sym b) (rightly_1.numbered c (served c) lent refl);
  refused = λ c e lent b. subst (λ (x : Effect). (x.number ≡ 0 → ⊥) → Untouched c x) (sym b) (λ h.
      let u = rightly_1.refused c (served c) lent refl h in record { length = u.length; table = u.table; output = u.output; undo = refl });
  answered = λ c e lent b. subst (λ (x : Effect). x.number ≡ 0 → Within c x) (sym b) (λ h.
      let w = rightly_1.answered c (served c) lent refl h in record { short = w.short; room = w.room; same_room = w.same_room; past = w.past });
}

-- demand 3 does not speak of it: its runs are those of the box that does all as it should
module _ (n : ℕ) where
  run_rightly : {log : List Event} {t : List ℕ} → Run n ForgetsSecond log t → Run n Rightly log t
  unfolding with_second Rightly logged events_of
  run_rightly begins = begins
  run_rightly (calls {log} {t} c e r same lent b) =
      subst (λ (x : Effect). Run n Rightly (logged c x log) x.table) (sym b) (calls c (served c) (run_rightly r) same lent refl)

  goes_rightly : (log : List Event) (c : Call) → Goes n log c (served c) → Goes n log c (with_second (λ due. c.undo) (served c))
  unfolding with_second events_of
  goes_rightly log c g = record { start = g.start; opens = g.opens; order = g.order; path = g.path }

pub forgets_second_3 : Demand3 ForgetsSecond
unfolding with_second Rightly
forgets_second_3 n ok = record {
  goes = λ log t r c e same lent b. subst (Goes n log c) (sym b) (goes_rightly n log c ((rightly_3 n ok).goes log t (run_rightly n r) c (served c) same lent refl));
  asked = λ log t r c e same lent b. subst (λ (x : Effect). length (answers_given x) ≤ length (items_asked c)) (sym b) ((rightly_3 n ok).asked log t (run_rightly n r) c (served c) same lent refl);
  refused = λ log t r c e same lent b. subst (λ (x : Effect). (x.number ≡ 0 → ⊥) → x.table ≡ t) (sym b) ((rightly_3 n ok).refused log t (run_rightly n r) c (served c) same lent refl);
}

-- ---- a box that wipes it where it refuses

wiped : Effect
wiped = with_second (λ held. replicate (length held) 0) (served no_call)

-- the second buffer was a blank table, with a place count in its lead
wiped_places : places_said wiped.undo ≡ 0
unfolding opened wiped with_second
wiped_places = refl

held_places : places_said (blank small_count) ≡ 64
unfolding opened
held_places = refl

pub wipes_second : Demand1 WipesSecond → ⊥
unfolding wiped with_second
wipes_second d =
    let four : (served no_call).number ≡ 4 = served_number no_call ∙ none_refused in
    let some : (served no_call).number ≡ 0 → ⊥ = λ z. (let q : ◌≡◌ {A = ℕ} 4 0 = sym four ∙ z in omega arith) in
    let u = d.refused no_call wiped lent_none (sym (ifb_false _ _ _ (ne_eqb (served no_call).number 0 some))) some in
    let q : ◌≡◌ {A = ℕ} 0 64 = sym wiped_places ∙ ap places_said u.undo ∙ held_places in
    omega arith
