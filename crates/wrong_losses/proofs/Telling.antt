-- Boxes that demand 3 shuts out by what they say: more answers than items, and an identifier that nobody was given.
-- Assumes nothing. Each is refuted by a call that is worked out.
use Prim.Native.Nat.{ℕ, ◌≤◌}
use native.Mathlib.Omega.{arith}
use mathlib.Core.Path.{◌≡◌, refl, sym, ◌∙◌}
use mathlib.Core.Bool.{Bool, true, false, ◌&&◌, false≢true}
use mathlib.Core.List.{List, [], ◌∷◌, ◌++◌, map}
use lib.ListN.{length}
use lib.Dec.{eqb, lit<}
use borrow.Author.Tests.{eqb-true}
use Rattle.octets.proofs.Bools.{and_l, and_r}
use Rattle.table.specs.Layout.{small_count}
use Rattle.table.specs.Records.{blank}
use Rattle.calls.specs.Effects.{Effect}
use Rattle.demands.specs.Box.{Call}
use Rattle.demands.specs.Demand2.{frame_of}
use Rattle.demands.specs.Log.{Event, command_of, held_after, paired, or_no_items, or_no_answers, items_asked, answers_given, events_of, issued_by, issued}
use Rattle.demands.specs.Demand3.{begins, asks_name, carries, Path, arrived, went, Demand3}
use Rattle.cases.specs.Cards.{life_request}
use Rattle.cases.proofs.Cases.{opened}
use Rattle.wrong_boxes.specs.Wrong.{responding, ran_under, left_under, AnswersTwice, above_for, above_answer, LocatesNobody}
use Rattle.wrong_boxes.proofs.Calling.{calling, accepted_is, lent_life, life_accepted}
use Rattle.wrong_boxes.proofs.Given.{name_request, name_call, lent_name, name_accepted}

-- ---- more answers than items

abbrev life : Call
life = calling life_request 1

twice : Effect
twice = responding life ((left_under life (frame_of life)).answers ++ (left_under life (frame_of life)).answers) (left_under life (frame_of life)).table

twice_answers : length (answers_given twice) ≡ 10
unfolding opened twice left_under ran_under frame_of or_no_answers
twice_answers = refl

life_items : length (items_asked life) ≡ 5
unfolding opened or_no_items
life_items = refl

pub answers_twice : Demand3 AnswersTwice → ⊥
unfolding twice
answers_twice d =
    let h : length (answers_given twice) ≤ length (items_asked life) = (d small_count refl).asked [] (blank small_count) begins life twice refl (lent_life 1 (lit< tt)) (accepted_is life twice (life_accepted 1 refl)) in
    omega (arith, h, twice_answers, life_items)

-- ---- an identifier that nobody was given

-- three items, of which the last is a Locate that is answered with identifier 9, and none before it issued that
is_nobody : List Event → Bool
is_nobody [] = false
is_nobody (a ∷ []) = false
is_nobody (a ∷ b ∷ []) = false
is_nobody (a ∷ b ∷ c ∷ []) = asks_name (command_of c) && eqb (carries c.answer.outcome) 9 && eqb (issued 9 (b ∷ a ∷ [])) 0
is_nobody (a ∷ b ∷ c ∷ d ∷ events) = false

nobody : Effect
nobody = responding name_call (map above_answer (left_under name_call (frame_of name_call)).answers) (left_under name_call (frame_of name_call)).table

nobody_seen : is_nobody (events_of name_call nobody) ≡ true
unfolding opened name_request nobody above_for left_under ran_under frame_of is_nobody asks_name carries events_of paired held_after or_no_items or_no_answers issued_by issued
nobody_seen = refl

-- what a Locate answers stands, and what stands was issued
no_nobody : {events : List Event} {t v : List ℕ} → Path small_count [] t events v → is_nobody events ≡ true → ⊥
unfolding is_nobody
no_nobody arrived e = false≢true e
no_nobody (went a u tame after arrived) e = false≢true e
no_nobody (went a u tame after (went b w also behind arrived)) e = false≢true e
no_nobody (went a u tame after (went b w also behind (went c x third last arrived))) e =
    let asks = and_l (asks_name (command_of c)) (eqb (carries c.answer.outcome) 9) (and_l _ (eqb (issued 9 (b ∷ a ∷ [])) 0) e) in
    let nine : carries c.answer.outcome ≡ 9 = eqb-true _ 9 (and_r (asks_name (command_of c)) (eqb (carries c.answer.outcome) 9) (and_l _ (eqb (issued 9 (b ∷ a ∷ [])) 0) e)) in
    let none : issued 9 (b ∷ a ∷ []) ≡ 0 = eqb-true _ 0 (and_r (asks_name (command_of c) && eqb (carries c.answer.outcome) 9) (eqb (issued 9 (b ∷ a ∷ [])) 0) e) in
    let s = third.located asks (λ z. (let q : ◌≡◌ {A = ℕ} 9 0 = sym nine ∙ z in omega arith)) in
    let known : issued 9 (b ∷ a ∷ []) ≡ 1 = behind.known 9 s.0 (λ z. omega arith) (record { below = s.1.below; serial = s.1.serial ∙ nine }) in
    let q : ◌≡◌ {A = ℕ} 0 1 = sym none ∙ known in
    omega arith
no_nobody (went a u tame after (went b w also behind (went c x third last (went d y fourth end rest)))) e = false≢true e

pub locates_nobody : Demand3 LocatesNobody → ⊥
unfolding nobody
locates_nobody d = no_nobody ((d small_count refl).goes [] (blank small_count) begins name_call nobody refl lent_name (accepted_is name_call nobody name_accepted)).path nobody_seen
