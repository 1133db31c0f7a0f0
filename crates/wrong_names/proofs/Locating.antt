-- A box that is wrong by a name: it takes what a Locate found for another key.
-- Assumes nothing. It is refuted by one call that is worked out: keys are created under the names "a" and "b", and "b" is looked for.
use Prim.Native.Nat.{ℕ}
use native.Mathlib.Omega.{arith}
use mathlib.Core.Path.{◌≡◌, refl, sym, ap, ◌∙◌}
use mathlib.Core.Bool.{Bool, true, false, not, ◌&&◌, false≢true, true≢false}
use mathlib.Core.List.{List, [], ◌∷◌, map}
use lib.ListN.{take}
use lib.Dec.{eqb}
use borrow.Author.Tests.{eqb-true, eq-eqb}
use Rattle.octets.proofs.Bools.{and_l, and_r}
use Rattle.names.specs.declared.Name.{Name}
use Rattle.names.specs.Names.{no_name}
use Rattle.table.specs.Layout.{small_count}
use Rattle.table.specs.Records.{blank}
use Rattle.table.proofs.Blank.{serial_blank}
use Rattle.payload.specs.declared.Command.{Command}
use Rattle.payload.specs.declared.Command.TheVariants.{Unsupported, Invalid, Create, Rekey, GetUsageAllocation, Activate, Revoke, Destroy, GetAttributes, Get, Locate}
use Rattle.calls.specs.Effects.{Effect}
use Rattle.demands.specs.Box.{Call}
use Rattle.demands.specs.Demand2.{Demand2, frame_of}
use Rattle.demands.specs.Log.{Event, command_of, held_after, paired, or_no_items, or_no_answers, events_of, issued_by, name_by, heir_from, name_in}
use Rattle.demands.specs.Demand3.{begins, is_made, carries, InOrder, Path, arrived, went, Demand3}
use Rattle.cases.proofs.Cases.{opened}
use Rattle.demands_met.proofs.Ladder.{served}
use Rattle.demands_met.proofs.Called.{Told, item_told, opens_told}
use Rattle.wrong_boxes.specs.Wrong.{responding, ran_under, left_under, first_for, first_answer, LocatesFirst}
use Rattle.wrong_boxes.proofs.Given.{name_request, name_call, lent_name, name_accepted}
use Rattle.wrong_boxes.proofs.Calling.{accepted_is}
use Rattle.wrong_boxes.proofs.Due.{as_due}

-- the last byte of a response, which is that of the identifier that was located
last_of : List ℕ → ℕ
last_of [] = 0
last_of (x ∷ []) = x
last_of (x ∷ y ∷ s) = last_of (y ∷ s)

located : Effect → ℕ
located e = last_of (take e.length e.output)

-- "00000002" was found
due_located : located (served name_call) ≡ 0x32
unfolding opened name_request located last_of
due_located = refl

-- ---- the first key in place of the one that was found

first : Call → Effect
first c = responding c (map first_answer (left_under c (frame_of c)).answers) (left_under c (frame_of c)).table

first_located : located (first name_call) ≡ 0x31
unfolding opened name_request first first_for left_under ran_under frame_of located last_of
first_located = refl

pub locates_first : Demand2 LocatesFirst → ⊥
unfolding first located
locates_first d =
    let q = as_due first d name_call lent_name name_accepted refl in
    let z : ◌≡◌ {A = ℕ} 0x31 0x32 = sym first_located ∙ ap last_of q.bytes ∙ due_located in
    omega arith

-- the name that a command looks for
name_asked : Command → Name
name_asked Unsupported = no_name
name_asked Invalid = no_name
name_asked (Create wanted) = no_name
name_asked (Rekey target offset) = no_name
name_asked (GetUsageAllocation target amount) = no_name
name_asked (Activate target) = no_name
name_asked (Revoke target code) = no_name
name_asked (Destroy target) = no_name
name_asked (GetAttributes target) = no_name
name_asked (Get target) = no_name
name_asked (Locate name) = name

is_locate : Command → Bool
is_locate Unsupported = false
is_locate Invalid = false
is_locate (Create wanted) = false
is_locate (Rekey target offset) = false
is_locate (GetUsageAllocation target amount) = false
is_locate (Activate target) = false
is_locate (Revoke target code) = false
is_locate (Destroy target) = false
is_locate (GetAttributes target) = false
is_locate (Get target) = false
is_locate (Locate name) = true

locate_is : (c : Command) → is_locate c ≡ true → c ≡ Locate (name_asked c)
unfolding is_locate name_asked
locate_is Unsupported h = absurd (false≢true h)
locate_is Invalid h = absurd (false≢true h)
locate_is (Create wanted) h = absurd (false≢true h)
locate_is (Rekey target offset) h = absurd (false≢true h)
locate_is (GetUsageAllocation target amount) h = absurd (false≢true h)
locate_is (Activate target) h = absurd (false≢true h)
locate_is (Revoke target code) h = absurd (false≢true h)
locate_is (Destroy target) h = absurd (false≢true h)
locate_is (GetAttributes target) h = absurd (false≢true h)
locate_is (Get target) h = absurd (false≢true h)
locate_is (Locate name) h = refl

-- three items, of which the last is a Locate that is answered with identifier 1, which by the log has another name
is_other : List Event → Bool
is_other [] = false
is_other (a ∷ []) = false
is_other (a ∷ b ∷ []) = false
is_other (a ∷ b ∷ c ∷ []) =
    is_locate (command_of c) && is_made c.answer.outcome && eqb (carries c.answer.outcome) 1 && not (eqb (name_in 1 (b ∷ a ∷ [])).words.a (name_asked (command_of c)).words.a)
is_other (a ∷ b ∷ c ∷ d ∷ events) = false

first_other : is_other (events_of name_call (first name_call)) ≡ true
unfolding opened name_request first first_for left_under ran_under frame_of is_other is_locate name_asked is_made carries events_of paired held_after or_no_items or_no_answers issued_by name_by heir_from name_in
first_other = refl

-- what is found has the name that is looked for, and what stands the name that the log gives it
no_other : {events : List Event} {t v : List ℕ} → Path small_count [] t events v → InOrder small_count [] t → Told small_count [] t → is_other events ≡ true → ⊥
unfolding is_other
no_other arrived order names e = false≢true e
no_other (went a u tame after arrived) order names e = false≢true e
no_other (went a u tame after (went b w also behind arrived)) order names e = false≢true e
no_other {t = t} (went a u tame after (went b w also behind (went c x third last arrived))) order names e =
    let p = is_locate (command_of c) in
    let q = is_made c.answer.outcome in
    let r = eqb (carries c.answer.outcome) 1 in
    let s = not (eqb (name_in 1 (b ∷ a ∷ [])).words.a (name_asked (command_of c)).words.a) in
    let pqr = and_l (p && q && r) s e in
    let pq = and_l (p && q) r pqr in
    let one : carries c.answer.outcome ≡ 1 = eqb-true (carries c.answer.outcome) 1 (and_r (p && q) r pqr) in
    let finds = third.found (name_asked (command_of c)) (locate_is (command_of c) (and_l p q pq)) (and_r p q pq) in
    let h = finds.there (λ z. (let y : ◌≡◌ {A = ℕ} 1 0 = sym one ∙ z in omega arith)) in
    let told : Told small_count (b ∷ a ∷ []) w = item_told (a ∷ []) u w b also after behind (item_told [] t u a tame order after names) in
    let same : name_in 1 (b ∷ a ∷ []) ≡ name_asked (command_of c) = sym (told.told 1 h.0 (λ z. omega arith) (record { below = h.1.below; serial = h.1.serial ∙ one })) ∙ h.2 in
    true≢false (sym (and_r (p && q && r) s e) ∙ ap not (eq-eqb (name_in 1 (b ∷ a ∷ [])).words.a (name_asked (command_of c)).words.a (ap (λ (m : Name). m.words.a) same)))
no_other (went a u tame after (went b w also behind (went c x third last (went d y fourth end rest)))) order names e = false≢true e

-- no key stands in a blank table
blank_told : Told small_count [] (blank small_count)
blank_told = record { told = λ x i z s. absurd (z (sym s.serial ∙ serial_blank small_count i s.below)) }

pub locates_first_3 : Demand3 LocatesFirst → ⊥
unfolding first
locates_first_3 d =
    let g = (d small_count refl).goes [] (blank small_count) begins name_call (first name_call) refl lent_name (accepted_is name_call (first name_call) name_accepted) in
    no_other g.path g.order (opens_told g.opens blank_told) first_other
