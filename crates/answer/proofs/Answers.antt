-- Responses read back: what is written is read as it was meant, and only what is written is read.
-- Assumes nothing.
use mathlib.Core.Path.{◌≡◌, refl, sym, ap, ◌∙◌}
use Prim.Native.Nat.{ℕ, suc, ◌^◌, ◌≤◌, ◌<◌}
use native.Mathlib.Omega.{arith}
use mathlib.Core.Bool.{true, false, false≢true}
use Rattle.std.specs.Prelude.{Option, None, Some}
use mathlib.Core.List.{List, [], ◌∷◌}
use lib.ListN.{length}
use lib.Dec.{leb, ltb}
use borrow.Author.Tests.{eqb-true, leb-true, ltb-true, eq-eqb, le-leb}
use Rattle.octets.specs.If.{ifb}
use Rattle.octets.specs.Maybe.{◌>>=◌, ◌>>◌}
use Rattle.octets.specs.Octets.{all}
use Rattle.ttlv_types.specs.Types.{integer, enumeration, byte_string, date_time}
use Rattle.ttlv.specs.Items.{Items, nil, value, group, ended}
use Rattle.fields.specs.Fields.{starts_with, bytes_of, body_of, optional}
use Rattle.octets.proofs.Bools.{both, and_i}
use Rattle.tags.specs.Tags.{batch_count, batch_item, operation_tag, protocol_version, protocol_version_major, protocol_version_minor, unique_batch_item_id, response_header, response_message, time_stamp}
use Rattle.values.specs.Values.{not_negative, above_zero}
use Rattle.batch_item.specs.Item.{id_most, id_ok, id_bytes}
use Rattle.frame.specs.Frame.{batch_most}
use Rattle.plans.specs.declared.Outcome.{Outcome}
use Rattle.plans.specs.declared.Outcome.TheVariants.{Failed, Created, Done, Showed, Got, Located, Undone}
use Rattle.answer.specs.Respond.{Answer, Response, outcome_items, id_items, answer_items, batch_items, version_items, header_items, respond}
use Rattle.answer.specs.Read.{answer_in, answers_of, head_in, outcome_ok, answer_ok, allowed, if_allowed, answers_in}
use Rattle.octets.proofs.Maybe.{not_some, some_is, on_bind, on_test}
use Rattle.answer.proofs.Fields.{ended_is, body_spells, bytes_back, bytes_spells, spelled_back, spelled_spells, fixed_back, fixed_spells, absent_back, given_back, on_optional}
use Rattle.answer.proofs.Outcomes.{outcome_back, outcome_spells}

-- ---- the ID

-- the reader of an ID that is there
abbrev id_first : Items → Option (List ℕ × Items)
id_first t = bytes_of unique_batch_item_id byte_string t

-- an outcome starts with its status
no_id : (o : Outcome) → starts_with unique_batch_item_id (outcome_items o) ≡ false
unfolding starts_with outcome_items
no_id (Failed reason) = refl
no_id (Created serial) = refl
no_id (Done serial) = refl
no_id (Showed shown) = refl
no_id (Got key) = refl
no_id (Located serial) = refl
no_id Undone = refl

-- an ID, as it is read in front of the rest
record IdRead (id : List ℕ) (rest : Items) : Type 0 where
  given : Option (List ℕ)
  read : optional unique_batch_item_id id_first (id_items id rest) ≡ Some (given, rest)
  ok : id_ok given ≡ true
  means : id_bytes given ≡ id

id_back : (id : List ℕ) (rest : Items) → starts_with unique_batch_item_id rest ≡ false → length id ≤ id_most → IdRead id rest
unfolding id_items id_ok id_bytes
id_back [] rest n h = record { given = None; read = absent_back unique_batch_item_id id_first rest n; ok = refl; means = refl }
id_back (x ∷ id) rest n h =
    let t = value unique_batch_item_id byte_string (x ∷ id) rest in
    let e : id_first t ≡ Some (x ∷ id, rest) = bytes_back unique_batch_item_id byte_string (x ∷ id) rest in
    record {
      given = Some (x ∷ id);
      read = given_back unique_batch_item_id id_first t (unfold starts_with in refl) e;
      ok = and_i _ _ (le-leb 1 (suc (length id)) (omega arith)) (le-leb (suc (length id)) id_most h);
      means = refl;
    }

id_spells : (t : Items) {a : Option (List ℕ) × Items} → optional unique_batch_item_id id_first t ≡ Some a → id_ok a.0 ≡ true
    → t ≡ id_items (id_bytes a.0) a.1
unfolding id_ok id_bytes id_items
id_spells t h =
    on_optional unique_batch_item_id id_first t (λ a. id_ok a.0 ≡ true → t ≡ id_items (id_bytes a.0) a.1) h
    (λ o. refl)
    (λ v rest e o. bytes_spells unique_batch_item_id byte_string t e ∙ written v rest o)
  where
    written : (v : List ℕ) (rest : Items) → id_ok (Some v) ≡ true → value unique_batch_item_id byte_string v rest ≡ id_items v rest
    written [] rest o = absurd (false≢true o)
    written (x ∷ v) rest o = refl

-- ---- one answer

-- what `answer_ok` says, fact by fact
pub record AnswerFacts (a : Answer) : Type 0 where
  pub operation_short : a.operation < 256 ^ 4
  pub id_short : length a.id ≤ id_most
  pub outcome_ok : outcome_ok a.operation a.outcome ≡ true

pub answer_facts : (a : Answer) → answer_ok a ≡ true → AnswerFacts a
unfolding answer_ok
answer_facts a h =
    let p2 = both _ (outcome_ok a.operation a.outcome) h in
    let p1 = both (ltb a.operation (2 ^ 32)) (leb (length a.id) id_most) p2.0 in
    record {
      operation_short = ltb-true a.operation (2 ^ 32) p1.0;
      id_short = leb-true (length a.id) id_most p1.1;
      outcome_ok = p2.1;
    }

pub answer_back : (a : Answer) → answer_ok a ≡ true → answer_in (answer_items a) ≡ Some a
unfolding answer_in answer_items ◌>>=◌ ◌>>◌
answer_back a h =
    let f = answer_facts a h in
    let i = id_back a.id (outcome_items a.outcome) (no_id a.outcome) f.id_short in
    rw (
      spelled_back 4 operation_tag enumeration a.operation _ f.operation_short,
      i.read,
      i.ok,
      outcome_back a.operation a.outcome f.outcome_ok,
      i.means,
    )

pub answer_spells : (t : Items) {a : Answer} → answer_in t ≡ Some a → t ≡ answer_items a
unfolding answer_in answer_items
answer_spells t {a} h =
    on_bind h (λ n e1 h1. on_bind h1 (λ id e2 h2. on_test h2 (λ o h3. on_bind h3 (λ q e4 w.
    let t1 = spelled_spells 4 operation_tag enumeration t e1 in
    let t2 = id_spells n.1 e2 o in
    let t3 = outcome_spells n.0 id.1 e4 in
    let i = some_is w in
    cc))))

-- ---- the batch

pub batch_back : (answers : List Answer) → all answer_ok answers ≡ true → answers_of (batch_items answers) ≡ Some answers
unfolding answers_of batch_items all ◌>>=◌ ◌>>◌
batch_back [] h = refl
batch_back (a ∷ answers) h =
    let p = both (answer_ok a) (all answer_ok answers) h in
    rw (answer_back a p.0, batch_back answers p.1)

pub batch_spells : (t : Items) {answers : List Answer} → answers_of t ≡ Some answers → t ≡ batch_items answers
unfolding answers_of batch_items
batch_spells nil h = rw (← (some_is h))
batch_spells (value tag kind v rest) h = absurd (not_some h)
batch_spells (group tag body rest) h =
    on_test h (λ u h1. on_bind h1 (λ a e2 h2. on_bind h2 (λ later e3 w.
    let t1 = eqb-true tag batch_item u in
    let t2 = answer_spells body e2 in
    let t3 = batch_spells rest e3 in
    rw (← (some_is w), t1, t2, t3))))

-- ---- the message

-- what `allowed` says, fact by fact
pub record AllowedFacts (r : Response) : Type 0 where
  pub clock_short : r.clock < 256 ^ 8
  pub some_answers : 1 ≤ length r.answers
  pub few_answers : length r.answers ≤ batch_most
  pub answers_ok : all answer_ok r.answers ≡ true

pub allowed_facts : (r : Response) → allowed r ≡ true → AllowedFacts r
unfolding allowed
allowed_facts r h =
    let p3 = both _ (all answer_ok r.answers) h in
    let p2 = both _ (leb (length r.answers) batch_most) p3.0 in
    let p1 = both (above_zero r.clock) (leb 1 (length r.answers)) p2.0 in
    let clock = ltb-true r.clock (2 ^ 63) (both (leb 1 r.clock) (not_negative r.clock) p1.0).1 in
    record {
      clock_short = omega arith;
      some_answers = leb-true 1 (length r.answers) p1.1;
      few_answers = leb-true (length r.answers) batch_most p2.1;
      answers_ok = p3.1;
    }

pub header_back : (clock count : ℕ) → clock < 256 ^ 8 → count < 256 ^ 4 → head_in (header_items clock count) ≡ Some (clock, count)
unfolding head_in header_items version_items body_of ifb ended ◌>>=◌ ◌>>◌
header_back clock count h g =
    rw (
      fixed_back protocol_version_major integer 2 _ (omega arith),
      fixed_back protocol_version_minor integer 1 nil (omega arith),
      spelled_back 8 time_stamp date_time clock,
      spelled_back 4 batch_count integer count,
    )

pub header_spells : (t : Items) {a : ℕ × ℕ} → head_in t ≡ Some a → t ≡ header_items a.0 a.1
unfolding head_in header_items version_items
header_spells t h =
    on_bind h (λ version e1 h1. on_bind h1 (λ minor e2 h2. on_bind h2 (λ after e3 h3. on_test h3 (λ o h4. on_bind h4 (λ clock e5 h5.
    on_bind h5 (λ count e6 h6. on_test h6 (λ u w.
    let t1 = body_spells protocol_version t e1 in
    let t2 = fixed_spells protocol_version_major integer 2 version.0 e2 in
    let t3 = fixed_spells protocol_version_minor integer 1 minor e3 in
    let t4 = ended_is after o in
    let t5 = spelled_spells 8 time_stamp date_time version.1 e5 in
    let t6 = spelled_spells 4 batch_count integer clock.1 e6 in
    let t7 = ended_is count.1 u in
    rw (← (some_is w), t1, t2, t3, t4, t5, t6, t7))))))))

-- a response is read back as it was meant
pub answers_back : (r : Response) → allowed r ≡ true → answers_in (respond r) ≡ Some r
unfolding answers_in respond if_allowed body_of ifb ended ◌>>=◌ ◌>>◌
answers_back r h =
    let f = allowed_facts r h in
    let n = length r.answers in
    let few : n < 256 ^ 4 = omega (arith, f.few_answers) in
    rw (header_back r.clock n f.clock_short few, batch_back r.answers f.answers_ok, eq-eqb n n refl, h)

-- and in one spelling: items that are read as a response are those that it is written as
pub answers_spell : (t : Items) (r : Response) → answers_in t ≡ Some r → (t ≡ respond r) × (allowed r ≡ true)
unfolding answers_in respond if_allowed
answers_spell t r h =
    on_bind h (λ message e1 h1. on_test h1 (λ o h2. on_bind h2 (λ head e3 h3. on_bind h3 (λ front e4 h4. on_bind h4 (λ answers e5 h5.
    on_test h5 (λ c h6. on_test h6 (λ ok w.
    let t1 = body_spells response_message t e1 in
    let t2 = ended_is message.1 o in
    let t3 = body_spells response_header message.0 e3 in
    let t4 = header_spells head.0 e4 in
    let t5 = batch_spells head.1 e5 in
    let t6 = eqb-true front.1 (length answers) c in
    let i = some_is w in
    (cc, ap allowed (sym i) ∙ ok))))))))
