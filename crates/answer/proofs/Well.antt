-- The items of a response are well-formed: within the depth that is read, every length short, every value of its type.
-- Assumes nothing.
use mathlib.Core.Path.{◌≡◌, refl, ap}
use Prim.Native.Nat.{ℕ, suc, ◌+◌, ◌-◌, ◌/◌, ◌^◌, ◌≤◌, ◌<◌}
use native.Mathlib.Omega.{arith}
use mathlib.Core.Bool.{Bool, true, not, ◌&&◌}
use mathlib.Core.List.{List, [], ◌∷◌}
use lib.ListN.{length}
use lib.Dec.{ltb, eqb}
use borrow.Author.Tests.{lt-ltb}
use Rattle.octets.specs.If.{ifb}
use Rattle.octets.specs.Octets.{be, all}
use Rattle.octets.proofs.If.{on_if}
use Rattle.octets.proofs.Numbers.{length_be}
use Rattle.ttlv_types.specs.Types.{structure, integer, long_integer, enumeration, text_string, byte_string, date_time, length_ok, value_ok}
use Rattle.tags.specs.Tags.{tag_lead, tag_ok, activation_date, batch_count, batch_item, operation_tag, protocol_version, protocol_version_major, protocol_version_minor, unique_batch_item_id, attributes, cryptographic_algorithm, cryptographic_length, cryptographic_usage_mask, deactivation_date, key_block, key_format_type, key_material, key_value, name_tag, name_type, name_value, object_type, unique_identifier, usage_limits, usage_limits_count, usage_limits_total, usage_limits_unit, link, link_type, linked_object_identifier, response_header, response_message, response_payload, result_reason, result_status, state_tag, symmetric_key_tag, time_stamp}
use Rattle.names.specs.declared.Name.{Name}
use Rattle.names.specs.Names.{name_text}
use Rattle.names.proofs.Texts.{length_text, fits}
use Rattle.attributes_read.specs.Attributes.{aes}
use Rattle.name_read.specs.Name.{uninterpreted_text}
use Rattle.payload.specs.Payload.{symmetric_key}
use Rattle.ttlv.specs.Items.{Items, nil, value, group, item_ok, well_formed}
use Rattle.ttlv.specs.Parse.{depth_most}
use Rattle.octets.proofs.Bools.{both, and_i}
use Rattle.ttlv.proofs.Fine.{group_well}
use Rattle.identifier.specs.Identifier.{identifier}
use Rattle.identifier.proofs.Texts.{length_identifier, identifier_text}
use Rattle.batch_item.specs.Item.{id_most}
use Rattle.rules.specs.Numbers.{reason_number, get_attributes, success, operation_failed, operation_undone}
use Rattle.plans.specs.declared.Shown.{Shown}
use Rattle.plans.specs.declared.Key.{Key}
use Rattle.plans.specs.declared.Outcome.{Outcome}
use Rattle.plans.specs.declared.Outcome.TheVariants.{Failed, Created, Done, Showed, Got, Located, Undone}
use Rattle.answer.specs.Respond.{Answer, Response, word, long, named, date_items, limit_items, link_items, name_items, attribute_items, located_items, raw, material_of, key_value_items, key_items, succeeded, outcome_items, id_items, answer_items, batch_items, version_items, header_items, respond, replaced_object_link, replacement_object_link}
use Rattle.answer.specs.Read.{Limits, shown_ok, outcome_ok, answer_ok, allowed}
use Rattle.answer.specs.Front.{response_most}
use Rattle.answer.proofs.Links.{linked}
use Rattle.answer.proofs.Limits.{limited, limits_of}
use Rattle.answer.proofs.Answers.{answer_facts, allowed_facts}
use Rattle.answer.proofs.Names.{NameFacts}
use Rattle.answer.proofs.Payloads.{shown_facts}
use Rattle.ttlv.proofs.Sizes.{size, size_nil, size_group}
use Rattle.answer.proofs.Sizes.{sizes, attributes_size, material_length, material_size_lem, block_size, key_size, name_body_size, located_size, answer_items_size, batch_size}
use Rattle.answer.proofs.Front.{header_size_lem}

-- a run that is well-formed with structures at most d deep
abbrev Well : ℕ → Items → Type 0
Well d t = well_formed d t ≡ true

-- ---- one item

-- a tag, a type and a length of k that go together
abbrev shape_ok : ℕ → ℕ → ℕ → Bool
shape_ok tag kind k = tag_ok tag && not (eqb kind structure) && length_ok kind k && ltb k (256 ^ 4)

field_well : (d tag kind k : ℕ) (v : List ℕ) (rest : Items) → length v ≡ k → shape_ok tag kind k ≡ true → value_ok kind v ≡ true → Well (suc d) rest
    → Well (suc d) (value tag kind v rest)
unfolding well_formed item_ok
field_well d tag kind k v rest l h g w =
    let p2 = both _ (ltb k (256 ^ 4)) h in
    let p1 = both (tag_ok tag && not (eqb kind structure)) (length_ok kind k) p2.0 in
    rw l (and_i _ _ (and_i _ _ (and_i _ _ (and_i _ _ p1.0 p1.1) g) p2.1) w)

word_well : (d tag kind n : ℕ) (rest : Items) → shape_ok tag kind 4 ≡ true → value_ok kind (be 4 n) ≡ true → Well (suc d) rest
    → Well (suc d) (word tag kind n rest)
word_well d tag kind n rest = field_well d tag kind 4 (be 4 n) rest (length_be 4 n)

long_well : (d tag kind n : ℕ) (rest : Items) → shape_ok tag kind 8 ≡ true → value_ok kind (be 8 n) ≡ true → Well (suc d) rest
    → Well (suc d) (long tag kind n rest)
long_well d tag kind n rest = field_well d tag kind 8 (be 8 n) rest (length_be 8 n)

named_well : (d tag serial : ℕ) (rest : Items) → shape_ok tag text_string 8 ≡ true → Well (suc d) rest → Well (suc d) (named tag serial rest)
unfolding value_ok ifb
named_well d tag serial rest h w = field_well d tag text_string 8 (identifier serial) rest (length_identifier serial) h (identifier_text serial) w

body_well : (d tag : ℕ) (body rest : Items) → tag / 65536 ≡ tag_lead → size body < 256 ^ 4 → Well d body → Well (suc d) rest → Well (suc d) (group tag body rest)
body_well d tag body rest l s b w = group_well d tag body rest (record { lead = l; short = s }) b w

nil_well : (d : ℕ) → Well d nil
unfolding well_formed
nil_well d = refl

-- ---- payloads. The message is at depth 8, its batch items at 7, their fields at 6, those of a payload at 5, attributes at 4, their parts at 3

linked_well : (kind serial : ℕ) (rest : Items) → Well 4 rest → Well 4 (linked kind serial rest)
unfolding length_ok value_ok ifb
linked_well kind serial rest w =
    body_well 3 link _ rest refl (simp sizes (omega arith))
    (word_well 2 link_type enumeration kind _ refl refl
    (named_well 2 linked_object_identifier serial nil refl (nil_well 3)))
    w

limited_well : (l : Limits) (rest : Items) → Well 4 rest → Well 4 (limited l rest)
unfolding length_ok value_ok ifb
limited_well l rest w =
    body_well 3 usage_limits _ rest refl (simp sizes (omega arith))
    (long_well 2 usage_limits_total long_integer l.total _ refl refl
    (long_well 2 usage_limits_count long_integer l.count _ refl refl
    (word_well 2 usage_limits_unit enumeration l.unit nil refl refl (nil_well 3))))
    w

link_well : (kind serial : ℕ) (rest : Items) → Well 4 rest → Well 4 (link_items kind serial rest)
unfolding link_items
link_well kind serial rest w = on_if (Well 4) {b = eqb serial 0} (λ e. w) (λ e. linked_well kind serial rest w)

limit_well : (s : Shown) (rest : Items) → Well 4 rest → Well 4 (limit_items s rest)
unfolding limit_items
limit_well s rest w = on_if (Well 4) {b = eqb s.unit 0} (λ e. w) (λ e. limited_well (limits_of s) rest w)

date_well : (tag date : ℕ) (rest : Items) → shape_ok tag date_time 8 ≡ true → Well 4 rest → Well 4 (date_items tag date rest)
unfolding date_items value_ok ifb
date_well tag date rest h w = on_if (Well 4) {b = eqb date 0} (λ e. w) (λ e. long_well 3 tag date_time date rest h refl w)

name_well : (m : Name) (rest : Items) → NameFacts m → Well 4 rest → Well 4 (name_items m rest)
unfolding name_items length_ok value_ok ifb
name_well m rest f w =
    on_if (Well 4) {b = eqb m.len 0}
    (λ e. w)
    (λ e.
    let few = length_text m in
    body_well 3 name_tag _ rest refl (omega (arith, name_body_size m))
    (field_well 2 name_value text_string (length (name_text m)) (name_text m) _ refl (lt-ltb (length (name_text m)) (256 ^ 4) (omega arith)) (fits (name_text m) (f.text_ok (ap not e))).is
    (word_well 2 name_type enumeration uninterpreted_text nil refl refl (nil_well 3)))
    w)

attributes_well : (s : Shown) → NameFacts s.name → Well 4 (attribute_items s)
unfolding attribute_items length_ok value_ok ifb
attributes_well s f =
    word_well 3 cryptographic_algorithm enumeration aes _ refl refl
    (word_well 3 cryptographic_length integer s.bits _ refl refl
    (word_well 3 cryptographic_usage_mask integer s.mask _ refl refl
    (word_well 3 state_tag enumeration s.state _ refl refl
    (date_well activation_date s.activation _ refl
    (date_well deactivation_date s.deactivation _ refl
    (limit_well s _
    (link_well replaced_object_link s.replaced _
    (link_well replacement_object_link s.replacement _
    (name_well s.name nil f (nil_well 4))))))))))

-- the fields of a Symmetric Key are at 4, those of its Key Block at 3, those of the Key Value at 2
value_well : (k : Key) (rest : Items) → Well 3 rest → Well 3 (key_value_items (material_of k) rest)
unfolding length_ok value_ok ifb
value_well k rest w =
    let short = material_length k in
    body_well 2 key_value _ rest refl (omega (arith, material_size_lem k))
    (field_well 1 key_material byte_string (length (material_of k)) (material_of k) nil refl (lt-ltb (length (material_of k)) (256 ^ 4) (omega arith)) refl (nil_well 2))
    w

key_well : (k : Key) → Well 5 (key_items k)
unfolding key_items length_ok value_ok ifb
key_well k =
    body_well 4 symmetric_key_tag _ nil refl (simp (size_group, size_nil) (omega (arith, block_size k)))
    (body_well 3 key_block _ nil refl (omega (arith, block_size k))
    (word_well 2 key_format_type enumeration raw _ refl refl
    (value_well k _
    (word_well 2 cryptographic_algorithm enumeration aes _ refl refl
    (word_well 2 cryptographic_length integer k.bits nil refl refl (nil_well 3)))))
    (nil_well 4))
    (nil_well 5)

-- ---- answers

succeeded_well : (payload : Items) → size payload < 256 ^ 4 → Well 5 payload → Well 6 (succeeded payload)
unfolding length_ok value_ok ifb
succeeded_well payload h w =
    word_well 5 result_status enumeration success _ refl refl (body_well 5 response_payload payload nil refl h w (nil_well 6))

located_well : (serial : ℕ) → Well 5 (located_items serial)
unfolding located_items
located_well serial = on_if (Well 5) {b = eqb serial 0} (λ e. nil_well 5) (λ e. named_well 4 unique_identifier serial nil (unfold length_ok ifb in refl) (nil_well 5))

outcome_well : (operation : ℕ) (o : Outcome) → outcome_ok operation o ≡ true → Well 6 (outcome_items o)
unfolding outcome_items outcome_ok length_ok value_ok ifb
outcome_well operation (Failed reason) ok =
    word_well 5 result_status enumeration operation_failed _ refl refl
    (word_well 5 result_reason enumeration (reason_number reason) nil refl refl (nil_well 6))
outcome_well operation (Created serial) ok =
    succeeded_well _ (simp sizes (omega arith))
    (word_well 4 object_type enumeration symmetric_key _ refl refl
    (named_well 4 unique_identifier serial nil refl (nil_well 5)))
outcome_well operation (Done serial) ok =
    succeeded_well _ (simp sizes (omega arith)) (named_well 4 unique_identifier serial nil refl (nil_well 5))
outcome_well operation (Showed shown) ok =
    let f = shown_facts shown (both (eqb operation get_attributes) (shown_ok shown) ok).1 in
    succeeded_well _ (simp sizes (omega (arith, attributes_size shown)))
    (named_well 4 unique_identifier shown.serial _ refl
    (body_well 4 attributes (attribute_items shown) nil refl (omega (arith, attributes_size shown)) (attributes_well shown f.name_ok) (nil_well 5)))
outcome_well operation (Got key) ok =
    succeeded_well _ (simp sizes (omega (arith, key_size key)))
    (word_well 4 object_type enumeration symmetric_key _ refl refl
    (named_well 4 unique_identifier key.serial _ refl (key_well key)))
outcome_well operation (Located serial) ok = succeeded_well _ (omega (arith, located_size serial)) (located_well serial)
outcome_well operation Undone ok = word_well 5 result_status enumeration operation_undone nil refl refl (nil_well 6)

id_well : (id : List ℕ) (rest : Items) → length id ≤ id_most → Well 6 rest → Well 6 (id_items id rest)
unfolding id_items length_ok value_ok ifb
id_well [] rest h w = w
id_well (x ∷ id) rest h w =
    field_well 5 unique_batch_item_id byte_string (length (x ∷ id)) (x ∷ id) rest refl (lt-ltb (suc (length id)) (256 ^ 4) (omega arith)) refl w

answer_well : (a : Answer) → length a.id ≤ id_most → outcome_ok a.operation a.outcome ≡ true → Well 6 (answer_items a)
unfolding answer_items length_ok value_ok ifb
answer_well a h ok =
    word_well 5 operation_tag enumeration a.operation _ refl refl
    (id_well a.id (outcome_items a.outcome) h (outcome_well a.operation a.outcome ok))

batch_well : (answers : List Answer) → all answer_ok answers ≡ true → Well 7 (batch_items answers)
unfolding batch_items all
batch_well [] h = nil_well 7
batch_well (a ∷ answers) h =
    let p = both (answer_ok a) (all answer_ok answers) h in
    let f = answer_facts a p.0 in
    body_well 6 batch_item (answer_items a) (batch_items answers) refl (omega (arith, answer_items_size a f.id_short)) (answer_well a f.id_short f.outcome_ok) (batch_well answers p.1)

-- ---- the message

version_well : (rest : Items) → Well 6 rest → Well 6 (version_items rest)
unfolding version_items length_ok value_ok ifb
version_well rest w =
    body_well 5 protocol_version _ rest refl (simp sizes (omega arith))
    (word_well 4 protocol_version_major integer 2 _ refl refl (word_well 4 protocol_version_minor integer 1 nil refl refl (nil_well 5)))
    w

header_well : (clock count : ℕ) → Well 6 (header_items clock count)
unfolding header_items length_ok value_ok ifb
header_well clock count =
    version_well _ (long_well 5 time_stamp date_time clock _ refl refl (word_well 5 batch_count integer count nil refl refl (nil_well 6)))

-- the items of a response are well-formed
pub respond_well : (r : Response) → allowed r ≡ true → well_formed depth_most (respond r) ≡ true
unfolding respond
respond_well r h =
    let f = allowed_facts r h in
    let header = header_items r.clock (length r.answers) in
    let batch = batch_items r.answers in
    let most : size (group response_header header batch) ≤ response_most - 8 = rw header_size_lem (omega (arith, batch_size r.answers f.answers_ok, f.few_answers)) in
    let alone : size header + 8 ≤ size (group response_header header batch) = rw size_group (omega arith) in
    body_well 7 response_message (group response_header header batch) nil refl (omega arith)
    (body_well 6 response_header header batch refl (omega arith) (header_well r.clock (length r.answers)) (batch_well r.answers f.answers_ok))
    (nil_well 8)
