-- How long the parts of a response are.
-- Assumes nothing.
use mathlib.Core.Path.{◌≡◌, ◌∙◌}
use Prim.Native.Nat.{ℕ, ◌+◌, ◌*◌, ◌≤◌}
use native.Mathlib.Omega.{arith}
use mathlib.Core.Bool.{true}
use mathlib.Core.List.{List, [], ◌∷◌}
use lib.ListN.{length, length-take}
use lib.Dec.{eqb}
use Rattle.octets.specs.Octets.{be, all}
use Rattle.octets.proofs.If.{on_if}
use Rattle.octets.proofs.Numbers.{length_be}
use Rattle.ttlv_types.specs.Types.{enumeration, text_string, byte_string}
use Rattle.ttlv.specs.Items.{Items, nil, value, group, encode}
use Rattle.ttlv.proofs.Sizes.{size, size_nil, size_value, size_group}
use Rattle.octets.proofs.Bools.{both}
use Rattle.identifier.specs.Identifier.{identifier}
use Rattle.identifier.proofs.Texts.{length_identifier}
use Rattle.tags.specs.Tags.{activation_date, batch_item, deactivation_date, key_material, name_type, name_value}
use Rattle.batch_item.specs.Item.{id_most}
use Rattle.words.proofs.Laws.{length_words}
use Rattle.names.specs.declared.Name.{Name}
use Rattle.names.specs.Names.{name_text}
use Rattle.names.proofs.Texts.{length_text}
use Rattle.name_read.specs.Name.{uninterpreted_text}
use Rattle.plans.specs.declared.Shown.{Shown}
use Rattle.plans.specs.declared.Key.{Key}
use Rattle.plans.specs.declared.Outcome.{Outcome}
use Rattle.plans.specs.declared.Outcome.TheVariants.{Failed, Created, Done, Showed, Got, Located, Undone}
use Rattle.answer.specs.Respond.{Answer, word, long, named, date_items, limit_items, link_items, name_items, attribute_items, located_items, material_of, key_block_items, key_items, outcome_items, id_items, answer_items, batch_items, replaced_object_link, replacement_object_link}
use Rattle.answer.specs.Read.{answer_ok}
use Rattle.answer.specs.Front.{longest_item}
use Rattle.answer.proofs.Answers.{answer_facts}

-- ---- one item

module _ (tag kind n : ℕ) (rest : Items) where
  pub size_word : size (word tag kind n rest) ≡ 16 + size rest
  size_word = size_value tag kind (be 4 n) rest ∙ rw length_be

  pub size_long : size (long tag kind n rest) ≡ 16 + size rest
  size_long = size_value tag kind (be 8 n) rest ∙ rw length_be

pub size_named : (tag serial : ℕ) (rest : Items) → size (named tag serial rest) ≡ 16 + size rest
size_named tag serial rest = size_value tag _ (identifier serial) rest ∙ rw length_identifier

pub ruleset sizes = (size_word, size_long, size_named, size_group, size_nil)

-- ---- answers

date_size : (tag date : ℕ) (rest : Items) → size (date_items tag date rest) ≤ 16 + size rest
unfolding date_items
date_size tag date rest =
    on_if (λ (t : Items). size t ≤ 16 + size rest) {b = eqb date 0} (λ e. omega arith) (λ e. simp sizes (omega arith))

link_size : (kind serial : ℕ) (rest : Items) → size (link_items kind serial rest) ≤ 40 + size rest
unfolding link_items
link_size kind serial rest =
    on_if (λ (t : Items). size t ≤ 40 + size rest) {b = eqb serial 0} (λ e. omega arith) (λ e. simp sizes (omega arith))

limit_size : (s : Shown) (rest : Items) → size (limit_items s rest) ≤ 56 + size rest
unfolding limit_items
limit_size s rest =
    on_if (λ (t : Items). size t ≤ 56 + size rest) {b = eqb s.unit 0} (λ e. omega arith) (λ e. simp sizes (omega arith))

-- a name with its type; its text has at most 32 bytes
pub name_body_size : (m : Name) → size (value name_value text_string (name_text m) (word name_type enumeration uninterpreted_text nil)) ≤ 56
name_body_size m =
    let few = length_text m in
    let kind = size_word name_type enumeration uninterpreted_text nil in
    omega (arith, size_value name_value text_string (name_text m) (word name_type enumeration uninterpreted_text nil), kind, size_nil)

name_size_lem : (m : Name) (rest : Items) → size (name_items m rest) ≤ 64 + size rest
unfolding name_items
name_size_lem m rest =
    on_if (λ (t : Items). size t ≤ 64 + size rest) {b = eqb m.len 0}
    (λ e. omega arith) (λ e. rw size_group (omega (arith, name_body_size m)))

pub attributes_size : (s : Shown) → size (attribute_items s) ≤ 296
unfolding attribute_items
attributes_size s =
    let last = name_items s.name nil in
    let second = link_items replacement_object_link s.replacement last in
    let first = link_items replaced_object_link s.replaced second in
    let limit = limit_items s first in
    let stop = date_items deactivation_date s.deactivation limit in
    simp sizes (omega (arith, date_size activation_date s.activation stop, date_size deactivation_date s.deactivation limit, limit_size s first, link_size replaced_object_link s.replaced second, link_size replacement_object_link s.replacement last, name_size_lem s.name nil, size_nil))

pub material_length : (k : Key) → length (material_of k) ≤ 32
unfolding material_of
material_length k = let l = length_words k.material in rw length-take (omega arith)

-- the material with its head; a length is a multiple of 8 bits, so that it needs no padding
pub material_size_lem : (k : Key) → size (value key_material byte_string (material_of k) nil) ≤ 40
material_size_lem k = let l = material_length k in rw (size_value, size_nil) (omega arith)

pub block_size : (k : Key) → size (key_block_items (material_of k) k.bits) ≤ 96
block_size k = simp sizes (omega (arith, material_size_lem k))

pub key_size : (k : Key) → size (key_items k) ≤ 112
unfolding key_items
key_size k = simp (size_group, size_nil) (omega (arith, block_size k))

pub located_size : (serial : ℕ) → size (located_items serial) ≤ 16
unfolding located_items
located_size serial = on_if (λ (t : Items). size t ≤ 16) {b = eqb serial 0} (λ e. simp sizes (omega arith)) (λ e. simp sizes (omega arith))

pub outcome_size : (o : Outcome) → size (outcome_items o) ≤ 344
unfolding outcome_items
outcome_size (Failed reason) = simp sizes (omega arith)
outcome_size (Created serial) = simp sizes (omega arith)
outcome_size (Done serial) = simp sizes (omega arith)
outcome_size (Showed shown) = simp sizes (omega (arith, attributes_size shown))
outcome_size (Got key) = simp sizes (omega (arith, key_size key))
outcome_size (Located serial) = simp sizes (omega (arith, located_size serial))
outcome_size Undone = simp sizes (omega arith)

pub id_size : (id : List ℕ) (rest : Items) → length id ≤ id_most → size (id_items id rest) ≤ 24 + size rest
unfolding id_items
id_size [] rest h = omega arith
id_size (x ∷ id) rest h = rw size_value (omega arith)

pub answer_items_size : (a : Answer) → length a.id ≤ id_most → size (answer_items a) ≤ 384
unfolding answer_items
answer_items_size a h = rw size_word (omega (arith, id_size a.id (outcome_items a.outcome) h, outcome_size a.outcome))

-- each batch item fits the longest
pub answer_size : (a : Answer) → answer_ok a ≡ true → length (encode (group batch_item (answer_items a) nil)) ≤ longest_item
answer_size a h = simp sizes (omega (arith, answer_items_size a (answer_facts a h).id_short))

pub batch_size : (answers : List Answer) → all answer_ok answers ≡ true → length (encode (batch_items answers)) ≤ length answers * longest_item
unfolding batch_items all
batch_size [] h = rw size_nil (omega arith)
batch_size (a ∷ answers) h =
    let p = both (answer_ok a) (all answer_ok answers) h in
    rw size_group (omega (arith, answer_items_size a (answer_facts a p.0).id_short, batch_size answers p.1))
