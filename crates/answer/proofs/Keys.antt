-- Keys that are handed out, read back; and that what is handed out is the record's material at its length.
-- Assumes nothing.
use mathlib.Core.Path.{◌≡◌, sym, ap, ◌∙◌}
use Prim.Native.Nat.{ℕ, ◌/◌, ◌^◌, ◌≤◌, ◌<◌}
use native.Mathlib.Omega.{arith}
use mathlib.Core.Bool.{true}
use Rattle.std.specs.Prelude.{Some}
use mathlib.Core.List.{List}
use lib.ListN.{length, take, drop}
use Rattle.octets.specs.Maybe.{◌>>=◌, ◌>>◌}
use Rattle.octets.specs.Octets.{Bytes, all_zero}
use Rattle.octets.proofs.Bools.{both}
use Rattle.octets.proofs.Maybe.{some_is, on_bind, on_test}
use Rattle.ttlv_types.specs.Types.{integer, enumeration, byte_string}
use Rattle.ttlv.specs.Items.{Items, nil, ended}
use Rattle.tags.specs.Tags.{cryptographic_algorithm, cryptographic_length, key_block, key_format_type, key_material, key_value, object_type, symmetric_key_tag, unique_identifier}
use Rattle.attributes_read.specs.Attributes.{aes}
use Rattle.payload.specs.Payload.{symmetric_key}
use Rattle.values.specs.Values.{bits_ok}
use Rattle.table.specs.declared.Record.{Record}
use Rattle.words.specs.declared.Words.{Words}
use Rattle.words.specs.Words.{words_of, word_bytes, words_ok, filled}
use Rattle.words.proofs.Laws.{length_words, words_back, words_spell, filled_take}
use Rattle.plans.specs.declared.Key.{Key}
use Rattle.plans.specs.declared.Outcome.{Outcome}
use Rattle.plans.specs.declared.Outcome.TheVariants.{Got}
use Rattle.plans.specs.Plans.{key_of}
use Rattle.answer.specs.Respond.{word, named, raw, material_of, key_block_items, key_items}
use Rattle.answer.specs.Read.{key_read, key_block_in, key_in, got_in, serial_ok, key_ok}
use Rattle.answer.proofs.Fields.{ended_is, bytes_back, body_back, bytes_spells, body_spells, spelled_back, spelled_spells, fixed_back, fixed_spells, serial_in_back, serial_in_spells}
use Rattle.answer.proofs.Tests.{same_is, same_self}
use Rattle.answer.proofs.Payloads.{bits_most}

-- ---- what is handed out

-- the record's material at its length
pub handed_material : (r : Record) → length r.material ≡ 32 → Bytes r.material → material_of (key_of r) ≡ take (r.bits / 8) r.material
unfolding material_of key_of
handed_material r l b = ap (take (r.bits / 8)) (words_back r.material l b)

-- ---- a key

-- what `key_ok` says, fact by fact
pub record KeyFacts (k : Key) : Type 0 where
  pub serial_ok : serial_ok k.serial ≡ true
  pub bits_few : k.bits ≤ 256
  pub words_ok : words_ok k.material ≡ true
  pub tail_zero : all_zero (drop (k.bits / 8) (word_bytes k.material)) ≡ true

pub key_facts : (k : Key) → key_ok k ≡ true → KeyFacts k
unfolding key_ok
key_facts k h =
    let p3 = both _ (all_zero (drop (k.bits / 8) (word_bytes k.material))) h in
    let p2 = both _ (words_ok k.material) p3.0 in
    let p1 = both (serial_ok k.serial) (bits_ok k.bits) p2.0 in
    record { serial_ok = p1.0; bits_few = bits_most k.bits p1.1; words_ok = p2.1; tail_zero = p3.1 }

-- it is the key that its serial, its length and its material say
key_again : (k : Key) → KeyFacts k → key_read k.serial k.bits (material_of k) ≡ k
unfolding key_read material_of
key_again k f =
    let few = f.bits_few in
    let whole : filled (take (k.bits / 8) (word_bytes k.material)) ≡ word_bytes k.material = filled_take (k.bits / 8) (word_bytes k.material) (length_words k.material) (omega arith) f.tail_zero in
    ap (λ (w : Words). record { serial = k.serial; bits = k.bits; material = w }) (ap words_of whole ∙ words_spell k.material f.words_ok)

-- ---- its items

block_back : (v : List ℕ) (bits : ℕ) → bits < 256 ^ 4 → key_block_in (key_block_items v bits) ≡ Some (v, bits)
unfolding key_block_in ended ◌>>=◌ ◌>>◌
block_back v bits h =
    rw (
      fixed_back key_format_type enumeration raw _ (omega arith),
      body_back,
      bytes_back,
      fixed_back cryptographic_algorithm enumeration aes _ (omega arith),
      spelled_back 4 cryptographic_length integer bits nil h,
    )

block_spells : (t : Items) {a : List ℕ × ℕ} → key_block_in t ≡ Some a → t ≡ key_block_items a.0 a.1
unfolding key_block_in
block_spells t {a} h =
    on_bind h (λ r e1 h1. on_bind h1 (λ held e2 h2. on_bind h2 (λ v e3 h3. on_test h3 (λ o1 h4. on_bind h4 (λ s e5 h5. on_bind h5 (λ bits e6 h6. on_test h6 (λ o2 w.
    let t1 = fixed_spells key_format_type enumeration raw t e1 in
    let t2 = body_spells key_value r e2 in
    let t3 = bytes_spells key_material byte_string held.0 e3 in
    let t4 = ended_is v.1 o1 in
    let t5 = fixed_spells cryptographic_algorithm enumeration aes held.1 e5 in
    let t6 = spelled_spells 4 cryptographic_length integer s e6 in
    let t7 = ended_is bits.1 o2 in
    let m : v.0 ≡ a.0 = ap (λ (x : List ℕ × ℕ). x.0) (some_is w) in
    let n : bits.0 ≡ a.1 = ap (λ (x : List ℕ × ℕ). x.1) (some_is w) in
    cc)))))))

key_back : (k : Key) → KeyFacts k → key_in k.serial (key_items k) ≡ Some k
unfolding key_in key_items ended ◌>>=◌ ◌>>◌
key_back k f =
    let few = f.bits_few in
    rw (body_back, body_back, block_back (material_of k) k.bits (omega arith), key_again k f, same_self)

key_spells : (serial : ℕ) (t : Items) {k : Key} → key_in serial t ≡ Some k → (k.serial ≡ serial) × (t ≡ key_items k)
unfolding key_in key_items key_read
key_spells serial t {k} h =
    on_bind h (λ object e1 h1. on_test h1 (λ o1 h2. on_bind h2 (λ block e2 h3. on_test h3 (λ o2 h4. on_bind h4 (λ held e3 h5. on_test h5 (λ u w.
    let t1 = body_spells symmetric_key_tag t e1 in
    let t2 = ended_is object.1 o1 in
    let t3 = body_spells key_block object.0 e2 in
    let t4 = ended_is block.1 o2 in
    let t5 = block_spells block.0 e3 in
    let t6 = same_is held.0 _ u in
    let i = some_is w in
    (ap (λ (x : Key). x.serial) (sym i), cc)))))))

-- ---- the payload of Get

pub got_back : (k : Key) → key_ok k ≡ true → got_in (word object_type enumeration symmetric_key (named unique_identifier k.serial (key_items k))) ≡ Some (Got k)
unfolding got_in ◌>>=◌
got_back k h =
    let f = key_facts k h in
    rw (fixed_back object_type enumeration symmetric_key _ (omega arith), serial_in_back unique_identifier k.serial _ f.serial_ok, key_back k f)

pub got_spells : (t : Items) {o : Outcome} → got_in t ≡ Some o
    → (k : Key) × (o ≡ Got k) × (t ≡ word object_type enumeration symmetric_key (named unique_identifier k.serial (key_items k)))
unfolding got_in
got_spells t h =
    on_bind h (λ r e1 h1. on_bind h1 (λ serial e2 h2. on_bind h2 (λ k e3 w.
    let t1 = fixed_spells object_type enumeration symmetric_key t e1 in
    let t2 = serial_in_spells unique_identifier r e2 in
    let t3 = key_spells serial.0 serial.1 e3 in
    (k, sym (some_is w), cc))))
