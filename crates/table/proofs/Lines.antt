-- Laws of the bytes of a record: what a line and a body say is what was written, and what bytes say is written as it was.
-- Assumes nothing.
use mathlib.Core.Path.{◌≡◌, refl, sym, ap, ap₂, ◌∙◌}
use Prim.Native.Nat.{ℕ, ◌+◌, ◌-◌, ◌^◌, ◌≤◌, ◌<◌}
use native.Mathlib.Nat.{add_assoc, add-zero, le_of_eq}
use native.Mathlib.Omega.{arith}
use mathlib.Core.List.{List, ◌++◌}
use lib.ListN.{length, take, drop, length-append, length-drop}
use lib.Seq.{sets, take_all, take_at, drop_at, take-add, drop-drop, take-append-le, drop-append-le}
use Rattle.octets.specs.Octets.{be, from_be, part, Bytes}
use Rattle.octets.proofs.Numbers.{length_be, be_bytes, be_part, from_be_be, from_be_lt, bytes_append, bytes_take, bytes_drop}
use Rattle.octets.proofs.Stores.{sets_append, length_part}
use Rattle.names.specs.Names.{name_size, name_field, stored_name}
use Rattle.names.proofs.Stored.{NameRange, length_field, bytes_field, stored_field, field_stored, stored_range}
use Rattle.table.specs.declared.Record.{Record}
use Rattle.table.specs.Layout.{line_size, body_size, material_size, serial_in, state_in, unit_in, bits_in, replaced_in, replacement_in, total_in, count_in, mask_in, zeros_in, material_in, activation_in, deactivation_in, name_in}
use Rattle.table.specs.Records.{line, body, line_bytes, body_bytes, record_of}

pub length_line : (r : Record) → length (line_bytes r) ≡ line_size
unfolding line
length_line r = simp (length-append, length_be)

pub length_body : (r : Record) → length r.material ≡ material_size → length (body_bytes r) ≡ body_size
unfolding body
length_body r e = simp (length-append, length_be, length_field, e)

-- what stands in front of the name
abbrev pub body_front : Record → List ℕ
body_front r = body r.total r.count r.mask r.material r.activation r.deactivation

pub length_front : (r : Record) → length r.material ≡ material_size → length (body_front r) ≡ name_in
unfolding body
length_front r e = simp (length-append, length_be, e)

-- ---- a record whose fields fit their bytes

pub record InRange (r : Record) : Type 0 where
  pub serial : r.serial < 256 ^ 4
  pub state : r.state < 256 ^ 1
  pub unit : r.unit < 256 ^ 1
  pub bits : r.bits < 256 ^ 2
  pub replaced : r.replaced < 256 ^ 4
  pub replacement : r.replacement < 256 ^ 4
  pub total : r.total < 256 ^ 8
  pub count : r.count < 256 ^ 8
  pub mask : r.mask < 256 ^ 4
  pub long : length r.material ≡ material_size
  pub bytes : Bytes r.material
  pub activation : r.activation < 256 ^ 8
  pub deactivation : r.deactivation < 256 ^ 8
  pub name : NameRange r.name

-- each field, by computation: the bytes of a line or a body are written out where `be` unfolds
module _ (r : Record) (h : InRange r) where
  at_serial : from_be (part (line_bytes r) serial_in 4) ≡ r.serial
  unfolding line be
  at_serial = from_be_be 4 r.serial h.serial

  at_state : from_be (part (line_bytes r) state_in 1) ≡ r.state
  unfolding line be
  at_state = from_be_be 1 r.state h.state

  at_unit : from_be (part (line_bytes r) unit_in 1) ≡ r.unit
  unfolding line be
  at_unit = from_be_be 1 r.unit h.unit

  at_bits : from_be (part (line_bytes r) bits_in 2) ≡ r.bits
  unfolding line be
  at_bits = from_be_be 2 r.bits h.bits

  at_replaced : from_be (part (line_bytes r) replaced_in 4) ≡ r.replaced
  unfolding line be
  at_replaced = from_be_be 4 r.replaced h.replaced

  at_replacement : from_be (part (line_bytes r) replacement_in 4) ≡ r.replacement
  unfolding line be
  at_replacement = from_be_be 4 r.replacement h.replacement

  -- a field in front of the name
  front : (at w : ℕ) → at + w ≤ name_in → part (body_bytes r) at w ≡ part (body_front r) at w
  front at w l =
      let e = length_front r h.long in
      ap (λ (s : List ℕ). take w s) (drop-append-le at (body_front r) (name_field r.name) (omega arith))
      ∙ take-append-le w (drop at (body_front r)) (name_field r.name) (rw length-drop (omega arith))

  at_total : from_be (part (body_bytes r) total_in 8) ≡ r.total
  unfolding body be
  at_total = ap from_be (front total_in 8 (omega arith)) ∙ from_be_be 8 r.total h.total

  at_count : from_be (part (body_bytes r) count_in 8) ≡ r.count
  unfolding body be
  at_count = ap from_be (front count_in 8 (omega arith)) ∙ from_be_be 8 r.count h.count

  at_mask : from_be (part (body_bytes r) mask_in 4) ≡ r.mask
  unfolding body be
  at_mask = ap from_be (front mask_in 4 (omega arith)) ∙ from_be_be 4 r.mask h.mask

  at_material : part (body_bytes r) material_in material_size ≡ r.material
  unfolding body be
  at_material = front material_in material_size (omega arith) ∙ take_at r.material _ material_size h.long

  -- past the material, whose length is known by its range alone
  past : (xs : List ℕ) → drop material_size (r.material ++ xs) ≡ xs
  past xs = drop_at r.material xs material_size h.long

  dates : List ℕ
  dates = be 8 r.activation ++ be 8 r.deactivation

  at_activation : from_be (part (body_bytes r) activation_in 8) ≡ r.activation
  unfolding body be dates
  at_activation = ap from_be (front activation_in 8 (omega arith)) ∙ ap (λ (l : List ℕ). from_be (take 8 l)) (sym (drop-drop 0 material_size (r.material ++ dates)) ∙ past dates) ∙ from_be_be 8 r.activation h.activation

  at_deactivation : from_be (part (body_bytes r) deactivation_in 8) ≡ r.deactivation
  unfolding body be dates
  at_deactivation = ap from_be (front deactivation_in 8 (omega arith)) ∙ ap (λ (l : List ℕ). from_be (take 8 l)) (sym (drop-drop 8 material_size (r.material ++ dates)) ∙ ap (drop 8) (past dates)) ∙ from_be_be 8 r.deactivation h.deactivation

  at_name : stored_name (part (body_bytes r) name_in name_size) ≡ r.name
  at_name =
      ap (λ (s : List ℕ). stored_name (take name_size s)) (drop_at (body_front r) (name_field r.name) name_in (length_front r h.long))
      ∙ ap stored_name (take_all name_size (name_field r.name) (le_of_eq (length_field r.name)))
      ∙ stored_field r.name h.name

  -- what was written is read
  pub record_of_bytes : record_of (line_bytes r) (body_bytes r) ≡ r
  unfolding record_of
  record_of_bytes = simp (at_serial, at_state, at_unit, at_bits, at_replaced, at_replacement, at_total, at_count, at_mask, at_material, at_activation, at_deactivation, at_name)

-- the zeros of a body
pub zeros_body : (r : Record) → part (body_bytes r) zeros_in 4 ≡ be 4 0
unfolding body be
zeros_body r = refl

-- a field, and then the rest
bytes_number : (w v : ℕ) (s : List ℕ) → Bytes s → Bytes (be w v ++ s)
bytes_number w v s h = bytes_append (be w v) s (be_bytes w v) h

pub bytes_line : (r : Record) → Bytes (line_bytes r)
unfolding line
bytes_line r = bytes_number 4 r.serial _ (bytes_number 1 r.state _ (bytes_number 1 r.unit _ (bytes_number 2 r.bits _ (bytes_number 4 r.replaced _ (be_bytes 4 r.replacement)))))

pub bytes_body : (r : Record) → Bytes r.material → Bytes (body_bytes r)
unfolding body
bytes_body r h =
    bytes_append (body_front r) _
    (bytes_number 8 r.total _ (bytes_number 8 r.count _ (bytes_number 4 r.mask _ (bytes_number 4 0 _ (bytes_append r.material _ h (bytes_number 8 r.activation _ (be_bytes 8 r.deactivation)))))))
    (bytes_field r.name)

-- ---- what any bytes say

pub bytes_part : (s : List ℕ) (at w : ℕ) → Bytes s → Bytes (part s at w)
bytes_part s at w h = bytes_take w (drop at s) (bytes_drop at s h)

field_lt : (s : List ℕ) (at w : ℕ) → at + w ≤ length s → Bytes s → from_be (part s at w) < 256 ^ w
field_lt s at w l h = let e : length (part s at w) ≡ w = length_part s at w l in rw e at (from_be_lt (part s at w) (bytes_part s at w h))

-- a run of bytes, and then what follows it
run_back : (s : List ℕ) (at v w : ℕ) (run rest : List ℕ) → run ≡ part s at v → rest ≡ part s (at + v) w → run ++ rest ≡ part s at (v + w)
run_back s at v w run rest d e =
    ap₂ (λ (x y : List ℕ). x ++ y) d (e ∙ ap (λ (x : List ℕ). take w x) (sym (drop-drop v at s)))
    ∙ sym (take-add v w (drop at s))

-- a field is written as it was read, and so is what follows it
field_back : (s : List ℕ) (at v w : ℕ) (rest : List ℕ) → at + v ≤ length s → Bytes s → rest ≡ part s (at + v) w → be v (from_be (part s at v)) ++ rest ≡ part s at (v + w)
field_back s at v w rest l h e = run_back s at v w _ rest (be_part v at s l h) e

module _ (l b : List ℕ) (el : length l ≡ line_size) (eb : length b ≡ body_size) (hl : Bytes l) (hb : Bytes b) where
  pub record_of_range : InRange (record_of l b)
  unfolding record_of
  record_of_range = record {
    serial = field_lt l serial_in 4 (omega arith) hl;
    state = field_lt l state_in 1 (omega arith) hl;
    unit = field_lt l unit_in 1 (omega arith) hl;
    bits = field_lt l bits_in 2 (omega arith) hl;
    replaced = field_lt l replaced_in 4 (omega arith) hl;
    replacement = field_lt l replacement_in 4 (omega arith) hl;
    total = field_lt b total_in 8 (omega arith) hb;
    count = field_lt b count_in 8 (omega arith) hb;
    mask = field_lt b mask_in 4 (omega arith) hb;
    long = length_part b material_in material_size (omega arith);
    bytes = bytes_part b material_in material_size hb;
    activation = field_lt b activation_in 8 (omega arith) hb;
    deactivation = field_lt b deactivation_in 8 (omega arith) hb;
    name = stored_range (part b name_in name_size) (length_part b name_in name_size (omega arith)) (bytes_part b name_in name_size hb);
  }

  -- a line is written as it was read
  pub line_back : line_bytes (record_of l b) ≡ l
  unfolding record_of line
  line_back =
      field_back l serial_in 4 (line_size - state_in) _ (omega arith) hl
      (field_back l state_in 1 (line_size - unit_in) _ (omega arith) hl
      (field_back l unit_in 1 (line_size - bits_in) _ (omega arith) hl
      (field_back l bits_in 2 (line_size - replaced_in) _ (omega arith) hl
      (field_back l replaced_in 4 (line_size - replacement_in) _ (omega arith) hl
      (be_part 4 replacement_in l (omega arith) hl)))))
      ∙ take_all line_size l (le_of_eq el)

  -- and so is a body in which the zeros stand
  pub body_back : part b zeros_in 4 ≡ be 4 0 → body_bytes (record_of l b) ≡ b
  unfolding record_of body
  body_back z =
      run_back b 0 name_in name_size _ _
      (field_back b total_in 8 (name_in - count_in) _ (omega arith) hb
      (field_back b count_in 8 (name_in - mask_in) _ (omega arith) hb
      (field_back b mask_in 4 (name_in - zeros_in) _ (omega arith) hb
      (run_back b zeros_in 4 (name_in - material_in) _ _ (sym z)
      (run_back b material_in material_size (name_in - activation_in) _ _ refl
      (field_back b activation_in 8 (name_in - deactivation_in) _ (omega arith) hb (be_part 8 deactivation_in b (omega arith) hb)))))))
      (field_stored (part b name_in name_size) (length_part b name_in name_size (omega arith)) (bytes_part b name_in name_size hb))
      ∙ take_all body_size b (le_of_eq eb)

-- ---- fields that are written one by one

pub line_sets : (t : List ℕ) (at a b c d e f : ℕ)
    → sets (sets (sets (sets (sets (sets t (at + serial_in) (be 4 a)) (at + state_in) (be 1 b)) (at + unit_in) (be 1 c)) (at + bits_in) (be 2 d)) (at + replaced_in) (be 4 e)) (at + replacement_in) (be 4 f) ≡ sets t at (line a b c d e f)
unfolding line
line_sets t at a b c d e f = sym (simp (sets_append, length_be, add_assoc, add-zero))

pub body_sets : (t : List ℕ) (at a b c : ℕ) (m : List ℕ) (d e : ℕ) → length m ≡ material_size
    → sets (sets (sets (sets (sets (sets (sets t (at + total_in) (be 8 a)) (at + count_in) (be 8 b)) (at + mask_in) (be 4 c)) (at + zeros_in) (be 4 0)) (at + material_in) m) (at + activation_in) (be 8 d)) (at + deactivation_in) (be 8 e)
    ≡ sets t at (body a b c m d e)
unfolding body
body_sets t at a b c m d e h = sym (simp (sets_append, length_be, h, add_assoc, add-zero))

-- the same, of the tables between, as the calls leave them
module _ (t : List ℕ) {t₁ t₂ t₃ t₄ t₅ : List ℕ} (at : ℕ) where
  pub line_chain : {t₆ : List ℕ} (a b c d e f : ℕ) → t₁ ≡ sets t (at + serial_in) (be 4 a) → t₂ ≡ sets t₁ (at + state_in) (be 1 b) → t₃ ≡ sets t₂ (at + unit_in) (be 1 c) → t₄ ≡ sets t₃ (at + bits_in) (be 2 d)
      → t₅ ≡ sets t₄ (at + replaced_in) (be 4 e) → t₆ ≡ sets t₅ (at + replacement_in) (be 4 f) → t₆ ≡ sets t at (line a b c d e f)
  line_chain a b c d e f e₁ e₂ e₃ e₄ e₅ e₆ = cc (line_sets t at a b c d e f)

  pub body_chain : {t₆ t₇ : List ℕ} (a b c : ℕ) (m : List ℕ) (d e : ℕ) → length m ≡ material_size → t₁ ≡ sets t (at + total_in) (be 8 a) → t₂ ≡ sets t₁ (at + count_in) (be 8 b) → t₃ ≡ sets t₂ (at + mask_in) (be 4 c) → t₄ ≡ sets t₃ (at + zeros_in) (be 4 0)
      → t₅ ≡ sets t₄ (at + material_in) m → t₆ ≡ sets t₅ (at + activation_in) (be 8 d) → t₇ ≡ sets t₆ (at + deactivation_in) (be 8 e) → t₇ ≡ sets t at (body a b c m d e)
  body_chain a b c m d e h e₁ e₂ e₃ e₄ e₅ e₆ e₇ = cc (body_sets t at a b c m d e h)
