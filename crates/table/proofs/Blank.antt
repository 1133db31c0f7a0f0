-- Laws of the blank table: its size, its lead, and that every place is free and zero.
-- Assumes nothing; over the number n of places.
use mathlib.Core.Path.{◌≡◌, refl, sym, ap, ap₂, ◌∙◌}
use Prim.Native.Nat.{ℕ, ◌+◌, ◌-◌, ◌^◌, ◌≤◌, ◌<◌}
use native.Mathlib.Omega.{arith}
use mathlib.Core.Bool.{true}
use mathlib.Core.List.{List}
use lib.ListN.{length, take, drop, replicate, length-append, length-replicate}
use lib.Seq.{drop-drop}
use Rattle.octets.specs.Octets.{be, from_be, part, all_zero, Bytes}
use Rattle.octets.proofs.Numbers.{length_be, be_zero, from_be_be, be_bytes, bytes_append}
use Rattle.words.specs.Words.{word_bytes}
use Rattle.names.specs.Names.{no_name, name_field}
use Rattle.names.proofs.Stored.{none_range}
use Rattle.table.specs.declared.Record.{Record}
use Rattle.table.specs.Layout.{line_size, body_size, material_size, line_start, body_start, size_of, Table, latest_in}
use Rattle.table.specs.Records.{line, body, line_bytes, body_bytes, record_of, place_at, serial_at, places_said, latest_clock, blank, last_serial}
use Rattle.octets.proofs.Zeros.{zeros_pass, pass_zeros, part_zeros, bytes_zeros}
use Rattle.table.proofs.Lines.{InRange, record_of_bytes}
use Rattle.table.proofs.Places.{length_line_at, length_body_at, serial_is}

-- ---- the record of zeros

abbrev pub zero_record : Record
zero_record = record {
  serial = 0;
  state = 0;
  unit = 0;
  bits = 0;
  replaced = 0;
  replacement = 0;
  total = 0;
  count = 0;
  mask = 0;
  material = replicate material_size 0;
  activation = 0;
  deactivation = 0;
  name = no_name;
}

pub zero_line : line_bytes zero_record ≡ replicate line_size 0
unfolding line be
zero_line = refl

pub zero_body : body_bytes zero_record ≡ replicate body_size 0
unfolding body name_field word_bytes be
zero_body = refl

pub zero_range : InRange zero_record
zero_range = record {
  serial = omega arith;
  state = omega arith;
  unit = omega arith;
  bits = omega arith;
  replaced = omega arith;
  replacement = omega arith;
  total = omega arith;
  count = omega arith;
  mask = omega arith;
  long = refl;
  bytes = bytes_zeros material_size;
  activation = omega arith;
  deactivation = omega arith;
  name = none_range;
}

module _ (n : ℕ) (t : List ℕ) (i : ℕ) (big : Table n t) (lo : i < n) where
  -- zero bytes are the record of zeros
  pub zero_place : all_zero (part t (line_start i) line_size) ≡ true → all_zero (part t (body_start n i) body_size) ≡ true → place_at n t i ≡ zero_record
  unfolding place_at
  zero_place l b =
      ap₂ record_of
      (pass_zeros _ l ∙ ap (λ (k : ℕ). replicate k 0) (length_line_at n t i big lo) ∙ sym zero_line)
      (pass_zeros _ b ∙ ap (λ (k : ℕ). replicate k 0) (length_body_at n t i big lo) ∙ sym zero_body)
      ∙ record_of_bytes zero_record zero_range

-- the zeros of a body, as the test sees them
pub zeros_test : (s : List ℕ) → s ≡ be 4 0 → all_zero s ≡ true
zeros_test s e = ap all_zero (e ∙ be_zero 4) ∙ zeros_pass 4

pub test_zeros : (s : List ℕ) → length s ≡ 4 → all_zero s ≡ true → s ≡ be 4 0
test_zeros s l e = pass_zeros s e ∙ ap (λ (k : ℕ). replicate k 0) l ∙ sym (be_zero 4)

-- ---- the blank table

pub length_blank : (n : ℕ) → Table n (blank n)
unfolding blank
length_blank n = rw (length-append, length-append, length_be 4 0, length_be 4 n, length-replicate) (omega arith)

pub bytes_blank : (n : ℕ) → Bytes (blank n)
unfolding blank
bytes_blank n = bytes_append (be 4 0) _ (be_bytes 4 0) (bytes_append (be 4 n) _ (be_bytes 4 n) (bytes_zeros (size_of n - 8)))

pub last_blank : (n : ℕ) → last_serial (blank n) ≡ 0
unfolding last_serial blank be
last_blank n = from_be_be 4 0 (omega arith)

pub said_blank : (n : ℕ) → n < 256 ^ 4 → places_said (blank n) ≡ n
unfolding places_said blank be
said_blank n h = from_be_be 4 n h

behind_blank : (n : ℕ) → drop 8 (blank n) ≡ replicate (size_of n - 8) 0
unfolding blank be
behind_blank n = refl

-- all zero behind the place count
pub part_blank : (n at w : ℕ) → 8 ≤ at → at + w ≤ size_of n → part (blank n) at w ≡ replicate w 0
part_blank n at w a h =
    let e : at ≡ 8 + (at - 8) = omega arith in
    ap (λ (k : ℕ). part (blank n) k w) e
    ∙ ap (λ (s : List ℕ). take w s) (sym (drop-drop (at - 8) 8 (blank n)))
    ∙ ap (λ (s : List ℕ). part s (at - 8) w) (behind_blank n)
    ∙ part_zeros (size_of n - 8) (at - 8) w (omega arith)

pub latest_blank : (n : ℕ) → latest_clock (blank n) ≡ 0
unfolding latest_clock
latest_blank n = ap from_be (part_blank n latest_in 8 (omega arith) (omega arith) ∙ sym (be_zero 8)) ∙ from_be_be 8 0 (omega arith)

module _ (n i : ℕ) (lo : i < n) where
  pub line_blank : part (blank n) (line_start i) line_size ≡ replicate line_size 0
  line_blank = part_blank n (line_start i) line_size (omega arith) (omega arith)

  pub body_blank : part (blank n) (body_start n i) body_size ≡ replicate body_size 0
  body_blank = part_blank n (body_start n i) body_size (omega arith) (omega arith)

  pub place_blank : place_at n (blank n) i ≡ zero_record
  place_blank =
      zero_place n (blank n) i (length_blank n) lo
      (ap all_zero line_blank ∙ zeros_pass line_size)
      (ap all_zero body_blank ∙ zeros_pass body_size)

  pub serial_blank : serial_at (blank n) i ≡ 0
  serial_blank = serial_is n (blank n) i ∙ ap (λ (r : Record). r.serial) place_blank
