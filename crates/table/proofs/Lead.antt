-- Laws of the lead: the last serial issued, the place count and the latest clock, under stores at places, under a new last serial and under a new latest clock.
-- Assumes nothing; over the number n of places, of tables of the right size.
use mathlib.Core.Path.{◌≡◌, ap, ap₂, ◌∙◌}
use mathlib.Core.Logic.{inl, inr}
use Prim.Native.Nat.{ℕ, ◌+◌, ◌^◌, ◌≤◌, ◌<◌}
use native.Mathlib.Omega.{arith}
use mathlib.Core.List.{List}
use lib.ListN.{length}
use lib.Seq.{sets, length-sets}
use Rattle.octets.specs.Octets.{be, from_be, part, Bytes}
use Rattle.octets.proofs.Numbers.{length_be, be_bytes, from_be_be}
use Rattle.octets.proofs.Stores.{part_sets_same, part_sets_below, part_sets_above}
use Rattle.names.specs.Names.{name_size, stored_name}
use Rattle.table.specs.declared.Record.{Record}
use Rattle.table.specs.Layout.{line_size, body_size, material_size, line_start, body_start, Table, last_in, places_in, latest_in, serial_in, zeros_in, name_in}
use Rattle.table.specs.Records.{line_bytes, body_bytes, record_of, place_at, with_place, serial_at, name_at, last_serial, with_last, places_said, latest_clock, with_clock}
use Rattle.octets.proofs.Zeros.{bytes_sets}
use Rattle.table.proofs.Places.{part_with, sets_swap}

-- ---- a store at a place keeps the lead

module _ (n : ℕ) (t : List ℕ) (i : ℕ) (r : Record) (big : Table n t) (lo : i < n) (m : length r.material ≡ material_size) where
  pub last_with : last_serial (with_place n t i r) ≡ last_serial t
  unfolding last_serial
  last_with = ap from_be (part_with n t i r big lo m last_in 4 (inl (omega arith)) (inl (omega arith)))

  pub said_with : places_said (with_place n t i r) ≡ places_said t
  unfolding places_said
  said_with = ap from_be (part_with n t i r big lo m places_in 4 (inl (omega arith)) (inl (omega arith)))

  pub latest_with : latest_clock (with_place n t i r) ≡ latest_clock t
  unfolding latest_clock
  latest_with = ap from_be (part_with n t i r big lo m latest_in 8 (inl (omega arith)) (inl (omega arith)))

-- ---- a new last serial

pub length_last : (t : List ℕ) (s : ℕ) → length (with_last t s) ≡ length t
unfolding with_last
length_last t s = length-sets t last_in (be 4 s)

pub bytes_last : (t : List ℕ) (s : ℕ) → Bytes t → Bytes (with_last t s)
unfolding with_last
bytes_last t s h = bytes_sets t last_in (be 4 s) h (be_bytes 4 s)

pub last_last : (t : List ℕ) (s : ℕ) → 4 ≤ length t → s < 256 ^ 4 → last_serial (with_last t s) ≡ s
unfolding last_serial with_last
last_last t s l h = ap from_be (part_sets_same t last_in (be 4 s) 4 (length_be 4 s) l) ∙ from_be_be 4 s h

-- it keeps what stands behind it
pub part_last : (t : List ℕ) (s a k : ℕ) → places_in ≤ a → part (with_last t s) a k ≡ part t a k
unfolding with_last
part_last t s a k h = part_sets_above t last_in (be 4 s) a k (rw length_be h)

module _ (t : List ℕ) (s : ℕ) where
  pub said_last : places_said (with_last t s) ≡ places_said t
  unfolding places_said
  said_last = ap from_be (part_last t s places_in 4 (omega arith))

  pub latest_last : latest_clock (with_last t s) ≡ latest_clock t
  unfolding latest_clock
  latest_last = ap from_be (part_last t s latest_in 8 (omega arith))

  module _ (i : ℕ) where
    pub line_last : part (with_last t s) (line_start i) line_size ≡ part t (line_start i) line_size
    line_last = part_last t s (line_start i) line_size (omega arith)

    module _ (n : ℕ) where
      pub body_last : part (with_last t s) (body_start n i) body_size ≡ part t (body_start n i) body_size
      body_last = part_last t s (body_start n i) body_size (omega arith)

      pub zeros_last : part (with_last t s) (body_start n i + zeros_in) 4 ≡ part t (body_start n i + zeros_in) 4
      zeros_last = part_last t s (body_start n i + zeros_in) 4 (omega arith)

      pub place_last : place_at n (with_last t s) i ≡ place_at n t i
      unfolding place_at
      place_last = ap₂ record_of line_last body_last

      pub name_last : name_at n (with_last t s) i ≡ name_at n t i
      unfolding name_at
      name_last = ap stored_name (part_last t s (body_start n i + name_in) name_size (omega arith))

-- it may be stored before a record or after it
pub last_swap : (n : ℕ) (t : List ℕ) (i : ℕ) (r : Record) (s : ℕ) → with_last (with_place n t i r) s ≡ with_place n (with_last t s) i r
unfolding with_last with_place
last_swap n t i r s =
    let e : length (be 4 s) ≡ 4 = length_be 4 s in
    sets_swap (sets t (line_start i) (line_bytes r)) (body_start n i) (body_bytes r) last_in (be 4 s) (inr (omega arith))
    ∙ ap (λ (l : List ℕ). sets l (body_start n i) (body_bytes r)) (sets_swap t (line_start i) (line_bytes r) last_in (be 4 s) (inr (omega arith)))

-- ---- a new latest clock

pub length_clock : (t : List ℕ) (c : ℕ) → length (with_clock t c) ≡ length t
unfolding with_clock
length_clock t c = length-sets t latest_in (be 8 c)

pub bytes_clock : (t : List ℕ) (c : ℕ) → Bytes t → Bytes (with_clock t c)
unfolding with_clock
bytes_clock t c h = bytes_sets t latest_in (be 8 c) h (be_bytes 8 c)

pub latest_clock_lem : (t : List ℕ) (c : ℕ) → 16 ≤ length t → c < 256 ^ 8 → latest_clock (with_clock t c) ≡ c
unfolding latest_clock with_clock
latest_clock_lem t c l h = ap from_be (part_sets_same t latest_in (be 8 c) 8 (length_be 8 c) l) ∙ from_be_be 8 c h

-- it keeps what stands before it and behind it
module _ (t : List ℕ) (c : ℕ) where
  part_before : (a k : ℕ) → a + k ≤ latest_in → part (with_clock t c) a k ≡ part t a k
  unfolding with_clock
  part_before a k h = part_sets_below t latest_in (be 8 c) a k h

  part_behind : (a k : ℕ) → 16 ≤ a → part (with_clock t c) a k ≡ part t a k
  unfolding with_clock
  part_behind a k h = part_sets_above t latest_in (be 8 c) a k (rw length_be h)

  pub last_clock : last_serial (with_clock t c) ≡ last_serial t
  unfolding last_serial
  last_clock = ap from_be (part_before last_in 4 (omega arith))

  pub said_clock : places_said (with_clock t c) ≡ places_said t
  unfolding places_said
  said_clock = ap from_be (part_before places_in 4 (omega arith))

  module _ (i : ℕ) where
    pub line_clock : part (with_clock t c) (line_start i) line_size ≡ part t (line_start i) line_size
    line_clock = part_behind (line_start i) line_size (omega arith)

    pub serial_clock : serial_at (with_clock t c) i ≡ serial_at t i
    unfolding serial_at
    serial_clock = ap from_be (part_behind (line_start i + serial_in) 4 (omega arith))

    module _ (n : ℕ) where
      pub body_clock : part (with_clock t c) (body_start n i) body_size ≡ part t (body_start n i) body_size
      body_clock = part_behind (body_start n i) body_size (omega arith)

      pub zeros_clock : part (with_clock t c) (body_start n i + zeros_in) 4 ≡ part t (body_start n i + zeros_in) 4
      zeros_clock = part_behind (body_start n i + zeros_in) 4 (omega arith)

      pub place_clock : place_at n (with_clock t c) i ≡ place_at n t i
      unfolding place_at
      place_clock = ap₂ record_of line_clock body_clock

      pub name_clock : name_at n (with_clock t c) i ≡ name_at n t i
      unfolding name_at
      name_clock = ap stored_name (part_behind (body_start n i + name_in) name_size (omega arith))
