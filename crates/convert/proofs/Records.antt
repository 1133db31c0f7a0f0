-- What the new table of an old one holds: `same_records`, `name_unset`, `activation_unset`, `deactivation_unset`, `last_widened`, `said_widened`, `latest_widened`; and that nothing of the old one is lost: `nothing_lost`.
-- Assumes that the old table has its size, and that its bodies are no longer than those of today; over the number n of places and the number w of bytes in an old body.
use mathlib.Core.Path.{◌≡◌, refl, sym, ap, ap₂, ◌∙◌}
use Prim.Native.Nat.{ℕ, suc, ◌+◌, ◌*◌, ◌-◌, ◌≤◌, ◌<◌}
use native.Mathlib.Nat.{add-zero, mul-suc, mul-le-mul_left}
use native.Mathlib.Omega.{arith}
use mathlib.Core.List.{List, ◌++◌}
use lib.ListN.{length, take, drop, replicate, length-append, length-drop, length-replicate}
use lib.Seq.{take-append-le, drop-append-le, drop-append-add}
use Rattle.octets.specs.Octets.{be, from_be, from_be_after, part}
use Rattle.octets.proofs.Stores.{length_part, part_part}
use Rattle.octets.proofs.Zeros.{part_zeros}
use Rattle.words.specs.Words.{word_bytes}
use Rattle.names.specs.Names.{name_size, name_field, stored_name, no_name}
use Rattle.names.proofs.Stored.{none_range, stored_field}
use Rattle.table.specs.Layout.{line_size, body_size, line_start, body_start, Table, last_in, places_in, latest_in, serial_in, activation_in, deactivation_in, name_in}
use Rattle.table.specs.Records.{record_of, place_at, serial_at, last_serial, places_said, latest_clock}
use Rattle.convert.specs.Old.{front_size, old_body_start, OldTable, old_body_at, lengthened, old_place_at, widened, narrowed}
use Rattle.convert.proofs.Bodies.{joined_cong, part_front, part_body, length_bodies, bodies_back}

-- the zeros behind a body are no name
zeros_unnamed : stored_name (replicate name_size 0) ≡ no_name
unfolding name_field word_bytes be
zeros_unnamed = let e : name_field no_name ≡ replicate name_size 0 = refl in ap stored_name (sym e) ∙ stored_field no_name none_range

-- a part of a body, and what stands behind it
module _ (w : ℕ) (b : List ℕ) (long : length b ≡ w) (a k : ℕ) where
  abbrev zeros : List ℕ
  zeros = replicate (body_size - w) 0

  part_lengthened : a + k ≤ w → part (lengthened w b) a k ≡ part b a k
  part_lengthened h =
      rw (drop-append-le a b zeros (omega arith)) (take-append-le k (drop a b) zeros (rw length-drop (omega arith)))

  behind_lengthened : w ≤ a → a + k ≤ body_size → part (lengthened w b) a k ≡ replicate k 0
  behind_lengthened from h =
      let z : a ≡ length b + (a - w) = omega arith in
      ap (λ (s : List ℕ). take k s) (ap (λ (at : ℕ). drop at (lengthened w b)) z ∙ drop-append-add b zeros (a - w))
      ∙ part_zeros (body_size - w) (a - w) k (omega arith)

module _ (w n : ℕ) (t : List ℕ) (fits : w ≤ body_size) (big : OldTable w n t) where
  -- the body of a place lies in the table
  pub body_in_lem : (i : ℕ) → i < n → old_body_start w n i + w ≤ length t
  body_in_lem i h =
      let e : w * suc i ≡ w * i + w = mul-suc w i in
      let l : w * suc i ≤ w * n = mul-le-mul_left w h in
      omega arith

  pub length_old : (i : ℕ) → i < n → length (old_body_at w n t i) ≡ w
  length_old i h = length_part t (old_body_start w n i) w (body_in_lem i h)

  pub length_new : (i : ℕ) → i < n → length (lengthened w (old_body_at w n t i)) ≡ body_size
  length_new i h = rw (length-append, length_old i h, length-replicate) (omega arith)

  pub length_widened : Table n (widened w n t)
  unfolding widened
  length_widened = length_bodies n t (λ i. lengthened w (old_body_at w n t i)) (omega arith) body_size length_new ∙ omega arith

  -- ---- the lead and the lines

  pub front_widened : (a k : ℕ) → a + k ≤ front_size n → part (widened w n t) a k ≡ part t a k
  unfolding widened
  front_widened a k h = part_front n t (λ i. lengthened w (old_body_at w n t i)) (omega arith) a k h

  pub last_widened : last_serial (widened w n t) ≡ last_serial t
  unfolding last_serial
  last_widened = ap from_be (front_widened last_in 4 (omega arith))

  pub said_widened : places_said (widened w n t) ≡ places_said t
  unfolding places_said
  said_widened = ap from_be (front_widened places_in 4 (omega arith))

  pub latest_widened : latest_clock (widened w n t) ≡ latest_clock t
  unfolding latest_clock
  latest_widened = ap from_be (front_widened latest_in 8 (omega arith))

  module _ (i : ℕ) (below : i < n) where
    pub line_widened : part (widened w n t) (line_start i) line_size ≡ part t (line_start i) line_size
    line_widened = front_widened (line_start i) line_size (omega arith)

    pub serial_widened : serial_at (widened w n t) i ≡ serial_at t i
    unfolding serial_at
    serial_widened = ap from_be (front_widened (line_start i + serial_in) 4 (omega arith))

    -- ---- the bodies

    pub body_widened : part (widened w n t) (body_start n i) body_size ≡ lengthened w (old_body_at w n t i)
    unfolding widened
    body_widened = part_body n t (λ i. lengthened w (old_body_at w n t i)) (omega arith) body_size length_new i below

    -- what stood in the old body stands there in the new one
    pub within_widened : (a k : ℕ) → a + k ≤ w → part (widened w n t) (body_start n i + a) k ≡ part t (old_body_start w n i + a) k
    within_widened a k h =
        sym (part_part (widened w n t) (body_start n i) body_size a k (omega arith))
        ∙ ap (λ (b : List ℕ). part b a k) body_widened
        ∙ part_lengthened w (old_body_at w n t i) (length_old i below) a k h
        ∙ part_part t (old_body_start w n i) w a k h

    -- the record at each place is the one of the old table
    pub same_records : place_at n (widened w n t) i ≡ old_place_at w n t i
    unfolding place_at old_place_at
    same_records = ap₂ record_of line_widened body_widened

    -- and what its body had no room for is not set
    pub name_unset : w ≤ name_in → (old_place_at w n t i).name ≡ no_name
    unfolding old_place_at record_of
    name_unset h = ap stored_name (behind_lengthened w (old_body_at w n t i) (length_old i below) name_in name_size h (omega arith)) ∙ zeros_unnamed

    pub activation_unset : w ≤ activation_in → (old_place_at w n t i).activation ≡ 0
    unfolding old_place_at record_of from_be from_be_after
    activation_unset h = ap from_be (behind_lengthened w (old_body_at w n t i) (length_old i below) activation_in 8 h (omega arith))

    pub deactivation_unset : w ≤ activation_in → (old_place_at w n t i).deactivation ≡ 0
    unfolding old_place_at record_of from_be from_be_after
    deactivation_unset h = ap from_be (behind_lengthened w (old_body_at w n t i) (length_old i below) deactivation_in 8 (omega arith) (omega arith))

  -- the old table can be had back, so no two old tables become one
  pub nothing_lost : narrowed w n (widened w n t) ≡ t
  unfolding narrowed
  nothing_lost =
      ap₂ (λ (a b : List ℕ). a ++ b)
      (front_widened 0 (front_size n) (omega arith))
      (joined_cong (λ i. part (widened w n t) (body_start n i) w) (λ i. old_body_at w n t i) 0 n
      (λ i h. simp add-zero at (within_widened i (omega arith) 0 w (omega arith))))
      ∙ bodies_back n w t big
