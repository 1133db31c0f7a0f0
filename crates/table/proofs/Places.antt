-- Laws of places: a record that was stored is the one read there, and every other place stays.
-- Assumes nothing; over the number n of places, of tables of the right size.
use mathlib.Core.Path.{◌≡◌, sym, ap, ap₂, ◌∙◌}
use mathlib.Core.Logic.{◌⊎◌, inl, inr, ⊎_elim}
use Prim.Native.Nat.{ℕ, ◌+◌, ◌≤◌, ◌<◌}
use native.Mathlib.Nat.{add-zero}
use native.Mathlib.Omega.{arith}
use native.Mathlib.Decide.{dec_le, ℕ_discrete}
use mathlib.Core.List.{List}
use lib.ListN.{length}
use lib.Seq.{sets, length-sets}
use lib.Dec.{lit≤}
use Rattle.octets.specs.Octets.{be, from_be, part, Bytes}
use Rattle.octets.proofs.Stores.{sets_comm, part_sets_same, part_sets_below, part_sets_above, part_part, length_part}
use Rattle.words.specs.declared.Words.{Words}
use Rattle.words.specs.Words.{words_of}
use Rattle.names.specs.declared.Name.{Name}
use Rattle.names.specs.Names.{name_size, stored_name}
use Rattle.table.specs.declared.Record.{Record}
use Rattle.table.specs.Layout.{line_size, body_size, material_size, line_start, body_start, Table, serial_in, state_in, unit_in, bits_in, replaced_in, replacement_in, total_in, count_in, mask_in, zeros_in, material_in, activation_in, deactivation_in, name_in}
use Rattle.table.specs.Records.{line_bytes, body_bytes, record_of, place_at, with_place, serial_at, state_at, name_at}
use Rattle.octets.proofs.Zeros.{bytes_sets}
use Rattle.table.proofs.Lines.{InRange, record_of_bytes, record_of_range, line_back, body_back, zeros_body, length_line, length_body, bytes_line, bytes_body, bytes_part}

-- two places that are not one: one is lower
pub apart : (j i : ℕ) → (j ≡ i → ⊥) → (j < i) ⊎ (i < j)
apart j i ne = elim (dec_le j i) [ yes h ↦ inl (omega arith) | no h ↦ inr (omega arith) ]

-- ---- what stands at a place, in any table

-- the serial, the state and the name, read by themselves
pub serial_is : (n : ℕ) (t : List ℕ) (i : ℕ) → serial_at t i ≡ (place_at n t i).serial
unfolding serial_at place_at record_of
serial_is n t i = ap from_be (sym (part_part t (line_start i) line_size serial_in 4 (lit≤ tt)))

pub state_is : (n : ℕ) (t : List ℕ) (i : ℕ) → state_at t i ≡ (place_at n t i).state
unfolding state_at place_at record_of
state_is n t i = ap from_be (sym (part_part t (line_start i) line_size state_in 1 (lit≤ tt)))

pub name_is : (n : ℕ) (t : List ℕ) (i : ℕ) → name_at n t i ≡ (place_at n t i).name
unfolding name_at place_at record_of
name_is n t i = ap stored_name (sym (part_part t (body_start n i) body_size name_in name_size (lit≤ tt)))

module _ (n : ℕ) (t : List ℕ) (i : ℕ) (big : Table n t) (lo : i < n) where
  pub length_line_at : length (part t (line_start i) line_size) ≡ line_size
  length_line_at = length_part t (line_start i) line_size (omega arith)

  pub length_body_at : length (part t (body_start n i) body_size) ≡ body_size
  length_body_at = length_part t (body_start n i) body_size (omega arith)

  -- every record of a table of bytes is in range
  pub place_range : Bytes t → InRange (place_at n t i)
  unfolding place_at
  place_range h = record_of_range _ _ length_line_at length_body_at (bytes_part t (line_start i) line_size h) (bytes_part t (body_start n i) body_size h)

  -- its line and its body are the bytes that spell it
  pub line_is : Bytes t → part t (line_start i) line_size ≡ line_bytes (place_at n t i)
  unfolding place_at
  line_is h = sym (line_back _ _ length_line_at length_body_at (bytes_part t (line_start i) line_size h) (bytes_part t (body_start n i) body_size h))

  pub body_is : Bytes t → part t (body_start n i + zeros_in) 4 ≡ be 4 0 → part t (body_start n i) body_size ≡ body_bytes (place_at n t i)
  unfolding place_at
  body_is h z =
      sym (body_back _ _ length_line_at length_body_at (bytes_part t (line_start i) line_size h) (bytes_part t (body_start n i) body_size h)
      (part_part t (body_start n i) body_size zeros_in 4 (lit≤ tt) ∙ z))

-- ---- a store

pub length_with : (n : ℕ) (t : List ℕ) (i : ℕ) (r : Record) → length (with_place n t i r) ≡ length t
unfolding with_place
length_with n t i r = simp length-sets

pub bytes_with : (n : ℕ) (t : List ℕ) (i : ℕ) (r : Record) → Bytes t → Bytes r.material → Bytes (with_place n t i r)
unfolding with_place
bytes_with n t i r h g = bytes_sets _ (body_start n i) (body_bytes r) (bytes_sets t (line_start i) (line_bytes r) h (bytes_line r)) (bytes_body r g)

module _ (n : ℕ) (t : List ℕ) (i : ℕ) (r : Record) (big : Table n t) (lo : i < n) (m : length r.material ≡ material_size) where
  -- the bytes of the place itself
  pub line_with : part (with_place n t i r) (line_start i) line_size ≡ line_bytes r
  unfolding with_place
  line_with =
      part_sets_below (sets t (line_start i) (line_bytes r)) (body_start n i) (body_bytes r) (line_start i) line_size (omega arith)
      ∙ part_sets_same t (line_start i) (line_bytes r) line_size (length_line r) (omega arith)

  pub body_with : part (with_place n t i r) (body_start n i) body_size ≡ body_bytes r
  unfolding with_place
  body_with = part_sets_same (sets t (line_start i) (line_bytes r)) (body_start n i) (body_bytes r) body_size (length_body r m) (rw length-sets (omega arith))

  pub zeros_with : part (with_place n t i r) (body_start n i + zeros_in) 4 ≡ be 4 0
  zeros_with =
      sym (part_part (with_place n t i r) (body_start n i) body_size zeros_in 4 (lit≤ tt))
      ∙ ap (λ (b : List ℕ). part b zeros_in 4) body_with ∙ zeros_body r

  -- a part that lies clear of both stays
  pub part_with : (a k : ℕ) → (a + k ≤ line_start i) ⊎ (line_start i + line_size ≤ a) → (a + k ≤ body_start n i) ⊎ (body_start n i + body_size ≤ a)
      → part (with_place n t i r) a k ≡ part t a k
  unfolding with_place
  part_with a k h u =
      ⊎_elim
      (λ x. part_sets_below (sets t (line_start i) (line_bytes r)) (body_start n i) (body_bytes r) a k x)
      (λ x. part_sets_above (sets t (line_start i) (line_bytes r)) (body_start n i) (body_bytes r) a k (rw (length_body r m) x))
      u
      ∙ ⊎_elim (λ x. part_sets_below t (line_start i) (line_bytes r) a k x) (λ x. part_sets_above t (line_start i) (line_bytes r) a k (rw (length_line r) x)) h

  -- the bytes of another place
  module _ (j : ℕ) (below : j < n) (ne : j ≡ i → ⊥) where
    pub line_other : part (with_place n t i r) (line_start j) line_size ≡ part t (line_start j) line_size
    line_other = ⊎_elim (λ x. part_with (line_start j) line_size (inl (omega arith)) (inl (omega arith))) (λ x. part_with (line_start j) line_size (inr (omega arith)) (inl (omega arith))) (apart j i ne)

    pub body_other : part (with_place n t i r) (body_start n j) body_size ≡ part t (body_start n j) body_size
    body_other =
        ⊎_elim
        (λ x. part_with (body_start n j) body_size (inr (omega arith)) (inl (omega arith)))
        (λ x. part_with (body_start n j) body_size (inr (omega arith)) (inr (omega arith)))
        (apart j i ne)

    pub zeros_other : part (with_place n t i r) (body_start n j + zeros_in) 4 ≡ part t (body_start n j + zeros_in) 4
    zeros_other =
        sym (part_part (with_place n t i r) (body_start n j) body_size zeros_in 4 (lit≤ tt))
        ∙ ap (λ (b : List ℕ). part b zeros_in 4) body_other
        ∙ part_part t (body_start n j) body_size zeros_in 4 (lit≤ tt)

    pub place_other : place_at n (with_place n t i r) j ≡ place_at n t j
    unfolding place_at
    place_other = ap₂ record_of line_other body_other

    pub serial_other : serial_at (with_place n t i r) j ≡ serial_at t j
    serial_other = serial_is n (with_place n t i r) j ∙ ap (λ (x : Record). x.serial) place_other ∙ sym (serial_is n t j)

module _ (n : ℕ) (t : List ℕ) (i : ℕ) (r : Record) (big : Table n t) (lo : i < n) (h : InRange r) where
  pub place_same : place_at n (with_place n t i r) i ≡ r
  unfolding place_at
  place_same = ap₂ record_of (line_with n t i r big lo h.long) (body_with n t i r big lo h.long) ∙ record_of_bytes r h

  pub serial_same : serial_at (with_place n t i r) i ≡ r.serial
  serial_same = serial_is n (with_place n t i r) i ∙ ap (λ (x : Record). x.serial) place_same

  -- a store that keeps the serial keeps every serial
  pub serial_with : r.serial ≡ serial_at t i → (j : ℕ) → j < n → serial_at (with_place n t i r) j ≡ serial_at t j
  serial_with e j l = elim (ℕ_discrete j i) [
    | yes q ↦ ap (serial_at (with_place n t i r)) q ∙ serial_same ∙ e ∙ ap (serial_at t) (sym q)
    | no q ↦ serial_other n t i r big lo h.long j l q
  ]

-- ---- two stores

pub sets_swap : (t : List ℕ) (a : ℕ) (xs : List ℕ) (b : ℕ) (ys : List ℕ) → (a + length xs ≤ b) ⊎ (b + length ys ≤ a) → sets (sets t a xs) b ys ≡ sets (sets t b ys) a xs
sets_swap t a xs b ys o = ⊎_elim (λ h. sets_comm t a xs b ys h) (λ h. sym (sets_comm t b ys a xs h)) o

with_comm : (n : ℕ) (t : List ℕ) (i j : ℕ) (r q : Record) → length r.material ≡ material_size → length q.material ≡ material_size → i < j → j < n
    → with_place n (with_place n t i r) j q ≡ with_place n (with_place n t j q) i r
unfolding with_place
with_comm n t i j r q mr mq h k =
    let lr = line_bytes r in
    let br = body_bytes r in
    let lq = line_bytes q in
    let bq = body_bytes q in
    let er : length (line_bytes r) ≡ line_size = length_line r in
    let eq : length (line_bytes q) ≡ line_size = length_line q in
    let fr : length (body_bytes r) ≡ body_size = length_body r mr in
    let fq : length (body_bytes q) ≡ body_size = length_body q mq in
    ap (λ (l : List ℕ). sets l (body_start n j) bq) (sets_swap (sets t (line_start i) lr) (body_start n i) br (line_start j) lq (inr (omega arith)))
    ∙ ap (λ (l : List ℕ). sets (sets l (body_start n i) br) (body_start n j) bq) (sets_swap t (line_start i) lr (line_start j) lq (inl (omega arith)))
    ∙ sets_swap (sets (sets t (line_start j) lq) (line_start i) lr) (body_start n i) br (body_start n j) bq (inl (omega arith))
    ∙ ap (λ (l : List ℕ). sets l (body_start n i) br) (sets_swap (sets t (line_start j) lq) (line_start i) lr (body_start n j) bq (inl (omega arith)))

-- two stores at different places may change places
pub with_swap : (n : ℕ) (t : List ℕ) (i j : ℕ) (r q : Record) → length r.material ≡ material_size → length q.material ≡ material_size → i < n → j < n → (i ≡ j → ⊥)
    → with_place n (with_place n t i r) j q ≡ with_place n (with_place n t j q) i r
with_swap n t i j r q mr mq h k ne = ⊎_elim (λ l. with_comm n t i j r q mr mq l k) (λ l. sym (with_comm n t j i q r mq mr l h)) (apart i j ne)

-- ---- fields that are read one by one

pub place_fields : (n : ℕ) (t : List ℕ) (i : ℕ) → let l = line_start i in let b = body_start n i in
    ◌≡◌ {A = Record}
    (record {
      serial = from_be (part t (l + serial_in) 4);
      state = from_be (part t (l + state_in) 1);
      unit = from_be (part t (l + unit_in) 1);
      bits = from_be (part t (l + bits_in) 2);
      replaced = from_be (part t (l + replaced_in) 4);
      replacement = from_be (part t (l + replacement_in) 4);
      total = from_be (part t (b + total_in) 8);
      count = from_be (part t (b + count_in) 8);
      mask = from_be (part t (b + mask_in) 4);
      material = part t (b + material_in) material_size;
      activation = from_be (part t (b + activation_in) 8);
      deactivation = from_be (part t (b + deactivation_in) 8);
      name = name_at n t i;
    })
    (place_at n t i)
unfolding place_at record_of name_at
place_fields n t i =
    let l = line_start i in
    let b = body_start n i in
    cc (
      part_part t l line_size serial_in 4 (lit≤ tt),
      part_part t l line_size state_in 1 (lit≤ tt),
      part_part t l line_size unit_in 1 (lit≤ tt),
      part_part t l line_size bits_in 2 (lit≤ tt),
      part_part t l line_size replaced_in 4 (lit≤ tt),
      part_part t l line_size replacement_in 4 (lit≤ tt),
      part_part t b body_size total_in 8 (lit≤ tt),
      part_part t b body_size count_in 8 (lit≤ tt),
      part_part t b body_size mask_in 4 (lit≤ tt),
      part_part t b body_size material_in material_size (lit≤ tt),
      part_part t b body_size activation_in 8 (lit≤ tt),
      part_part t b body_size deactivation_in 8 (lit≤ tt),
      part_part t b body_size name_in name_size (lit≤ tt),
    )

-- the parts of a name, each read where it stands
pub name_read_lem : (n : ℕ) (t : List ℕ) (i : ℕ) {b len zeros : ℕ} {words : Words} → b ≡ body_start n i → len ≡ from_be (part t (b + name_in) 1) → zeros ≡ from_be (part t (b + name_in + 1) 7)
    → words ≡ words_of (part t (b + name_in + 8) 32) → ◌≡◌ {A = Name} (record { len = len; zeros = zeros; words = words }) (name_at n t i)
unfolding name_at stored_name
name_read_lem n t i {b} e p q r =
    let whole = part t (body_start n i + name_in) name_size in
    let at = body_start n i + name_in in
    rw (p, q, r, e)
    (cc (
      part_part t at name_size 0 1 (lit≤ tt),
      part_part t at name_size 1 7 (lit≤ tt),
      part_part t at name_size 8 32 (lit≤ tt),
      add-zero at,
    ))

-- and its first eight bytes
pub name_starts : (n : ℕ) (t : List ℕ) (i : ℕ) {b start : ℕ} → b ≡ body_start n i → start ≡ from_be (part t (b + name_in + 8) 8) → start ≡ (name_at n t i).words.a
unfolding name_at stored_name words_of
name_starts n t i e p =
    let at = body_start n i + name_in in
    rw (p, e)
    (ap from_be (sym (part_part (part t at name_size) 8 32 0 8 (lit≤ tt) ∙ part_part t at name_size 8 8 (lit≤ tt))))
