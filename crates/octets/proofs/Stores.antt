-- Laws of runs of stores and of parts: what a run leaves below, at and above it.
-- Assumes nothing.
use mathlib.Core.Path.{◌≡◌, refl, sym, ap, ◌∙◌}
use Prim.Native.Nat.{ℕ, zero, suc, ◌+◌, ◌-◌, ◌/◌, ◌%◌, ◌≤◌, ◌<◌}
use native.Mathlib.Nat.{not-suc-le-zero, add-zero, zero-add, add-suc, suc-add}
use native.Mathlib.Numerals.{add-one}
use native.Mathlib.Omega.{arith}
use mathlib.Core.List.{List, [], ◌∷◌, ◌++◌, append_assoc}
use lib.ListN.{length, take, drop, get_or, set, length-drop}
use lib.Seq.{sets, take_all, set_comm, length-sets, sets-eq, take-suc, take_at, drop_at, take-take, drop-drop, drop-set-lt, drop-set-add, take-set-le, length-take-le}
use Rattle.octets.specs.Octets.{be, part, over}
use Rattle.octets.proofs.Numbers.{length_be}

-- ---- runs of stores

pub sets_append : (t : List ℕ) (at : ℕ) (xs ys : List ℕ) → sets t at (xs ++ ys) ≡ sets (sets t at xs) (at + length xs) ys
sets_append t at [] ys = rw add-zero
sets_append t at (x ∷ xs) ys = sets_append (set t at x) (suc at) xs ys ∙ rw (add-suc, suc-add)

-- b is stored from the front on, and then d right behind it
pub sets_then : (zs b d : List ℕ) {xs ys : List ℕ} (a : ℕ) → xs ≡ sets zs 0 b → length b ≡ a → ys ≡ sets xs a d → ys ≡ sets zs 0 (b ++ d)
sets_then zs b d a e l h = h ∙ sym (rw (sets_append zs 0 b d, l, e, zero-add))

-- and so does one above it
pub sets_set_above : (t : List ℕ) (at : ℕ) (xs : List ℕ) (j b : ℕ) → at + length xs ≤ j → set (sets t at xs) j b ≡ sets (set t j b) at xs
sets_set_above t at [] j b h = refl
sets_set_above t at (x ∷ xs) j b h =
    sets_set_above (set t at x) (suc at) xs j b (omega arith)
    ∙ ap (λ (l : List ℕ). sets l (suc at) xs) (set_comm t at j x b (omega arith))

-- the last byte may be stored first
pub sets_be_back : (t : List ℕ) (at k v : ℕ) → 0 < k → sets (set t (at + (k - 1)) (v % 256)) at (be (k - 1) (v / 256)) ≡ sets t at (be k v)
unfolding be
sets_be_back t at zero v h = absurd (not-suc-le-zero h)
sets_be_back t at (suc j) v h =
    let e : suc j - 1 ≡ j = omega arith in
    let b : length (be j (v / 256)) ≡ j = length_be j (v / 256) in
    rw (e, sets_append t at (be j (v / 256)) (v % 256 ∷ []), b)
    (sym (sets_set_above t at (be j (v / 256)) (at + j) (v % 256) (omega arith)))

-- ---- parts

pub length_part : (t : List ℕ) (at n : ℕ) → at + n ≤ length t → length (part t at n) ≡ n
length_part t at n h = length-take-le n (drop at t) (rw length-drop (omega arith))

-- a part of a part
pub part_part : (t : List ℕ) (at m i n : ℕ) → i + n ≤ m → part (part t at m) i n ≡ part t (at + i) n
part_part t at m i n h =
    drop_take_eq (drop at t) ∙ ap (λ (l : List ℕ). take n l) (drop-drop i at t)
  where
    drop_take_eq : (l : List ℕ) → take n (drop i (take m l)) ≡ take n (drop i l)
    drop_take_eq l = go l i m h
      where
        go : (l : List ℕ) (i m : ℕ) → i + n ≤ m → take n (drop i (take m l)) ≡ take n (drop i l)
        go l zero m h = take-take n m l (omega arith)
        go l (suc i) zero h = absurd (not-suc-le-zero (let z : suc (i + n) ≤ 0 = omega arith in z))
        go [] (suc i) (suc m) h = refl
        go (x ∷ l) (suc i) (suc m) h = go l i m (omega arith)

-- as many as there are, of the first k
pub take_there : (k : ℕ) (s : List ℕ) → take (length (take k s)) s ≡ take k s
take_there zero s = refl
take_there (suc k) [] = refl
take_there (suc k) (x ∷ s) = ap {B = List ℕ} (λ r. x ∷ r) (take_there k s)

-- what a run of stores left: there, below it, above it
pub part_sets_same : (t : List ℕ) (at : ℕ) (bs : List ℕ) (n : ℕ) → length bs ≡ n → at + n ≤ length t → part (sets t at bs) at n ≡ bs
part_sets_same t at bs n e h =
    rw (sets-eq bs t at (omega arith), append_assoc)
    (rw (drop_at (take at t) (bs ++ drop (at + length bs) t) at (length-take-le at t (omega arith)))
    (take_at bs (drop (at + length bs) t) n e))

pub part_set_below : (t : List ℕ) (j b i n : ℕ) → i + n ≤ j → part (set t j b) i n ≡ part t i n
part_set_below t j b i n h =
    let e : j ≡ i + (j - i) = omega arith in
    ap (λ (k : ℕ). part (set t k b) i n) e ∙ rw (drop-set-add i t (j - i) b) (take-set-le n (drop i t) (j - i) b (omega arith))

pub part_sets_below : (t : List ℕ) (at : ℕ) (bs : List ℕ) (i n : ℕ) → i + n ≤ at → part (sets t at bs) i n ≡ part t i n
part_sets_below t at [] i n h = refl
part_sets_below t at (b ∷ bs) i n h = part_sets_below (set t at b) (suc at) bs i n (omega arith) ∙ part_set_below t at b i n h

pub drop_sets_above : (t : List ℕ) (at : ℕ) (bs : List ℕ) (i : ℕ) → at + length bs ≤ i → drop i (sets t at bs) ≡ drop i t
drop_sets_above t at [] i h = refl
drop_sets_above t at (b ∷ bs) i h = drop_sets_above (set t at b) (suc at) bs i (omega arith) ∙ drop-set-lt i t at b (omega arith)

pub part_sets_above : (t : List ℕ) (at : ℕ) (bs : List ℕ) (i n : ℕ) → at + length bs ≤ i → part (sets t at bs) i n ≡ part t i n
part_sets_above t at bs i n h = ap (λ (l : List ℕ). take n l) (drop_sets_above t at bs i h)

-- two runs that lie apart may change places
pub sets_comm : (t : List ℕ) (a : ℕ) (xs : List ℕ) (b : ℕ) (ys : List ℕ) → a + length xs ≤ b → sets (sets t a xs) b ys ≡ sets (sets t b ys) a xs
sets_comm t a xs b [] h = refl
sets_comm t a xs b (y ∷ ys) h =
    ap (λ (l : List ℕ). sets l (suc b) ys) (sets_set_above t a xs b y h)
    ∙ sets_comm (set t b y) a xs (suc b) ys (omega arith)

-- a turn of a loop that copies s to t from `at` on
pub sets_more : (t : List ℕ) (at : ℕ) (s : List ℕ) (k : ℕ) → k < length s → set (sets t at (take k s)) (at + k) (get_or s k 0) ≡ sets t at (take (k + 1) s)
sets_more t at s k h =
    let e : length (take k s) ≡ k = length-take-le k s (omega arith) in
    sym (rw (add-one, take-suc s k 0, sets_append t at (take k s) (get_or s k 0 ∷ []), e))

-- a run of stores over the whole
pub sets_whole : (t bs : List ℕ) → length bs ≡ length t → sets t 0 bs ≡ bs
sets_whole t bs e = sym (take_all (length t) (sets t 0 bs) (rw length-sets (omega arith))) ∙ part_sets_same t 0 bs (length t) e (omega arith)

-- a run of stores from the front is what is written over the front
pub sets_over : (b t : List ℕ) → length b ≤ length t → sets t 0 b ≡ over b t
sets_over b t h = sets-eq b t 0 (omega arith) ∙ rw zero-add

-- a part as it is lent to the number reader
pub lent_field : (t : List ℕ) (at w : ℕ) → at + w ≤ length t → w ≤ 8 → take 8 (take (at + w - at) (drop at t)) ≡ part t at w
lent_field t at w l h =
    let e : at + w - at ≡ w = omega arith in
    let k : length (part t at w) ≡ w = length_part t at w l in
    rw e (take_all 8 (part t at w) (omega arith))
