-- Laws of bytes written over the front of others, and of a part that was lent and written over.
-- Assumes nothing.
use mathlib.Core.Path.{◌≡◌, refl, ◌∙◌}
use Prim.Native.Nat.{ℕ, suc, ◌-◌, ◌≤◌, ◌<◌}
use native.Mathlib.Omega.{arith}
use native.Mathlib.Numerals.{add-one}
use mathlib.Core.List.{List, [], ◌∷◌, ◌++◌, append_assoc, append-nil}
use lib.ListN.{length, take, drop, set, get_or, length-append, length-take, length-drop, drop_of_length-le}
use lib.Seq.{take_at, drop_at, drop-drop, take_all, set_at, drop-cons}
use borrow.Rule.Slice.PartMut.{put_mid, mid_of, post_of, same_len_mid}
use Rattle.octets.specs.Octets.{over}

pub length_over : (b xs : List ℕ) → length b ≤ length xs → length (over b xs) ≡ length xs
length_over b xs h = rw (length-append, length-drop) (omega arith)

-- b is written, and then d in the room that follows it
pub over_then : (b d xs : List ℕ) → take (length b) (over b xs) ++ over d (drop (length b) (over b xs)) ≡ over (b ++ d) xs
over_then b d xs =
    rw (take_at b (drop (length b) xs) (length b) refl, drop_at b (drop (length b) xs) (length b) refl, drop-drop, length-append, append_assoc)

-- b is written n bytes on, and then n bytes d in front of it
pub over_front : (n : ℕ) (b d xs : List ℕ) → length d ≡ n → n ≤ length xs → over d (take n xs ++ over b (drop n xs)) ≡ over (d ++ b) xs
over_front n b d xs e h =
    let l : length (take n xs) ≡ n = rw length-take (omega arith) in
    rw (e, drop_at (take n xs) (over b (drop n xs)) n l, drop-drop, length-append, e, append_assoc)

-- a byte is written right after b
pub over_byte : (b xs : List ℕ) (n x : ℕ) → length b ≡ n → n < length xs → set (over b xs) n x ≡ over (b ++ (x ∷ [])) xs
over_byte b xs n x e h =
    rw (e, drop-cons xs n 0 h, set_at b (get_or xs n 0) (drop (suc n) xs) x n e, length-append, e, add-one, append_assoc)

-- ---- the room from a place on, lent

rest_all : (xs : List ℕ) (a : ℕ) → mid_of a (length xs - a) xs ≡ drop a xs
rest_all xs a = take_all (length xs - a) (drop a xs) (rw length-drop (omega arith))

rest_none : (xs : List ℕ) (a : ℕ) → post_of a (length xs - a) xs ≡ []
rest_none xs a =
    let h : length (drop a xs) ≤ length xs - a = rw length-drop (omega arith) in
    drop_of_length-le (drop a xs) h

-- the room from a on is lent, and d is written over its front
pub lent : (a : ℕ) (d xs ys : List ℕ) → ys ≡ over d (mid_of a (length xs - a) xs) → put_mid a (length xs - a) xs ys ≡ take a xs ++ over d (drop a xs)
lent a d xs ys e = rw (e, rest_all xs a, rest_none xs a, append-nil)

-- the same, where b was written up to a
pub lent_then : (a : ℕ) (b d xs ys zs : List ℕ) → xs ≡ over b zs → length b ≡ a → ys ≡ over d (mid_of a (length xs - a) xs)
    → put_mid a (length xs - a) xs ys ≡ over (b ++ d) zs
lent_then a b d xs ys zs e l h = lent a d xs ys h ∙ rw (e, ← l) (over_then b d zs)

-- the whole keeps its length
pub lent_length : (a : ℕ) (xs ys : List ℕ) → length ys ≡ length (mid_of a (length xs - a) xs) → length (put_mid a (length xs - a) xs ys) ≡ length xs
lent_length a xs ys h = same_len_mid a (length xs - a) xs ys h
