-- One spelling: what is read is written as it was.
-- Assumes nothing.
use mathlib.Core.Path.{◌≡◌, refl, sym, ap, ap₂, ◌∙◌}
use Prim.Native.Nat.{ℕ, zero, suc, ◌+◌, ◌-◌, ◌≤◌}
use native.Mathlib.Omega.{arith}
use mathlib.Core.Bool.{true}
use Rattle.std.specs.Prelude.{Option, Some}
use mathlib.Core.List.{List, [], ◌∷◌, ◌++◌}
use lib.ListN.{length, take, drop, get_or, replicate, take-append-drop}
use lib.Seq.{take-add, drop-drop, drop-cons}
use lib.Dec.{eqb}
use borrow.Author.Tests.{eqb-true}
use Rattle.octets.specs.Octets.{be, from_be, part, all, all_zero, Bytes}
use Rattle.octets.proofs.Numbers.{be_part, bytes_take, bytes_drop}
use Rattle.octets.proofs.Stores.{length_part}
use Rattle.ttlv_types.specs.Types.{structure, padded}
use Rattle.ttlv.specs.Items.{Items, nil, head, padding, encode}
use Rattle.ttlv.specs.Parse.{first_of, more, walk, parse}
use Rattle.ttlv.specs.declared.First.{First}
use Rattle.ttlv.specs.declared.First.TheVariants.{End, Bad, Value, Group}
use Rattle.ttlv.proofs.View.{Head, View, end, bad, val, grp, view}
use Rattle.octets.proofs.Bools.{both}
use Rattle.ttlv.proofs.Turns.{whole}
use Rattle.ttlv.proofs.Put.{inv_value, inv_group, no_some}

-- the eight bytes of a head
pub head_of : (s : List ℕ) (tag kind n : ℕ) → Bytes s → Head s tag kind n → head tag kind n ≡ take 8 s
head_of s tag kind n h hd =
    let l : 8 ≤ length s = omega (arith, hd.room) in
    let a : be 3 (from_be (part s 0 3)) ≡ take 3 s = be_part 3 0 s (omega arith) h in
    let b : be 4 (from_be (part s 4 4)) ≡ part s 4 4 = be_part 4 4 s (omega arith) h in
    let d : drop 3 s ≡ get_or s 3 0 ∷ drop 4 s = drop-cons s 3 0 (omega arith) in
    let j : take 3 s ++ (get_or s 3 0 ∷ part s 4 4) ≡ take 8 s = sym (take-add 3 5 s ∙ ap (λ (x : List ℕ). take 3 s ++ take 5 x) d) in
    rw (hd.tagged, hd.kinded, hd.counted) (ap₂ (λ (x y : List ℕ). x ++ (get_or s 3 0 ∷ y)) a b ∙ j)

-- s is its head, n bytes, m bytes and the rest
pub parts : (s : List ℕ) (n m : ℕ) → take 8 s ++ (part s 8 n ++ (part s (8 + n) m ++ drop (8 + n + m) s)) ≡ s
parts s n m =
    rw (← drop-drop m (8 + n) s, take-append-drop, ← drop-drop n 8 s, take-append-drop, take-append-drop)

pub zeros : (s : List ℕ) → all_zero s ≡ true → s ≡ replicate (length s) 0
unfolding all
zeros [] h = refl
zeros (x ∷ s) h =
    let p = both (eqb x 0) (all_zero s) h in
    ap₂ ◌∷◌ (eqb-true x 0 p.0) (zeros s p.1)

value_whole : (s r : List ℕ) (tag kind n : ℕ) → Bytes s → Head s tag kind n → all_zero (part s (8 + n) (padded n - n)) ≡ true
    → r ≡ drop (8 + padded n) s
    → (let v = part s 8 n in head tag kind (length v) ++ (v ++ (padding (length v) ++ r))) ≡ s
value_whole s r tag kind n h hd z e =
    let l : length (part s 8 n) ≡ n = length_part s 8 n (omega (arith, hd.room)) in
    let m : length (part s (8 + n) (padded n - n)) ≡ padded n - n = length_part s (8 + n) (padded n - n) (omega (arith, hd.room)) in
    let zz : replicate (padded n - n) 0 ≡ part s (8 + n) (padded n - n) = rw m at (sym (zeros (part s (8 + n) (padded n - n)) z)) in
    let q : 8 + n + (padded n - n) ≡ 8 + padded n = omega arith in
    rw (l, zz, e, ← q) (ap (λ (x : List ℕ). x ++ (part s 8 n ++ (part s (8 + n) (padded n - n) ++ drop (8 + n + (padded n - n)) s))) (head_of s tag kind n h hd) ∙ parts s n (padded n - n))

group_whole : (s b r : List ℕ) (tag n : ℕ) → Bytes s → Head s tag structure n → b ≡ part s 8 (8 + n - 8) → r ≡ drop (8 + n) s
    → head tag structure (length b) ++ (b ++ r) ≡ s
group_whole s b r tag n h hd eb er =
    let w : padded n ≡ n = whole n hd.allowed in
    let e8 : 8 + n - 8 ≡ n = omega arith in
    let eb' : b ≡ part s 8 n = rw e8 at eb in
    let l : length (part s 8 n) ≡ n = length_part s 8 n (omega (arith, hd.room)) in
    rw (eb', er, l) (ap (λ (x : List ℕ). x ++ (part s 8 n ++ drop (8 + n) s)) (head_of s tag structure n h hd)
    ∙ rw (← drop-drop n 8 s, take-append-drop, take-append-drop))

-- a reader whose answer is written as the bytes were
abbrev Spells : (List ℕ → Option Items) → Type 0
Spells f = (s : List ℕ) (t : Items) → Bytes s → f s ≡ Some t → encode t ≡ s

more_spells : (b r : List ℕ → Option Items) → Spells b → Spells r → (s : List ℕ) (t : Items) → Bytes s
    → (f : First) → View s f → more b r s f ≡ Some t → encode t ≡ s
unfolding more encode
more_spells b r hb hr s t h End (end e0) e = let et : t ≡ nil = cc in rw (et, e0)
more_spells b r hb hr s t h Bad bad e = absurd (no_some e)
more_spells b r hb hr s t h (Value tag kind n next) (val hd k1 ok z) e =
    let i = inv_value tag kind (part s 8 n) (r (drop (8 + padded n) s)) t e in
    ap encode i.2 ∙ value_whole s (encode i.0) tag kind n h hd z (hr (drop (8 + padded n) s) i.0 (bytes_drop (8 + padded n) s h) i.1)
more_spells b r hb hr s t h (Group tag next) (grp {n} hd) e =
    let i = inv_group tag (b (part s 8 (8 + n - 8))) (r (drop (8 + n) s)) t e in
    ap encode i.4 ∙ group_whole s (encode i.0) (encode i.1) tag n h hd
    (hb (part s 8 (8 + n - 8)) i.0 (bytes_take (8 + n - 8) (drop 8 s) (bytes_drop 8 s h)) i.2)
    (hr (drop (8 + n) s) i.1 (bytes_drop (8 + n) s h) i.3)

walk_spells : (b : List ℕ → Option Items) → Spells b → (k : ℕ) → Spells (walk b k)
unfolding walk
walk_spells b hb zero s t h e = absurd (no_some e)
walk_spells b hb (suc k) s t h e = more_spells b (walk b k) hb (walk_spells b hb k) s t h (first_of s) (view s) e

-- what is read is written as it was: two different runs of bytes are never read as the same items
pub parse_spells : (d : ℕ) (s : List ℕ) (t : Items) → Bytes s → parse d s ≡ Some t → encode t ≡ s
unfolding parse encode
parse_spells zero [] t h e = let et : t ≡ nil = cc in rw et
parse_spells zero (x ∷ s) t h e = absurd (no_some e)
parse_spells (suc d) s t h e = walk_spells (parse d) (parse_spells d) (suc (length s)) s t h e
