-- What is written is read back, and no two well-formed runs have the same bytes.
-- Assumes nothing.
use mathlib.Core.Path.{◌≡◌, refl, sym, ap, ap₂, ◌∙◌}
use Prim.Native.Nat.{ℕ, zero, suc, ◌+◌, ◌-◌, ◌/◌, ◌%◌, ◌^◌, ◌≤◌, ◌<◌}
use native.Mathlib.Omega.{arith}
use mathlib.Core.Bool.{true, false≢true}
use Rattle.std.specs.Prelude.{Some}
use mathlib.Core.List.{List, ◌++◌, append_assoc}
use lib.ListN.{length, take, drop, replicate, length-append, length-replicate}
use lib.Seq.{drop-drop, take_at, drop_at}
use borrow.Author.Tests.{eq-eqb}
use Rattle.octets.specs.If.{ifb}
use Rattle.octets.specs.Octets.{be, part, all, all_zero}
use Rattle.octets.proofs.Numbers.{from_be_be}
use Rattle.ttlv_types.specs.Types.{structure, padded, length_ok}
use Rattle.tags.specs.Tags.{tag_lead}
use Rattle.ttlv.specs.Items.{Items, nil, value, group, head, padding, encode, well_formed}
use Rattle.ttlv.specs.Parse.{first_of, put_value, put_group, more, walk, parse}
use Rattle.ttlv.specs.declared.First.TheVariants.{Value, Group}
use Rattle.ttlv.proofs.View.{Head, first_value, first_group}
use Rattle.ttlv.proofs.Turns.{parse_step}
use Rattle.ttlv.proofs.Fine.{FineValue, FineGroup, well_value, well_group}

-- the head of what was written
pub head_back : (tag kind n : ℕ) (r : List ℕ) → tag / 65536 ≡ tag_lead → n < 256 ^ 4 → length_ok kind n ≡ true → padded n ≤ length r
    → Head (head tag kind n ++ r) tag kind n
unfolding be
head_back tag kind n r l h a p = record {
  room = omega arith;
  lead = omega arith;
  tagged = sym (from_be_be 3 tag (omega arith));
  kinded = refl;
  counted = sym (from_be_be 4 n h);
  allowed = a;
}

pub zeros_zero : (n : ℕ) → all_zero (replicate n 0) ≡ true
unfolding all
zeros_zero zero = refl
zeros_zero (suc n) = zeros_zero n

-- past a head, and past a head and v
past_head : (tag kind n : ℕ) (r : List ℕ) → drop 8 (head tag kind n ++ r) ≡ r
unfolding be
past_head tag kind n r = refl

past : (tag kind n : ℕ) (v r : List ℕ) → drop (8 + length v) (head tag kind n ++ (v ++ r)) ≡ r
past tag kind n v r =
    sym (drop-drop (length v) 8 (head tag kind n ++ (v ++ r))) ∙ ap (drop (length v)) (past_head tag kind n (v ++ r)) ∙ drop_at v r (length v) refl

-- past a head, v and z
past_2 : (tag kind n m : ℕ) (v z r : List ℕ) → length v + length z ≡ m → drop (8 + m) (head tag kind n ++ (v ++ (z ++ r))) ≡ r
past_2 tag kind n m v z r e =
    rw (← e, ← append_assoc v z r, ← length-append v z) (past tag kind n (v ++ z) r)

-- the value behind a head
inside : (tag kind n m : ℕ) (v r : List ℕ) → length v ≡ m → part (head tag kind n ++ (v ++ r)) 8 m ≡ v
inside tag kind n m v r e = ap (take m) (past_head tag kind n (v ++ r)) ∙ take_at v r m e

value_back : (tag kind : ℕ) (v r : List ℕ) → FineValue tag kind v
    → first_of (head tag kind (length v) ++ (v ++ (padding (length v) ++ r))) ≡ Value tag kind (length v) (8 + padded (length v))
value_back tag kind v r f =
    let z = padding (length v) in
    first_value (head tag kind (length v) ++ (v ++ (z ++ r))) tag kind (length v)
    (head_back tag kind (length v) (v ++ (z ++ r)) f.lead f.short f.allowed (simp (length-append, length-replicate) (omega arith)))
    f.plain
    (rw (inside tag kind (length v) (length v) v (z ++ r) refl) f.valued)
    (rw (past tag kind (length v) v (z ++ r), take_at z r (padded (length v) - length v) (length-replicate _ _)) (zeros_zero (padded (length v) - length v)))

group_back : (tag : ℕ) (b r : List ℕ) → FineGroup tag (length b) → length b % 8 ≡ 0
    → first_of (head tag structure (length b) ++ (b ++ r)) ≡ Group tag (8 + length b)
unfolding length_ok ifb
group_back tag b r f m =
    first_group (head tag structure (length b) ++ (b ++ r)) tag (length b)
    (head_back tag structure (length b) (b ++ r) f.lead f.short (eq-eqb (length b % 8) 0 m) (rw length-append (omega arith)))

-- what is written is a multiple of 8 bytes
pub eights : (t : Items) → length (encode t) % 8 ≡ 0
unfolding encode be
eights nil = refl
eights (value tag kind v rest) = simp (length-append, length-replicate) (omega (arith, eights rest))
eights (group tag body rest) = simp (length-append) (omega (arith, eights body, eights rest))

read_value : (d tag kind : ℕ) (v r : List ℕ) (t : Items) → FineValue tag kind v → parse (suc d) r ≡ Some t
    → parse (suc d) (head tag kind (length v) ++ (v ++ (padding (length v) ++ r))) ≡ Some (value tag kind v t)
unfolding more put_value
read_value d tag kind v r t f e =
    let z = padding (length v) in
    let s = head tag kind (length v) ++ (v ++ (z ++ r)) in
    let p : drop (8 + padded (length v)) s ≡ r = past_2 tag kind (length v) (padded (length v)) v z r (rw length-replicate (omega arith)) in
    let q : part s 8 (length v) ≡ v = inside tag kind (length v) (length v) v (z ++ r) refl in
    parse_step d s ∙ ap (more (parse d) (parse (suc d)) s) (value_back tag kind v r f)
    ∙ ap₂ (put_value tag kind) q (ap (parse (suc d)) p ∙ e)

read_group : (d tag : ℕ) (b r : List ℕ) (i t : Items) → FineGroup tag (length b) → length b % 8 ≡ 0 → parse d b ≡ Some i → parse (suc d) r ≡ Some t
    → parse (suc d) (head tag structure (length b) ++ (b ++ r)) ≡ Some (group tag i t)
unfolding more put_group
read_group d tag b r i t f m eb e =
    let s = head tag structure (length b) ++ (b ++ r) in
    let p : drop (8 + length b) s ≡ r = past tag structure (length b) b r in
    let q : part s 8 (8 + length b - 8) ≡ b = inside tag structure (length b) (8 + length b - 8) b r (omega arith) in
    parse_step d s ∙ ap (more (parse d) (parse (suc d)) s) (group_back tag b r f m)
    ∙ ap₂ (put_group tag) (ap (parse d) q ∙ eb) (ap (parse (suc d)) p ∙ e)

-- what is written is read back
pub parse_back : (d : ℕ) (t : Items) → well_formed d t ≡ true → parse d (encode t) ≡ Some t
unfolding encode well_formed
parse_back zero nil w = unfold parse in refl
parse_back (suc d) nil w = unfold parse walk first_of more ifb in refl
parse_back zero (value tag kind v rest) w = absurd (false≢true w)
parse_back (suc d) (value tag kind v rest) w =
    let f = well_value d tag kind v rest w in
    read_value d tag kind v (encode rest) rest f.0 (parse_back (suc d) rest f.1)
parse_back zero (group tag body rest) w = absurd (false≢true w)
parse_back (suc d) (group tag body rest) w =
    let f = well_group d tag body rest w in
    read_group d tag (encode body) (encode rest) body rest f.0 (eights body) (parse_back d body f.1) (parse_back (suc d) rest f.2)
