-- A run of items is as long as its items are when they are written.
-- Assumes nothing. It is so of any numbers, not of bytes alone.
use mathlib.Core.Path.{◌≡◌, sym, ap, ◌∙◌}
use Prim.Native.Nat.{ℕ, zero, suc, ◌+◌, ◌-◌}
use native.Mathlib.Omega.{arith}
use mathlib.Core.Bool.{true}
use Rattle.std.specs.Prelude.{Option, Some}
use mathlib.Core.List.{List, [], ◌∷◌}
use lib.ListN.{length, drop, length-drop}
use Rattle.octets.specs.Octets.{part}
use Rattle.octets.proofs.Stores.{length_part}
use Rattle.ttlv_types.specs.Types.{padded}
use Rattle.ttlv.specs.Items.{Items, nil}
use Rattle.ttlv.specs.Parse.{first_of, more, walk, parse}
use Rattle.ttlv.specs.Tree.{is_run, tree_of}
use Rattle.ttlv.specs.declared.First.{First}
use Rattle.ttlv.specs.declared.First.TheVariants.{End, Bad, Value, Group}
use Rattle.ttlv.proofs.View.{View, end, bad, val, grp, view}
use Rattle.ttlv.proofs.Turns.{whole}
use Rattle.ttlv.proofs.Put.{inv_value, inv_group, no_some}
use Rattle.ttlv.proofs.Sizes.{size, size_nil, size_value, size_group}
use Rattle.ttlv.proofs.Tree.{run_parse}

-- a reader whose answer is as long as what it read
abbrev Sized : (List ℕ → Option Items) → Type 0
Sized f = (s : List ℕ) (t : Items) → f s ≡ Some t → size t ≡ length s

more_sized : (b r : List ℕ → Option Items) → Sized b → Sized r → (s : List ℕ) (t : Items) (f : First) → View s f → more b r s f ≡ Some t → size t ≡ length s
unfolding more
more_sized b r hb hr s t End (end e0) e = let et : t ≡ nil = cc in ap size et ∙ size_nil ∙ sym (ap length e0)
more_sized b r hb hr s t Bad bad e = absurd (no_some e)
more_sized b r hb hr s t (Value tag kind n next) (val hd k1 ok z) e =
    let i = inv_value tag kind (part s 8 n) (r (drop (8 + padded n) s)) t e in
    let room = hd.room in
    let l : length (part s 8 n) ≡ n = length_part s 8 n (omega arith) in
    let d : length (drop (8 + padded n) s) ≡ length s - (8 + padded n) = length-drop (8 + padded n) s in
    let q : size i.0 ≡ length (drop (8 + padded n) s) = hr (drop (8 + padded n) s) i.0 i.1 in
    let p : padded (length (part s 8 n)) ≡ padded n = ap padded l in
    ap size i.2 ∙ size_value tag kind (part s 8 n) i.0 ∙ omega arith
more_sized b r hb hr s t (Group tag next) (grp {n} hd) e =
    let i = inv_group tag (b (part s 8 (8 + n - 8))) (r (drop (8 + n) s)) t e in
    let room = hd.room in
    let w : padded n ≡ n = whole n hd.allowed in
    let e8 : 8 + n - 8 ≡ n = omega arith in
    let l : length (part s 8 (8 + n - 8)) ≡ n = ap (λ (k : ℕ). length (part s 8 k)) e8 ∙ length_part s 8 n (omega arith) in
    let d : length (drop (8 + n) s) ≡ length s - (8 + n) = length-drop (8 + n) s in
    let p : size i.0 ≡ length (part s 8 (8 + n - 8)) = hb (part s 8 (8 + n - 8)) i.0 i.2 in
    let q : size i.1 ≡ length (drop (8 + n) s) = hr (drop (8 + n) s) i.1 i.3 in
    ap size i.4 ∙ size_group tag i.0 i.1 ∙ omega arith

walk_sized : (b : List ℕ → Option Items) → Sized b → (k : ℕ) → Sized (walk b k)
unfolding walk
walk_sized b hb zero s t e = absurd (no_some e)
walk_sized b hb (suc k) s t e = more_sized b (walk b k) hb (walk_sized b hb k) s t (first_of s) (view s) e

parse_sized : (d : ℕ) → Sized (parse d)
unfolding parse
parse_sized zero [] t e = let et : t ≡ nil = cc in ap size et ∙ size_nil
parse_sized zero (x ∷ s) t e = absurd (no_some e)
parse_sized (suc d) s t e = walk_sized (parse d) (parse_sized d) (suc (length s)) s t e

pub run_size : (s : List ℕ) → is_run s ≡ true → size (tree_of s) ≡ length s
run_size s run = parse_sized 8 s (tree_of s) (run_parse s run)
