-- What is read is well-formed: the runs that can be written are just those that can be read, and each has bytes of its own.
-- Assumes nothing.
use mathlib.Core.Path.{◌≡◌, sym, ap, ◌∙◌}
use Prim.Native.Nat.{ℕ, zero, suc, ◌+◌, ◌-◌, ◌/◌, ◌^◌, ◌≤◌, ◌<◌}
use native.Mathlib.Omega.{arith}
use mathlib.Core.Bool.{true}
use Rattle.std.specs.Prelude.{Option, Some}
use mathlib.Core.List.{List, [], ◌∷◌}
use lib.ListN.{length, drop, get_or}
use Rattle.octets.specs.Octets.{from_be, from_be_after, part, Bytes}
use Rattle.octets.proofs.Numbers.{from_be_lt, bytes_take, bytes_drop}
use Rattle.octets.proofs.Stores.{length_part}
use Rattle.ttlv_types.specs.Types.{structure, padded}
use Rattle.tags.specs.Tags.{tag_lead}
use Rattle.ttlv.specs.Items.{Items, nil, encode, well_formed}
use Rattle.ttlv.specs.Parse.{first_of, more, walk, parse}
use Rattle.ttlv.specs.declared.First.{First}
use Rattle.ttlv.specs.declared.First.TheVariants.{End, Bad, Value, Group}
use Rattle.ttlv.proofs.View.{Head, View, end, bad, val, grp, view}
use Rattle.ttlv.proofs.Put.{inv_value, inv_group, no_some}
use Rattle.ttlv.proofs.Turns.{group_room}
use Rattle.ttlv.proofs.Fine.{FineValue, FineGroup, value_well, group_well}
use Rattle.ttlv.proofs.Spells.{parse_spells}
use Rattle.ttlv.proofs.Back.{parse_back}
use Rattle.ttlv.proofs.Deeper.{one_reading}

-- ---- the head of what is read

-- the first of three bytes is what the number has above 65,535
lead_of : (s : List ℕ) → 3 ≤ length s → Bytes s → from_be (part s 0 3) / 65536 ≡ get_or s 0 0
unfolding from_be from_be_after
lead_of [] h g = absurd (omega arith)
lead_of (x ∷ []) h g = absurd (omega arith)
lead_of (x ∷ y ∷ []) h g = absurd (omega arith)
lead_of (x ∷ y ∷ z ∷ s) h g = omega (arith, g.0, g.1.0, g.1.1.0)

module _ (s : List ℕ) (tag kind n : ℕ) (h : Bytes s) (hd : Head s tag kind n) where
  head_lead : tag / 65536 ≡ tag_lead
  head_lead = ap (λ (x : ℕ). x / 65536) hd.tagged ∙ lead_of s (omega (arith, hd.room)) h ∙ hd.lead

  head_short : n < 256 ^ 4
  head_short =
      let l : length (part s 4 4) ≡ 4 = length_part s 4 4 (omega (arith, hd.room)) in
      let b : from_be (part s 4 4) < 256 ^ length (part s 4 4) = from_be_lt (part s 4 4) (bytes_take 4 (drop 4 s) (bytes_drop 4 s h)) in
      rw hd.counted (rw l at b)

-- ---- the whole run

-- a reader whose answer is well-formed at depth d
abbrev Well : ℕ → (List ℕ → Option Items) → Type 0
Well d f = (s : List ℕ) (t : Items) → Bytes s → f s ≡ Some t → well_formed d t ≡ true

more_well : (d : ℕ) (r : List ℕ → Option Items) → Well d (parse d) → Well (suc d) r → (s : List ℕ) (t : Items) → Bytes s
    → (f : First) → View s f → more (parse d) r s f ≡ Some t → well_formed (suc d) t ≡ true
unfolding more
more_well d r hb hr s t h End (end e0) e = unfold well_formed in let et : t ≡ nil = cc in rw et
more_well d r hb hr s t h Bad bad e = absurd (no_some e)
more_well d r hb hr s t h (Value tag kind n next) (val hd k1 ok z) e =
    let i = inv_value tag kind (part s 8 n) (r (drop (8 + padded n) s)) t e in
    let l : length (part s 8 n) ≡ n = length_part s 8 n (omega (arith, hd.room)) in
    let f : FineValue tag kind (part s 8 n) = record {
      lead = head_lead s tag kind n h hd;
      plain = k1;
      allowed = rw l hd.allowed;
      valued = ok;
      short = rw l (head_short s tag kind n h hd);
    } in
    ap (well_formed (suc d)) i.2
    ∙ value_well d tag kind (part s 8 n) i.0 f (hr (drop (8 + padded n) s) i.0 (bytes_drop (8 + padded n) s h) i.1)
more_well d r hb hr s t h (Group tag next) (grp {n} hd) e =
    let b = part s 8 (8 + n - 8) in
    let i = inv_group tag (parse d b) (r (drop (8 + n) s)) t e in
    let hb8 : Bytes b = bytes_take (8 + n - 8) (drop 8 s) (bytes_drop 8 s h) in
    let l : length (encode i.0) ≡ n = ap length (parse_spells d b i.0 hb8 i.2) ∙ length_part s 8 (8 + n - 8) (omega (arith, group_room s tag n hd)) ∙ omega arith in
    let f : FineGroup tag (length (encode i.0)) = record {
      lead = head_lead s tag structure n h hd;
      short = rw l (head_short s tag structure n h hd);
    } in
    ap (well_formed (suc d)) i.4
    ∙ group_well d tag i.0 i.1 f (hb b i.0 hb8 i.2) (hr (drop (8 + n) s) i.1 (bytes_drop (8 + n) s h) i.3)

walk_well : (d : ℕ) → Well d (parse d) → (k : ℕ) → Well (suc d) (walk (parse d) k)
unfolding walk
walk_well d hb zero s t h e = absurd (no_some e)
walk_well d hb (suc k) s t h e = more_well d (walk (parse d) k) hb (walk_well d hb k) s t h (first_of s) (view s) e

pub parse_well : (d : ℕ) (s : List ℕ) (t : Items) → Bytes s → parse d s ≡ Some t → well_formed d t ≡ true
unfolding parse well_formed
parse_well zero [] t h e = let et : t ≡ nil = cc in rw et
parse_well zero (x ∷ s) t h e = absurd (no_some e)
parse_well (suc d) s t h e = walk_well d (parse_well d) (suc (length s)) s t h e

-- ---- each well-formed run has bytes of its own

pub encode_one : (d e : ℕ) (t u : Items) → well_formed d t ≡ true → well_formed e u ≡ true → encode t ≡ encode u → t ≡ u
encode_one d e t u w x h =
    one_reading d e (encode u) t u (ap (parse d) (sym h) ∙ parse_back d t w) (parse_back e u x)
