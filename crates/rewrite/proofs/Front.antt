-- What stands at the front of a run of items, written again, is the front of the run's bytes.
-- Assumes nothing.
use mathlib.Core.Path.{◌≡◌, refl, sym, ap, ◌∙◌}
use mathlib.Core.Bool.{true}
use Prim.Native.Nat.{ℕ, suc, ◌+◌, ◌-◌, ◌/◌, ◌≤◌, ◌<◌}
use native.Mathlib.Omega.{arith}
use mathlib.Core.List.{List, ◌++◌}
use lib.ListN.{length, take, drop, length-append}
use lib.Seq.{take_at, drop_at}
use borrow.Author.Tests.{eq-eqb}
use Rattle.octets.specs.Octets.{part, Bytes}
use Rattle.octets.proofs.Numbers.{bytes_take, bytes_drop}
use Rattle.octets.proofs.Stores.{length_part}
use Rattle.ttlv_types.specs.Types.{structure}
use Rattle.tags.specs.Tags.{tag_lead}
use Rattle.ttlv.specs.Items.{Items, nil, value, group, head, encode, well_formed}
use Rattle.ttlv.specs.Parse.{first_of, depth_most}
use Rattle.ttlv.specs.Tree.{is_run, tree_of}
use Rattle.ttlv.specs.declared.First.TheVariants.{End, Value, Group}
use Rattle.ttlv.proofs.Spells.{parse_spells}
use Rattle.ttlv.proofs.Well.{parse_well}
use Rattle.ttlv.proofs.Back.{parse_back}
use Rattle.ttlv.proofs.Fine.{FineValue, FineGroup, well_value, value_well, well_group, group_well}
use Rattle.ttlv.proofs.Tree.{Tree, t_end, t_value, tree, run_parse, parse_run, tree_value, tree_group, group_rest, body_run}
use Rattle.ttlv_put.specs.Write.{join, WroteValue, WroteHead, Holds}
use Rattle.ttlv.proofs.Sizes.{length_head}
use Rattle.ttlv_put.proofs.Sizes.{length_value, encode_value, encode_join}
use Rattle.ttlv_put.proofs.Holds.{holds_value, holds_head}
use Rattle.rewrite.specs.Again.{Again}

-- well-formed runs joined are well-formed
well_join : (d : ℕ) (t u : Items) → well_formed (suc d) t ≡ true → well_formed (suc d) u ≡ true → well_formed (suc d) (join t u) ≡ true
unfolding join
well_join d nil u h g = g
well_join d (value tag kind v rest) u h g =
    let p = well_value d tag kind v rest h in
    value_well d tag kind v (join rest u) p.0 (well_join d rest u p.1 g)
well_join d (group tag body rest) u h g =
    let p = well_group d tag body rest h in
    group_well d tag body (join rest u) p.0 p.1 (well_join d rest u p.2 g)

-- x stands at the front of t, with well-formed items behind it
front_again : (t x : List ℕ) (rest : Items) {room after : List ℕ} {r : ℕ} → t ≡ x ++ encode rest → well_formed depth_most rest ≡ true → 0 < length x
    → Holds x room after r → Again t room after r
front_again t x rest {room} {after} {r} e w l h =
    let n : length t ≡ length x + length (encode rest) = ap length e ∙ length-append x (encode rest) in
    let k = h.size in
    let b : take r t ≡ x = ap (λ (y : List ℕ). take r y) e ∙ take_at x (encode rest) r (sym k) in
    let d : drop r t ≡ encode rest = ap (λ (y : List ℕ). drop r y) e ∙ drop_at x (encode rest) r (sym k) in
    record {
      some = omega arith;
      within = omega arith;
      bytes = rw b h.bytes;
      run = rw d (parse_run (encode rest) rest (parse_back depth_most rest w));
    }

module _ (t : List ℕ) (b : Bytes t) (h : is_run t ≡ true) where
  spells : encode (tree_of t) ≡ t
  spells = parse_spells depth_most t (tree_of t) b (run_parse t h)

  well : well_formed depth_most (tree_of t) ≡ true
  well = parse_well depth_most t (tree_of t) b (run_parse t h)

  -- ---- a value at the front

  module _ {tag kind n next : ℕ} (e : first_of t ≡ Value tag kind n next) where
    value_parts : FineValue tag kind (part t 8 n) × (well_formed depth_most (tree_of (drop next t)) ≡ true)
    value_parts = well_value 7 tag kind (part t 8 n) (tree_of (drop next t)) (rw (tree_value t h e) at well)

    pub value_fine : FineValue tag kind (part t 8 n)
    value_fine = value_parts.0

    pub value_again : {room after : List ℕ} {r : ℕ} → length t ≤ length room → WroteValue true tag kind (part t 8 n) room after r → Again t room after r
    value_again l w =
        let v = part t 8 n in
        let rest = tree_of (drop next t) in
        let f = value_fine in
        let s : t ≡ encode (value tag kind v nil) ++ encode rest = sym spells ∙ ap encode (tree_value t h e) ∙ encode_value tag kind v rest in
        let k : length t ≡ length (encode (value tag kind v nil)) + length (encode rest) = ap length s ∙ length-append (encode (value tag kind v nil)) (encode rest) in
        let m = length_value tag kind v in
        let x = holds_value true tag kind v (eq-eqb (tag / 65536) tag_lead f.lead) refl f.short (omega arith) w in
        front_again t (encode (value tag kind v nil)) rest s value_parts.1 (omega arith) x

  -- ---- a structure at the front

  module _ {tag next : ℕ} (e : first_of t ≡ Group tag next) where
    group_parts : FineGroup tag (length (encode (tree_of (part t 8 (next - 8))))) × (well_formed 7 (tree_of (part t 8 (next - 8))) ≡ true) × (well_formed depth_most (tree_of (drop next t)) ≡ true)
    group_parts = well_group 7 tag (tree_of (part t 8 (next - 8))) (tree_of (drop next t)) (rw (tree_group t h e) at well)

    pub group_again : {room after : List ℕ} {r : ℕ} → length t ≤ length room → WroteHead tag (next - 8) room after r → Again t room after r
    unfolding encode
    group_again l w =
        let rest = tree_of (drop next t) in
        let p = part t 8 (next - 8) in
        let body = tree_of p in
        let pb = bytes_take (next - 8) (drop 8 t) (bytes_drop 8 t b) in
        let pr = body_run t h e in
        let g = group_rest t h e in
        let bs : encode body ≡ p = parse_spells depth_most p body pb (run_parse p pr) in
        let n : next - 8 ≡ length (encode body) = sym (ap length bs ∙ length_part t 8 (next - 8) (omega (arith, g.past, g.within))) in
        let hd = head tag structure (next - 8) in
        let f = group_parts.0 in
        let s : t ≡ hd ++ encode (join body rest) = sym spells ∙ ap encode (tree_group t h e) ∙ rw (← n, encode_join) in
        let x = holds_head tag (next - 8) body (eq-eqb (tag / 65536) tag_lead f.lead) n (rw n f.short) (omega (arith, g.past, g.within)) w in
        let wj = well_join 7 body rest (parse_well depth_most p body pb (run_parse p pr)) group_parts.2 in
        front_again t hd (join body rest) s wj (omega (arith, length_head tag structure (next - 8))) x

-- where a value ends
value_ends : (t : List ℕ) (u : Items) (tag kind n next : ℕ) → Tree t u (Value tag kind n next) → 8 + n ≤ length t
value_ends t u tag kind n next (t_value l b a o e) = omega arith

pub value_within : (t : List ℕ) → is_run t ≡ true → {tag kind n next : ℕ} → first_of t ≡ Value tag kind n next → 8 + n ≤ length t
value_within t h {tag} {kind} {n} {next} e = value_ends t (tree_of t) tag kind n next (rw e at (tree t h))

-- a run that is not empty has something at its front
pub not_end : (t : List ℕ) → is_run t ≡ true → 0 < length t → first_of t ≡ End → ⊥
not_end t h l e = ends (tree_of t) (rw e at (tree t h))
  where
    ends : (u : Items) → Tree t u End → ⊥
    ends u (t_end z) = let k : length t ≡ 0 = ap length z in omega arith
