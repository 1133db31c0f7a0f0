-- The items that bytes stand for, by the item at the front: what a reader above goes by.
-- Assumes nothing.
use mathlib.Core.Path.{◌≡◌, refl, sym, subst, ◌∙◌}
use Prim.Native.Nat.{ℕ, suc, ◌+◌, ◌-◌, ◌≤◌}
use native.Mathlib.Omega.{arith}
use mathlib.Core.Bool.{true, false≢true}
use Rattle.std.specs.Prelude.{Option, None, Some}
use mathlib.Core.List.{List, []}
use lib.ListN.{length, drop}
use Rattle.octets.specs.Maybe.{is_some}
use Rattle.octets.specs.Octets.{part}
use Rattle.ttlv_types.specs.Types.{padded, length_ok, value_ok}
use Rattle.ttlv.specs.Items.{Items, nil, value, group}
use Rattle.ttlv.specs.Parse.{first_of, more, parse, depth_most}
use Rattle.ttlv.specs.Tree.{is_run, or_none, tree_of}
use Rattle.ttlv.specs.declared.First.{First}
use Rattle.ttlv.specs.declared.First.TheVariants.{End, Bad, Value, Group}
use Rattle.ttlv.proofs.View.{View, end, bad, val, grp, view}
use Rattle.ttlv.proofs.Put.{inv_value, inv_group, no_some}
use Rattle.ttlv.proofs.Turns.{group_room, parse_step}
use Rattle.ttlv.proofs.Deeper.{parse_deeper}

-- ---- at any depth

pub data Reads (d : ℕ) (s : List ℕ) : Items → First → Type 0 where
  r_end : s ≡ [] → Reads d s nil End
  r_value : {tag kind n next : ℕ} {r : Items} → 8 + n ≤ next → next ≤ length s → length_ok kind n ≡ true → value_ok kind (part s 8 n) ≡ true
      → parse (suc d) (drop next s) ≡ Some r → Reads d s (value tag kind (part s 8 n) r) (Value tag kind n next)
  r_group : {tag next : ℕ} {b r : Items} → 8 ≤ next → next ≤ length s → parse d (part s 8 (next - 8)) ≡ Some b → parse (suc d) (drop next s) ≡ Some r
      → Reads d s (group tag b r) (Group tag next)

pub reads : (d : ℕ) (s : List ℕ) (t : Items) → parse (suc d) s ≡ Some t → Reads d s t (first_of s)
unfolding more
reads d s t h = go (first_of s) (view s) (sym (parse_step d s) ∙ h)
  where
    go : (f : First) → View s f → more (parse d) (parse (suc d)) s f ≡ Some t → Reads d s t f
    go End (end e) g = let et : t ≡ nil = cc in rw et (r_end e)
    go Bad bad g = absurd (no_some g)
    go (Value tag kind n next) (val hd k1 ok z) g =
        let i = inv_value tag kind (part s 8 n) (parse (suc d) (drop (8 + padded n) s)) t g in
        subst (λ (x : Items). Reads d s x (Value tag kind n (8 + padded n))) (sym i.2) (r_value {next = 8 + padded n} (omega arith) hd.room hd.allowed ok i.1)
    go (Group tag next) (grp {n} hd) g =
        let i = inv_group tag (parse d (part s 8 (8 + n - 8))) (parse (suc d) (drop (8 + n) s)) t g in
        subst (λ (x : Items). Reads d s x (Group tag (8 + n))) (sym i.4) (r_group {next = 8 + n} (omega arith) (group_room s tag n hd) i.2 i.3)

-- ---- at the depth that a request allows

pub some_is : (o : Option Items) → is_some o ≡ true → o ≡ Some (or_none o)
unfolding is_some or_none
some_is None h = absurd (false≢true h)
some_is (Some t) h = refl

-- a run of items is read as its items
pub run_parse : (s : List ℕ) → is_run s ≡ true → parse depth_most s ≡ Some (tree_of s)
unfolding is_run tree_of
run_parse s h = some_is (parse depth_most s) h

-- what is read is a run, and its items are those read
pub parse_run : (s : List ℕ) (t : Items) → parse depth_most s ≡ Some t → is_run s ≡ true
unfolding is_run is_some
parse_run s t h = rw h

pub parse_tree : (s : List ℕ) (t : Items) → parse depth_most s ≡ Some t → tree_of s ≡ t
unfolding tree_of or_none
parse_tree s t h = rw h

-- the items of s by the item at its front: the items of a structure and of the rest are again those that bytes stand for
pub data Tree (s : List ℕ) : Items → First → Type 0 where
  t_end : s ≡ [] → Tree s nil End
  t_value : {tag kind n next : ℕ} → 8 + n ≤ next → next ≤ length s → length_ok kind n ≡ true → value_ok kind (part s 8 n) ≡ true
      → is_run (drop next s) ≡ true → Tree s (value tag kind (part s 8 n) (tree_of (drop next s))) (Value tag kind n next)
  t_group : {tag next : ℕ} → 8 ≤ next → next ≤ length s → is_run (part s 8 (next - 8)) ≡ true → is_run (drop next s) ≡ true
      → Tree s (group tag (tree_of (part s 8 (next - 8))) (tree_of (drop next s))) (Group tag next)

pub tree : (s : List ℕ) → is_run s ≡ true → Tree s (tree_of s) (first_of s)
tree s h = go (tree_of s) (first_of s) (reads 7 s (tree_of s) (run_parse s h))
  where
    go : (t : Items) (f : First) → Reads 7 s t f → Tree s t f
    go nil End (r_end e) = t_end e
    go (value tag kind v r) (Value tag2 kind2 n next) (r_value {tag = tg} {kind = kd} {n = m} {next = nx} {r = rr} l b a o e) =
        subst (λ (x : Items). Tree s (value tg kd (part s 8 m) x) (Value tg kd m nx)) (parse_tree (drop nx s) rr e) (t_value {next = nx} l b a o (parse_run (drop nx s) rr e))
    go (group tag i r) (Group tag2 next) (r_group {tag = tg} {next = nx} {b = bb} {r = rr} l b p e) =
        let q = parse_deeper 7 (part s 8 (nx - 8)) bb p in
        subst (λ (x : Items). Tree s (group tg x rr) (Group tg nx)) (parse_tree (part s 8 (nx - 8)) bb q)
        (subst (λ (x : Items). Tree s (group tg (tree_of (part s 8 (nx - 8))) x) (Group tg nx)) (parse_tree (drop nx s) rr e)
        (t_group {next = nx} l b (parse_run (part s 8 (nx - 8)) bb q) (parse_run (drop nx s) rr e)))
    go nil Bad x'' = elim x'' [ ]
    go nil (Value tag2 kind2 n next) x3 = elim x3 [ ]
    go nil (Group tag2 next) x4 = elim x4 [ ]
    go (value tag kind v r) End x3 = elim x3 [ ]
    go (value tag kind v r) Bad x4 = elim x4 [ ]
    go (value tag kind v r) (Group tag2 next) x5 = elim x5 [ ]
    go (group tag i r) End x4 = elim x4 [ ]
    go (group tag i r) Bad x5 = elim x5 [ ]
    go (group tag i r) (Value tag2 kind2 n next) x6 = elim x6 [ ]

-- ---- the same as equations, for a caller that knows what stands at the front

-- where an item ends: within s, with a run behind it
pub record Rest (s : List ℕ) (next : ℕ) : Type 0 where
  pub past : 8 ≤ next
  pub within : next ≤ length s
  pub run : is_run (drop next s) ≡ true

value_items : (s : List ℕ) (t : Items) (tag kind n next : ℕ) → Tree s t (Value tag kind n next)
    → (t ≡ value tag kind (part s 8 n) (tree_of (drop next s))) × Rest s next
value_items s t tag kind n next (t_value l b a o e) = (refl, record { past = omega arith; within = b; run = e })

group_items : (s : List ℕ) (t : Items) (tag next : ℕ) → Tree s t (Group tag next)
    → (t ≡ group tag (tree_of (part s 8 (next - 8))) (tree_of (drop next s))) × Rest s next × (is_run (part s 8 (next - 8)) ≡ true)
group_items s t tag next (t_group l b i e) = (refl, record { past = l; within = b; run = e }, i)

end_items : (s : List ℕ) (t : Items) → Tree s t End → (t ≡ nil) × (s ≡ [])
end_items s t (t_end e) = (refl, e)

bad_items : (s : List ℕ) (t : Items) (f : First) → Tree s t f → f ≡ Bad → ⊥
bad_items s nil End (t_end e) h = let z : ◌≡◌ {A = ℕ} 0 1 = cc in omega arith
bad_items s (value tag kind v r) (Value tag2 kind2 n next) (t_value l b a o e) h = let z : ◌≡◌ {A = ℕ} 0 1 = cc in omega arith
bad_items s (group tag i r) (Group tag2 next) (t_group l b i2 e) h = let z : ◌≡◌ {A = ℕ} 0 1 = cc in omega arith
bad_items s nil Bad x4 h = elim x4 [ ]
bad_items s nil (Value tag2 kind2 n next) x5 h = elim x5 [ ]
bad_items s nil (Group tag2 next) x6 h = elim x6 [ ]
bad_items s (value tag kind v r) End x4 h = elim x4 [ ]
bad_items s (value tag kind v r) Bad x5 h = elim x5 [ ]
bad_items s (value tag kind v r) (Group tag2 next) x6 h = elim x6 [ ]
bad_items s (group tag i r) End x5 h = elim x5 [ ]
bad_items s (group tag i r) Bad x6 h = elim x6 [ ]
bad_items s (group tag i r) (Value tag2 kind2 n next) x7 h = elim x7 [ ]

module _ (s : List ℕ) (h : is_run s ≡ true) where
  by_first : {f : First} → first_of s ≡ f → Tree s (tree_of s) f
  by_first e = rw e at (tree s h)

  pub tree_end : first_of s ≡ End → tree_of s ≡ nil
  tree_end e = (end_items s (tree_of s) (by_first e)).0

  pub tree_bad : first_of s ≡ Bad → ⊥
  tree_bad e = bad_items s (tree_of s) (first_of s) (tree s h) e

  module _ {tag kind n next : ℕ} (e : first_of s ≡ Value tag kind n next) where
    pub tree_value : tree_of s ≡ value tag kind (part s 8 n) (tree_of (drop next s))
    tree_value = (value_items s (tree_of s) tag kind n next (by_first e)).0

    pub value_rest : Rest s next
    value_rest = (value_items s (tree_of s) tag kind n next (by_first e)).1

  module _ {tag next : ℕ} (e : first_of s ≡ Group tag next) where
    pub tree_group : tree_of s ≡ group tag (tree_of (part s 8 (next - 8))) (tree_of (drop next s))
    tree_group = (group_items s (tree_of s) tag next (by_first e)).0

    pub group_rest : Rest s next
    group_rest = (group_items s (tree_of s) tag next (by_first e)).1

    pub body_run : is_run (part s 8 (next - 8)) ≡ true
    body_run = (group_items s (tree_of s) tag next (by_first e)).2
