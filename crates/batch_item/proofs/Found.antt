-- A batch item and a run of them, step by step: what is left of the definitions once a part was read, or was not.
-- Assumes nothing.
use mathlib.Core.Path.{◌≡◌, refl, sym, ap, ap₂, ◌∙◌}
use Prim.Native.Nat.{ℕ, ◌+◌}
use native.Mathlib.Omega.{arith}
use mathlib.Core.Bool.{Bool, true, false, true≢false}
use mathlib.Core.List.{List, [], ◌∷◌}
use Rattle.std.specs.Prelude.{Option, None, Some}
use lib.Dec.{eqb}
use Rattle.octets.specs.If.{ifb}
use Rattle.octets.specs.Maybe.{◌>>=◌, ◌>>◌}
use Rattle.octets.proofs.If.{ifb_true, ifb_false, on_bool}
use Rattle.ttlv.specs.Items.{Items, nil, value, group, ended}
use Rattle.ttlv.proofs.Sizes.{size, size_group}
use Rattle.fields.specs.Fields.{body_of}
use Rattle.tags.specs.Tags.{batch_item}
use Rattle.batch_item.specs.Item.{id_ok, id_bytes, item_in, items_in}

-- ---- behind the ID: it is tested, and then read

module _ {B : Type 0} (k : List ℕ → Items → Option B) where
  tested : (b : Bool) (v : List ℕ) (s : Items) → (b >> k v s) ≡ ((b >> Some (v, s)) >>= λ (x, y). k x y)
  unfolding ◌>>=◌ ◌>>◌
  tested true v s = refl
  tested false v s = refl

  pub id_first : (o : Option (Option (List ℕ) × Items)) → (o >>= λ (id, s). id_ok id >> k (id_bytes id) s) ≡ ((o >>= λ (id, s). id_ok id >> Some (id_bytes id, s)) >>= λ (v, s). k v s)
  unfolding ◌>>=◌
  id_first None = refl
  id_first (Some (id, s)) = tested (id_ok id) (id_bytes id) s

-- ---- a run of batch items, by what stands first

pub items_step : (t : Items) → ended t ≡ false → items_in t ≡ (body_of batch_item t >>= λ (b, r). item_in b >>= λ item. items_in r >>= λ items. Some (item ∷ items))
unfolding ended items_in body_of ◌>>=◌ ◌>>◌ ifb
items_step nil e = absurd (true≢false e)
items_step (value tag kind v rest) e = refl
items_step (group tag body rest) e = go (eqb tag batch_item)
  where
    go : (c : Bool) → (c >> (item_in body >>= λ item. items_in rest >>= λ items. Some (item ∷ items)))
        ≡ (ifb c (Some (body, rest)) None >>= λ (b, r). item_in b >>= λ item. items_in r >>= λ items. Some (item ∷ items))
    go true = refl
    go false = refl

pub items_none : (t : Items) → ended t ≡ true → items_in t ≡ Some []
unfolding ended items_in
items_none nil e = refl
items_none (value tag kind v rest) e = absurd (true≢false (sym e))
items_none (group tag body rest) e = absurd (true≢false (sym e))

-- ---- a structure is longer than its items and those behind it

-- two pairs that are the same
pair : {A B : Type 0} {a c : A} {b d : B} → ◌≡◌ {A = Option (A × B)} (Some (a, b)) (Some (c, d)) → (a ≡ c) × (b ≡ d)
pair {A} {B} {a} {c} {b} {d} h = let p : ◌≡◌ {A = A × B} (a, b) (c, d) = cc in (ap (λ (x : A × B). x.0) p, ap (λ (x : A × B). x.1) p)

pub body_size : (tag : ℕ) (t : Items) {b r : Items} → body_of tag t ≡ Some (b, r) → size t ≡ 8 + size b + size r
unfolding body_of
body_size tag nil h = let z : ◌≡◌ {A = ℕ} 0 1 = cc in absurd (omega arith)
body_size tag (value tag2 kind v rest) h = let z : ◌≡◌ {A = ℕ} 0 1 = cc in absurd (omega arith)
body_size tag (group tag2 c q) {b} {r} h =
    on_bool (eqb tag2 tag)
    (λ y. let p = pair {a = c} {c = b} {b = q} {d = r} (sym (ifb_true _ _ _ y) ∙ h) in
    size_group tag2 c q ∙ ap₂ (λ (x y : Items). 8 + size x + size y) p.0 p.1)
    (λ n. let e : ◌≡◌ {A = Option (Items × Items)} None (Some (b, r)) = sym (ifb_false _ _ _ n) ∙ h in let z : ◌≡◌ {A = ℕ} 0 1 = cc in absurd (omega arith))
