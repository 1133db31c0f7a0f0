-- A run of batch items, one after the other: what is left of it, which item is the next, and when none is.
-- Assumes nothing.
use Prim.Native.Nat.{ℕ, ◌+◌, ◌-◌, ◌≤◌, ◌<◌}
use native.Mathlib.Omega.{arith}
use mathlib.Core.Path.{◌≡◌, refl, sym, ap, subst, ◌∙◌}
use mathlib.Core.Bool.{true}
use Rattle.std.specs.Prelude.{Option, None, Some}
use mathlib.Core.List.{List, [], ◌∷◌}
use lib.ListN.{length, take, drop, length-take, length-drop}
use lib.Seq.{take_all}
use Rattle.octets.specs.If.{ifb}
use Rattle.octets.specs.Maybe.{is_some}
use Rattle.octets.specs.Octets.{part}
use Rattle.ttlv.specs.Tree.{is_run, tree_of}
use Rattle.ttlv.specs.Parse.{first_of}
use Rattle.fields.specs.Found.{body_in, body_at}
use Rattle.tags.specs.Tags.{batch_item}
use Rattle.batch_item.specs.Item.{Asked, item_in, items_in}
use Rattle.batch_item.proofs.Items.{step, none_left}
use Rattle.frame.specs.Frame.{batch_most}
use Rattle.batch.specs.Batch.{first_item}
use Rattle.batch.specs.Runs.{asked_or, asked_in, asked_all, asked_from, ReadsOne, Reads}

-- no structure stands at the front of nothing
no_body : (tag : ℕ) → body_at [] tag ≡ None
unfolding body_at body_in first_of ifb
no_body tag = refl

none_there : {next : ℕ} → None ≡ Some next → ⊥
none_there q = let z : ◌≡◌ {A = ℕ} 0 1 = cc in omega arith

-- an optional list that is there
all_is : (o : Option (List Asked)) → is_some o ≡ true → o ≡ Some (asked_all o)
unfolding is_some asked_all
all_is None e = let z : ◌≡◌ {A = ℕ} 0 1 = cc in absurd (omega arith)
all_is (Some items) e = refl

-- the rest of a run of items, as it is lent
rest_lent : (next : ℕ) (left : List ℕ) → drop next left ≡ take (length left - next) (drop next left)
rest_lent next left = sym (take_all (length left - next) (drop next left) (rw length-drop (omega arith)))

-- what is left of a batch behind i of its items
pub record Left (left : List ℕ) (i : ℕ) (later : List Asked) : Type 0 where
  pub run : is_run left ≡ true
  pub items : items_in (tree_of left) ≡ Some later
  pub few : i + length later ≤ batch_most

-- at first all of it
pub all_left : {items : List ℕ} → Reads items → Left items first_item (asked_from items)
all_left {items} h = record { run = h.run; items = all_is (items_in (tree_of items)) h.read; few = omega (arith, h.few) }

module _ {left : List ℕ} {i : ℕ} {later : List Asked} (m : Left left i later) where
  -- where no structure stands, no item is left
  pub no_more : body_at left batch_item ≡ None → later ≡ []
  no_more e = go later refl
    where
      go : (l : List Asked) → later ≡ l → l ≡ []
      go [] s = refl
      go (a ∷ rest) s = absurd (none_there (sym e ∙ (step left m.run a rest (m.items ∙ ap Some s)).body))

  -- an item is left: it is the next one, and its body and the rest are those of the frame
  pub record Next (next : ℕ) : Type 0 where
    pub asked : Asked
    pub rest : List Asked
    pub split : later ≡ asked ∷ rest
    pub past : 8 ≤ next
    pub within : next ≤ length left
    pub reads : ReadsOne (part left 8 (next - 8))
    pub item : asked_in (part left 8 (next - 8)) ≡ asked
    pub rest_run : is_run (drop next left) ≡ true
    pub rest_items : items_in (tree_of (drop next left)) ≡ Some rest

  pub next_item : {next : ℕ} → body_at left batch_item ≡ Some next → Next next
  unfolding asked_or is_some
  next_item {next} e = go later refl
    where
      end_of : Option ℕ → ℕ
      end_of (Some k) = k
      end_of None = 0

      go : (l : List Asked) → later ≡ l → Next next
      go [] s = absurd (none_there (sym (no_body batch_item) ∙ sym (ap (λ (u : List ℕ). body_at u batch_item) (none_left left m.run (m.items ∙ ap Some s))) ∙ e))
      go (a ∷ rest) l =
          let s = step left m.run a rest (m.items ∙ ap Some l) in
          let k : s.next ≡ next = ap end_of (sym s.body ∙ e) in
          let there : item_in (tree_of (part left 8 (next - 8))) ≡ Some a = subst (λ (x : ℕ). item_in (tree_of (part left 8 (x - 8))) ≡ Some a) k s.item in
          record {
            asked = a;
            rest = rest;
            split = l;
            past = subst (λ (x : ℕ). 8 ≤ x) k s.past;
            within = subst (λ (x : ℕ). x ≤ length left) k s.within;
            reads = record { run = subst (λ (x : ℕ). is_run (part left 8 (x - 8)) ≡ true) k s.item_run; read = ap is_some there };
            item = ap asked_or there;
            rest_run = subst (λ (x : ℕ). is_run (drop x left) ≡ true) k s.later_run;
            rest_items = subst (λ (x : ℕ). items_in (tree_of (drop x left)) ≡ Some rest) k s.items;
          }

  module _ {next : ℕ} (x : Next next) where
    -- with it, those that are left fit in the batch
    fits : i + length (x.asked ∷ x.rest) ≤ batch_most
    fits = subst (λ (y : List Asked). i + length y ≤ batch_most) x.split m.few

    pub next_index : i < batch_most
    next_index = let l = fits in omega arith

    -- what is left behind it, as it is lent
    pub rest_left : Left (take (length left - next) (drop next left)) (i + 1) x.rest
    rest_left = record {
      run = ap is_run (sym (rest_lent next left)) ∙ x.rest_run;
      items = ap (λ (u : List ℕ). items_in (tree_of u)) (sym (rest_lent next left)) ∙ x.rest_items;
      few = let l = fits in omega arith;
    }

    -- and there is less of it
    pub rest_less : length (take (length left - next) (drop next left)) < length left
    rest_less = rw (length-take, length-drop) (omega (arith, x.past, x.within))
