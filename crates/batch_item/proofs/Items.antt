-- A run of batch items by what stands at its front, one item at a time.
-- Assumes nothing.
use mathlib.Core.Path.{◌≡◌, refl, sym, ap, ◌∙◌}
use Prim.Native.Nat.{ℕ, ◌+◌, ◌-◌, ◌≤◌}
use native.Mathlib.Omega.{arith}
use mathlib.Core.Bool.{true}
use Rattle.std.specs.Prelude.{Option, None, Some}
use mathlib.Core.List.{List, [], ◌∷◌}
use lib.ListN.{length, drop}
use lib.Dec.{eqb}
use borrow.Author.Tests.{eqb-true, eqb-false}
use Rattle.octets.specs.Maybe.{◌>>=◌, ◌>>◌}
use Rattle.octets.specs.Octets.{part}
use Rattle.octets.proofs.If.{ifb_true, on_bool}
use Rattle.ttlv.specs.Items.{Items, nil, value, group}
use Rattle.ttlv.specs.Parse.{first_of}
use Rattle.ttlv.specs.Tree.{is_run, tree_of}
use Rattle.fields.specs.Found.{body_in, body_at}
use Rattle.ttlv.specs.declared.First.{First}
use Rattle.ttlv.specs.declared.First.TheVariants.{Bad, End, Value, Group}
use Rattle.ttlv.proofs.Step.{rest}
use Rattle.ttlv.proofs.View.{empty, first_end_lem}
use Rattle.fields.proofs.Found.{body_first}
use Rattle.ttlv.proofs.Tree.{Tree, t_end, t_value, t_group, tree, tree_end, tree_group}
use Rattle.fields.proofs.Lift.{body_rest, body_is_run}
use Rattle.tags.specs.Tags.{batch_item}
use Rattle.batch_item.specs.Item.{Asked, item_in, items_in}
use Rattle.batch_item.specs.Readers.{items_read}
use Rattle.octets.proofs.Maybe.{not_some}
use Rattle.fields.proofs.Runs.{tail}

-- ---- how many there are, n having been counted before

abbrev pub counted : ℕ → Option (List Asked) → Option ℕ
counted n None = None
counted n (Some items) = Some (n + length items)

pub counted_none : (o : Option (List Asked)) → items_read o ≡ counted 0 o
unfolding items_read
counted_none None = refl
counted_none (Some items) = ap Some (omega arith)

pub counted_more : (n : ℕ) (a : Asked) (o : Option (List Asked)) → counted n (o >>= λ items. Some (a ∷ items)) ≡ counted (n + 1) o
unfolding ◌>>=◌
counted_more n a None = refl
counted_more n a (Some items) = ap Some (omega arith)

-- ---- by the item at the front

not_there : (s : List ℕ) (t : Items) (f : First) → Tree s t f → (length s ≡ 0 → ⊥) → body_in batch_item f ≡ None → items_in t ≡ None
unfolding items_in body_in ◌>>◌
not_there s nil End (t_end e) x h = absurd (x (ap length e))
not_there s (value tag kind v r) (Value tag2 kind2 n next) (t_value l b a o e) x h = refl
not_there s (group tag i r) (Group tag2 next) (t_group {tag = tg} {next = nx} l b i2 e) x h =
    on_bool (eqb tg batch_item)
    (λ y. let q : Some nx ≡ None = sym (ifb_true _ _ _ y) ∙ h in let z : ◌≡◌ {A = ℕ} 0 1 = cc in absurd (omega arith))
    (λ n. rw n)
not_there s nil Bad x7 x h = elim x7 [ ]
not_there s nil (Value tag2 kind2 n next) x8 x h = elim x8 [ ]
not_there s nil (Group tag2 next) x9 x h = elim x9 [ ]
not_there s (value tag kind v r) End x7 x h = elim x7 [ ]
not_there s (value tag kind v r) Bad x8 x h = elim x8 [ ]
not_there s (value tag kind v r) (Group tag2 next) x9 x h = elim x9 [ ]
not_there s (group tag i r) End x8 x h = elim x8 [ ]
not_there s (group tag i r) Bad x9 x h = elim x9 [ ]
not_there s (group tag i r) (Value tag2 kind2 n next) x10 x h = elim x10 [ ]

module _ (s : List ℕ) (run : is_run s ≡ true) where
  pub items_end : length s ≡ 0 → items_in (tree_of s) ≡ Some []
  unfolding items_in
  items_end e = ap items_in (tree_end s run (first_end_lem s e))

  pub items_other : (length s ≡ 0 → ⊥) → body_at s batch_item ≡ None → items_in (tree_of s) ≡ None
  unfolding body_at
  items_other x h = not_there s (tree_of s) (first_of s) (tree s run) x h

  module _ {next : ℕ} (e : body_at s batch_item ≡ Some next) where
    pub items_group : items_in (tree_of s) ≡ (item_in (tree_of (part s 8 (next - 8))) >>= λ item. items_in (tree_of (drop next s)) >>= λ items. Some (item ∷ items))
    unfolding items_in ◌>>◌
    items_group = ap items_in (tree_group s run (body_first s batch_item e))

    -- what follows a batch item
    abbrev followed : Option Asked → Option (List Asked)
    followed o = o >>= λ item. items_in (tree_of (drop next s)) >>= λ items. Some (item ∷ items)

    pub items_bad : item_in (tree_of (part s 8 (next - 8))) ≡ None → items_in (tree_of s) ≡ None
    unfolding ◌>>=◌
    items_bad h = items_group ∙ ap followed h

    pub items_more : (n : ℕ) {a : Asked} → item_in (tree_of (part s 8 (next - 8))) ≡ Some a → counted n (items_in (tree_of s)) ≡ counted (n + 1) (items_in (tree_of (tail s next)))
    unfolding ◌>>=◌
    items_more n {a} h =
        ap (counted n) (items_group ∙ ap followed h)
        ∙ counted_more n a (items_in (tree_of (drop next s)))
        ∙ ap (λ (x : List ℕ). counted (n + 1) (items_in (tree_of x))) (sym (rest s next))

-- ---- stepping: a run of batch items is empty, or a batch item and a run again

-- the batch item a at the front of u, which ends at next, and the later ones behind it
pub record Step (u : List ℕ) (a : Asked) (later : List Asked) : Type 0 where
  pub next : ℕ
  pub first : first_of u ≡ Group batch_item next
  pub body : body_at u batch_item ≡ Some next
  pub past : 8 ≤ next
  pub within : next ≤ length u
  pub item_run : is_run (part u 8 (next - 8)) ≡ true
  pub item : item_in (tree_of (part u 8 (next - 8))) ≡ Some a
  pub later_run : is_run (drop next u) ≡ true
  pub items : items_in (tree_of (drop next u)) ≡ Some later

both_read : (o : Option Asked) (p : Option (List Asked)) (a : Asked) (later : List Asked) → (o >>= λ item. p >>= λ items. Some (item ∷ items)) ≡ Some (a ∷ later)
    → (o ≡ Some a) × (p ≡ Some later)
unfolding ◌>>=◌
both_read None p a later h = absurd (not_some h)
both_read (Some x) None a later h = absurd (not_some h)
both_read (Some x) (Some xs) a later h = let e : x ≡ a = cc in let f : xs ≡ later = cc in (cc, cc)

none_read : (o : Option Asked) (p : Option (List Asked)) → (o >>= λ item. p >>= λ items. Some (item ∷ items)) ≡ Some [] → ⊥
unfolding ◌>>=◌
none_read None p h = not_some h
none_read (Some x) None h = not_some h
none_read (Some x) (Some xs) h = let z : ◌≡◌ {A = ℕ} 0 1 = cc in omega arith

module _ (u : List ℕ) (run : is_run u ≡ true) where
  pub step : (a : Asked) (later : List Asked) → items_in (tree_of u) ≡ Some (a ∷ later) → Step u a later
  step a later h = go (body_at u batch_item) refl
    where
      go : (f : Option ℕ) → body_at u batch_item ≡ f → Step u a later
      go None e =
          on_bool (eqb (length u) 0)
          (λ y. let q : Some [] ≡ Some (a ∷ later) = sym (items_end u run (eqb-true (length u) 0 y)) ∙ h in let z : ◌≡◌ {A = ℕ} 0 1 = cc in absurd (omega arith))
          (λ n. absurd (not_some (sym (items_other u run (eqb-false (length u) 0 n) e) ∙ h)))
      go (Some next) e =
          let r = body_rest u run batch_item e in
          let p = both_read (item_in (tree_of (part u 8 (next - 8)))) (items_in (tree_of (drop next u))) a later (sym (items_group u run e) ∙ h) in
          record { next = next; first = body_first u batch_item e; body = e; past = r.past; within = r.within; item_run = body_is_run u run batch_item e; item = p.0; later_run = r.run; items = p.1 }

  -- no item is left exactly where no byte is
  pub none_left : items_in (tree_of u) ≡ Some [] → u ≡ []
  none_left h = empty u (go (body_at u batch_item) refl)
    where
      go : (f : Option ℕ) → body_at u batch_item ≡ f → length u ≡ 0
      go None e =
          on_bool (eqb (length u) 0)
          (λ y. eqb-true (length u) 0 y)
          (λ n. absurd (not_some (sym (items_other u run (eqb-false (length u) 0 n) e) ∙ h)))
      go (Some next) e = absurd (none_read (item_in (tree_of (part u 8 (next - 8)))) (items_in (tree_of (drop next u))) (sym (items_group u run e) ∙ h))
