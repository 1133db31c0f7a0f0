-- Whether bytes are one item and nothing behind it, by the item at the front: what `is_message` goes by.
-- Assumes nothing.
use mathlib.Core.Path.{◌≡◌, refl, sym, ap, ◌∙◌}
use Prim.Native.Nat.{ℕ, suc, ◌-◌, ◌≤◌}
use native.Mathlib.Omega.{arith}
use mathlib.Core.Bool.{Bool, false, ◌&&◌}
use Rattle.std.specs.Prelude.{Option, None, Some}
use mathlib.Core.List.{List, [], ◌∷◌}
use lib.ListN.{length, drop, length-drop}
use lib.Dec.{eqb}
use borrow.Author.Tests.{eq-eqb, ne_eqb, eqb-true, eqb-false}
use Rattle.octets.specs.If.{ifb}
use Rattle.octets.specs.Maybe.{◌>>=◌, ◌>>◌, is_some}
use Rattle.octets.specs.Octets.{part}
use Rattle.octets.proofs.If.{on_bool}
use Rattle.ttlv.specs.Items.{Items, nil, value, group, ended}
use Rattle.ttlv.specs.Parse.{first_of, put_value, put_group, more, walk, parse, is_one, message}
use Rattle.ttlv.specs.declared.First.{First}
use Rattle.ttlv.specs.declared.First.TheVariants.{End, Bad, Value, Group}
use Rattle.ttlv.proofs.Turns.{parse_step}
use Rattle.ttlv.proofs.Tree.{Reads, r_end, r_value, r_group, reads}
use Rattle.ttlv.proofs.Step.{value_ends, group_ends}

-- ---- the run that is behind an item

-- whether a run was read, and has no item
unfoldable emptied : Option Items → Bool
emptied None = false
emptied (Some t) = ended t

-- a run has no item when it has no bytes
pub parse_ended : (d : ℕ) (s : List ℕ) (t : Items) → parse (suc d) s ≡ Some t → ended t ≡ eqb (length s) 0
parse_ended d s t h = go t (first_of s) (reads d s t h)
  where
    go : (t : Items) (f : First) → Reads d s t f → ended t ≡ eqb (length s) 0
    go nil End (r_end e) = unfold ended in rw e
    go (value tag kind v r) (Value tag2 kind2 n next) (r_value l b a o e) = unfold ended in sym (ne_eqb (length s) 0 (λ z. omega arith))
    go (group tag i r) (Group tag2 next) (r_group l b i2 e) = unfold ended in sym (ne_eqb (length s) 0 (λ z. omega arith))
    go nil Bad x'' = elim x'' [ ]
    go nil (Value tag2 kind2 n next) x3 = elim x3 [ ]
    go nil (Group tag2 next) x4 = elim x4 [ ]
    go (value tag kind v r) End x3 = elim x3 [ ]
    go (value tag kind v r) Bad x4 = elim x4 [ ]
    go (value tag kind v r) (Group tag2 next) x5 = elim x5 [ ]
    go (group tag i r) End x4 = elim x4 [ ]
    go (group tag i r) Bad x5 = elim x5 [ ]
    go (group tag i r) (Value tag2 kind2 n next) x6 = elim x6 [ ]

emptied_is : (d : ℕ) (s : List ℕ) → emptied (parse (suc d) s) ≡ eqb (length s) 0
unfolding emptied
emptied_is d [] = unfold parse walk first_of more ifb ended in refl
emptied_is d (x ∷ s) = go (parse (suc d) (x ∷ s)) refl
  where
    go : (o : Option Items) → parse (suc d) (x ∷ s) ≡ o → emptied o ≡ eqb (length (x ∷ s)) 0
    go None e = sym (ne_eqb (length (x ∷ s)) 0 (λ z. omega arith))
    go (Some t) e = parse_ended d (x ∷ s) t e

-- ---- one item

-- whether a run was read, and is one item
unfoldable single : Option Items → Bool
single o = is_some (o >>= λ t. is_one t >> Some t)

single_value : (tag kind : ℕ) (v : List ℕ) (o : Option Items) → single (put_value tag kind v o) ≡ emptied o
unfolding single emptied put_value is_one is_some ended ◌>>=◌ ◌>>◌
single_value tag kind v None = refl
single_value tag kind v (Some nil) = refl
single_value tag kind v (Some (value tag2 kind2 v2 rest)) = refl
single_value tag kind v (Some (group tag2 body rest)) = refl

single_group : (tag : ℕ) (p o : Option Items) → single (put_group tag p o) ≡ (emptied o && is_some p)
unfolding single emptied put_group is_one is_some ended ◌>>=◌ ◌>>◌
single_group tag None None = refl
single_group tag None (Some nil) = refl
single_group tag None (Some (value tag2 kind2 v2 rest)) = refl
single_group tag None (Some (group tag2 body rest)) = refl
single_group tag (Some i) None = refl
single_group tag (Some i) (Some nil) = refl
single_group tag (Some i) (Some (value tag2 kind2 v2 rest)) = refl
single_group tag (Some i) (Some (group tag2 body rest)) = refl

-- the rest is empty when the item ends where s does
at_end : (s : List ℕ) (next : ℕ) → next ≤ length s → eqb (length (drop next s)) 0 ≡ eqb next (length s)
at_end s next h =
    on_bool (eqb next (length s))
    (λ e. let q = eqb-true next (length s) e in eq-eqb (length (drop next s)) 0 (rw length-drop (omega arith)) ∙ sym e)
    (λ e. let q = eqb-false next (length s) e in ne_eqb (length (drop next s)) 0 (λ z. q (let y : length s - next ≡ 0 = sym (length-drop next s) ∙ z in omega arith)) ∙ sym e)

module _ (s : List ℕ) where
  by_first : is_some (message s) ≡ single (more (parse 7) (parse 8) s (first_of s))
  unfolding message single
  by_first = ap single (parse_step 7 s)

  pub one_end : first_of s ≡ End → is_some (message s) ≡ false
  unfolding single more is_some is_one ◌>>=◌ ◌>>◌
  one_end e = by_first ∙ rw e

  pub one_bad : first_of s ≡ Bad → is_some (message s) ≡ false
  unfolding single more is_some is_one ◌>>=◌ ◌>>◌
  one_bad e = by_first ∙ rw e

  pub one_value : {tag kind n next : ℕ} → first_of s ≡ Value tag kind n next → is_some (message s) ≡ eqb next (length s)
  unfolding more
  one_value {tag} {kind} {n} {next} e =
      by_first ∙ ap (λ (f : First). single (more (parse 7) (parse 8) s f)) e
      ∙ single_value tag kind (part s 8 n) (parse 8 (drop next s)) ∙ emptied_is 7 (drop next s) ∙ at_end s next (value_ends s e).1

  pub one_group : {tag next : ℕ} → first_of s ≡ Group tag next → is_some (message s) ≡ (eqb next (length s) && is_some (parse 7 (part s 8 (next - 8))))
  unfolding more
  one_group {tag} {next} e =
      by_first ∙ ap (λ (f : First). single (more (parse 7) (parse 8) s f)) e
      ∙ single_group tag (parse 7 (part s 8 (next - 8))) (parse 8 (drop next s))
      ∙ ap (λ (b : Bool). b && is_some (parse 7 (part s 8 (next - 8)))) (emptied_is 7 (drop next s) ∙ at_end s next (group_ends s e).1)
