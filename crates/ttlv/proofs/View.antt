-- What `first_of` says of the bytes that it was asked of: the one view that every proof over `first_of` goes by.
-- Assumes nothing.
use mathlib.Core.Path.{◌≡◌, refl, ◌∙◌}
use Prim.Native.Nat.{ℕ, ◌+◌, ◌-◌, ◌≤◌, ◌<◌}
use native.Mathlib.Omega.{arith}
use mathlib.Core.Bool.{true, false, ◌&&◌}
use mathlib.Core.List.{List, [], ◌∷◌}
use lib.ListN.{length, get_or}
use lib.Dec.{leb, eqb}
use borrow.Author.Tests.{leb-true, eqb-true, eqb-false, le-leb, lt-leb, eq-eqb, ne_eqb}
use Rattle.octets.proofs.If.{ifb_true, ifb_false, on_if}
use Rattle.octets.specs.Octets.{from_be, part, all_zero}
use Rattle.ttlv_types.specs.Types.{structure, padded, length_ok, value_ok}
use Rattle.tags.specs.Tags.{tag_lead}
use Rattle.ttlv.specs.Parse.{headed, first_of}
use Rattle.ttlv.specs.declared.First.{First}
use Rattle.ttlv.specs.declared.First.TheVariants.{End, Bad, Value, Group}
use Rattle.octets.proofs.Bools.{both, and_i, and_second, and_no}

-- ---- the view

pub empty : (s : List ℕ) → length s ≡ 0 → s ≡ []
empty [] h = refl
empty (x ∷ s) h = absurd (omega arith)

-- the head of an item at the front of s, which ends within s
pub record Head (s : List ℕ) (tag kind n : ℕ) : Type 0 where
  pub room : 8 + padded n ≤ length s
  pub lead : get_or s 0 0 ≡ tag_lead
  pub tagged : tag ≡ from_be (part s 0 3)
  pub kinded : kind ≡ get_or s 3 0
  pub counted : n ≡ from_be (part s 4 4)
  pub allowed : length_ok kind n ≡ true

pub data View (s : List ℕ) : First → Type 0 where
  end : s ≡ [] → View s End
  bad : View s Bad
  val : {tag kind n : ℕ} → Head s tag kind n → (kind ≡ structure → ⊥) → value_ok kind (part s 8 n) ≡ true
      → all_zero (part s (8 + n) (padded n - n)) ≡ true → View s (Value tag kind n (8 + padded n))
  grp : {tag n : ℕ} → Head s tag structure n → View s (Group tag (8 + n))

view_headed : (s : List ℕ) (tag kind n : ℕ) → get_or s 0 0 ≡ tag_lead → tag ≡ from_be (part s 0 3) → kind ≡ get_or s 3 0
    → n ≡ from_be (part s 4 4) → View s (headed s tag kind n)
unfolding headed
view_headed s tag kind n l t k c =
    on_if (View s)
    (λ g. let g2 = both (length_ok kind n) (leb (8 + padded n) (length s)) g in
    let hd : Head s tag kind n = record { room = leb-true _ _ g2.1; lead = l; tagged = t; kinded = k; counted = c; allowed = g2.0 } in
    on_if (View s)
    (λ e. grp (rw (eqb-true kind structure e) at hd))
    (λ e. on_if (View s)
    (λ v. let v2 = both (value_ok kind (part s 8 n)) (all_zero (part s (8 + n) (padded n - n))) v in
    val hd (eqb-false kind structure e) v2.0 v2.1)
    (λ v. bad)))
    (λ g. bad)

-- what stands at the front of s, with the facts that the answer rests on
pub view : (s : List ℕ) → View s (first_of s)
unfolding first_of
view s =
    on_if (View s) (λ e. end (empty s (eqb-true (length s) 0 e)))
    (λ e. on_if (View s)
    (λ h. view_headed s _ _ _ (eqb-true (get_or s 0 0) tag_lead (both (leb 8 (length s)) (eqb (get_or s 0 0) tag_lead) h).1) refl refl refl)
    (λ h. bad))

-- ---- and back: the facts give the answer, test by test

module _ (s : List ℕ) (tag kind n : ℕ) where
  pub no_length : length_ok kind n ≡ false → headed s tag kind n ≡ Bad
  unfolding headed
  no_length a = ifb_false _ _ _ (and_no (length_ok kind n) (leb (8 + padded n) (length s)) a)

  module _ (a : length_ok kind n ≡ true) where
    pub no_room : length s < 8 + padded n → headed s tag kind n ≡ Bad
    unfolding headed
    no_room r = ifb_false _ _ _ (and_second (length_ok kind n) (leb (8 + padded n) (length s)) a ∙ lt-leb (8 + padded n) (length s) r)

    module _ (r : 8 + padded n ≤ length s) where
      there : (length_ok kind n && leb (8 + padded n) (length s)) ≡ true
      there = and_i _ _ a (le-leb (8 + padded n) (length s) r)

      pub group_headed : kind ≡ structure → headed s tag kind n ≡ Group tag (8 + n)
      unfolding headed
      group_headed e = ifb_true _ _ _ there ∙ ifb_true _ _ _ (eq-eqb kind structure e)

      module _ (k : kind ≡ structure → ⊥) where
        pub no_value : value_ok kind (part s 8 n) ≡ false → headed s tag kind n ≡ Bad
        unfolding headed
        no_value v = ifb_true _ _ _ there ∙ ifb_false _ _ _ (ne_eqb kind structure k) ∙ ifb_false _ _ _ (and_no (value_ok kind (part s 8 n)) _ v)

        module _ (v : value_ok kind (part s 8 n) ≡ true) where
          pub no_zeros : all_zero (part s (8 + n) (padded n - n)) ≡ false → headed s tag kind n ≡ Bad
          unfolding headed
          no_zeros z = ifb_true _ _ _ there ∙ ifb_false _ _ _ (ne_eqb kind structure k) ∙ ifb_false _ _ _ (and_second (value_ok kind (part s 8 n)) _ v ∙ z)

          pub value_headed : all_zero (part s (8 + n) (padded n - n)) ≡ true → headed s tag kind n ≡ Value tag kind n (8 + padded n)
          unfolding headed
          value_headed z = ifb_true _ _ _ there ∙ ifb_false _ _ _ (ne_eqb kind structure k) ∙ ifb_true _ _ _ (and_i _ _ v z)

module _ (s : List ℕ) where
  pub first_end_lem : length s ≡ 0 → first_of s ≡ End
  unfolding first_of
  first_end_lem e = ifb_true _ _ _ (eq-eqb (length s) 0 e)

  pub first_short : (length s ≡ 0 → ⊥) → length s < 8 → first_of s ≡ Bad
  unfolding first_of
  first_short n l = ifb_false _ _ _ (ne_eqb (length s) 0 n) ∙ ifb_false _ _ _ (and_no (leb 8 (length s)) _ (lt-leb 8 (length s) l))

  module _ (l : 8 ≤ length s) where
    pub no_lead : (get_or s 0 0 ≡ tag_lead → ⊥) → first_of s ≡ Bad
    unfolding first_of
    no_lead n =
        ifb_false _ _ _ (ne_eqb (length s) 0 (λ e. omega arith))
        ∙ ifb_false _ _ _ (and_second (leb 8 (length s)) _ (le-leb 8 (length s) l) ∙ ne_eqb (get_or s 0 0) tag_lead n)

    pub first_headed : get_or s 0 0 ≡ tag_lead → first_of s ≡ headed s (from_be (part s 0 3)) (get_or s 3 0) (from_be (part s 4 4))
    unfolding first_of
    first_headed e =
        ifb_false _ _ _ (ne_eqb (length s) 0 (λ e. omega arith))
        ∙ ifb_true _ _ _ (and_i _ _ (le-leb 8 (length s) l) (eq-eqb (get_or s 0 0) tag_lead e))

by_head : (s : List ℕ) (tag kind n : ℕ) → Head s tag kind n → first_of s ≡ headed s tag kind n
by_head s tag kind n hd = first_headed s (omega (arith, hd.room)) hd.lead ∙ rw (hd.tagged, hd.kinded, hd.counted)

pub first_value : (s : List ℕ) (tag kind n : ℕ) → Head s tag kind n → (kind ≡ structure → ⊥) → value_ok kind (part s 8 n) ≡ true
    → all_zero (part s (8 + n) (padded n - n)) ≡ true → first_of s ≡ Value tag kind n (8 + padded n)
first_value s tag kind n hd k v z = by_head s tag kind n hd ∙ value_headed s tag kind n hd.allowed hd.room k v z

pub first_group : (s : List ℕ) (tag n : ℕ) → Head s tag structure n → first_of s ≡ Group tag (8 + n)
first_group s tag n hd = by_head s tag structure n hd ∙ group_headed s tag structure n hd.allowed hd.room refl
