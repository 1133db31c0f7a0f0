-- What the tag's three bytes say of the item at the front, and whether one with a tag stands there.
-- Assumes nothing.
use mathlib.Core.Logic.{◌⊎◌, inl, inr}
use mathlib.Core.Path.{◌≡◌, refl, sym, ap, subst, ◌∙◌}
use Prim.Native.Nat.{ℕ, ◌<◌}
use native.Mathlib.Omega.{arith}
use mathlib.Core.Bool.{true, false}
use mathlib.Core.List.{List}
use lib.ListN.{length}
use borrow.Author.Tests.{eq-eqb, ne_eqb}
use Rattle.octets.specs.Octets.{from_be, part}
use Rattle.ttlv.specs.Parse.{first_of}
use Rattle.fields.specs.Found.{starts_in, starts_at}
use Rattle.ttlv.specs.declared.First.{First}
use Rattle.ttlv.specs.declared.First.TheVariants.{End, Bad, Value, Group}
use Rattle.ttlv.proofs.View.{View, end, bad, val, grp, view}

module _ (s : List ℕ) (tag : ℕ) where
  short : length s < 8 → (f : First) → View s f → starts_in tag f ≡ false
  unfolding starts_in
  short h End (end e) = refl
  short h Bad bad = refl
  short h (Value t k n next) (val hd x y z) = absurd (omega (arith, hd.room))
  short h (Group t next) (grp hd) = absurd (omega (arith, hd.room))

  other : (from_be (part s 0 3) ≡ tag → ⊥) → (f : First) → View s f → starts_in tag f ≡ false
  unfolding starts_in
  other h End (end e) = refl
  other h Bad bad = refl
  other h (Value t k n next) (val hd x y z) = ne_eqb t tag (λ e. h (sym hd.tagged ∙ e))
  other h (Group t next) (grp hd) = ne_eqb t tag (λ e. h (sym hd.tagged ∙ e))

  pub starts_short : length s < 8 → starts_at s tag ≡ false
  unfolding starts_at
  starts_short h = short h (first_of s) (view s)

  pub starts_other : (from_be (part s 0 3) ≡ tag → ⊥) → starts_at s tag ≡ false
  unfolding starts_at
  starts_other h = other h (first_of s) (view s)

  -- the item at the front is known

  pub starts_none : (first_of s ≡ End) ⊎ (first_of s ≡ Bad) → starts_at s tag ≡ false
  unfolding starts_at starts_in
  starts_none e = elim e [ inl e ↦ ap (starts_in tag) e | inr e ↦ ap (starts_in tag) e ]

  value_tag : {t k n next : ℕ} → View s (Value t k n next) → t ≡ from_be (part s 0 3)
  value_tag (val hd x y z) = hd.tagged

  group_tag : {t next : ℕ} → View s (Group t next) → t ≡ from_be (part s 0 3)
  group_tag (grp hd) = hd.tagged

  module _ (h : from_be (part s 0 3) ≡ tag) where
    pub starts_value : {t k n next : ℕ} → first_of s ≡ Value t k n next → starts_at s tag ≡ true
    unfolding starts_at starts_in
    starts_value {t} e = ap (starts_in tag) e ∙ eq-eqb t tag (value_tag (subst (View s) e (view s)) ∙ h)

    pub starts_group : {t next : ℕ} → first_of s ≡ Group t next → starts_at s tag ≡ true
    unfolding starts_at starts_in
    starts_group {t} e = ap (starts_in tag) e ∙ eq-eqb t tag (group_tag (subst (View s) e (view s)) ∙ h)
