-- Dates read back, set or not. One law for both tags.
-- Assumes nothing.
use mathlib.Core.Path.{◌≡◌, refl, sym, ◌∙◌}
use Prim.Native.Nat.{ℕ, ◌^◌, ◌<◌}
use mathlib.Core.Bool.{true, false}
use Rattle.std.specs.Prelude.{Option, None, Some}
use lib.Dec.{eqb}
use borrow.Author.Tests.{eqb-true, not-true, eq-eqb}
use Rattle.octets.specs.If.{ifb}
use Rattle.octets.specs.Maybe.{◌>>=◌, ◌>>◌}
use Rattle.octets.proofs.If.{ifb_true, ifb_false, on_if, on_bool}
use Rattle.octets.proofs.Maybe.{some_is, on_bind, on_test}
use Rattle.ttlv_types.specs.Types.{date_time}
use Rattle.ttlv.specs.Items.{Items}
use Rattle.fields.specs.Fields.{starts_with, optional}
use Rattle.attributes_read.specs.Attributes.{or_unset}
use Rattle.answer.specs.Respond.{long, date_items}
use Rattle.answer.specs.Read.{set_date}
use Rattle.answer.proofs.Fields.{spelled_back, spelled_spells, absent_back, given_back, on_optional}

-- the date of a tag, as it is read in front of the rest
pub record DateRead (tag date : ℕ) (rest : Items) : Type 0 where
  pub given : Option ℕ
  pub read : optional tag (set_date tag) (date_items tag date rest) ≡ Some (given, rest)
  pub means : or_unset given ≡ date

module _ (tag : ℕ) where
  set_back : (date : ℕ) (rest : Items) → eqb date 0 ≡ false → date < 256 ^ 8 → set_date tag (long tag date_time date rest) ≡ Some (date, rest)
  unfolding set_date ◌>>=◌ ◌>>◌
  set_back date rest e h = rw (spelled_back 8 tag date_time date rest h, e)

  set_spells : (t : Items) {a : ℕ × Items} → set_date tag t ≡ Some a → (t ≡ long tag date_time a.0 a.1) × (eqb a.0 0 ≡ false)
  unfolding set_date
  set_spells t h = on_bind h (λ d e g. on_test g (λ u w. rw (spelled_spells 8 tag date_time t e, ← (some_is w)) (refl, not-true _ u)))

  pub date_back : (date : ℕ) (rest : Items) → date < 256 ^ 8 → starts_with tag rest ≡ false → DateRead tag date rest
  unfolding date_items or_unset
  date_back date rest h n = on_bool (eqb date 0) absent present
    where
      absent : eqb date 0 ≡ true → DateRead tag date rest
      absent e =
          record {
            given = None;
            read = rw (ifb_true (eqb date 0) rest (long tag date_time date rest) e) (absent_back tag (set_date tag) rest n);
            means = sym (eqb-true date 0 e);
          }

      present : eqb date 0 ≡ false → DateRead tag date rest
      present e =
          let t = long tag date_time date rest in
          record {
            given = Some date;
            read = rw (ifb_false (eqb date 0) rest t e) (given_back tag (set_date tag) t (unfold starts_with in eq-eqb tag tag refl) (set_back date rest e h));
            means = refl;
          }

  pub date_spells : (t : Items) {a : Option ℕ × Items} → optional tag (set_date tag) t ≡ Some a → t ≡ date_items tag (or_unset a.0) a.1
  unfolding date_items or_unset ifb
  date_spells t h =
      on_optional tag (set_date tag) t (λ a. t ≡ date_items tag (or_unset a.0) a.1) h
      refl
      (λ date rest r. let p = set_spells t r in p.0 ∙ sym (ifb_false _ _ _ p.1))

-- a field of another tag does not stand in front of a date
pub no_date_first : (tag other date : ℕ) (rest : Items) → eqb other tag ≡ false → starts_with tag rest ≡ false → starts_with tag (date_items other date rest) ≡ false
unfolding date_items starts_with
no_date_first tag other date rest d h = on_if (λ (t : Items). starts_with tag t ≡ false) {b = eqb date 0} (λ e. h) (λ e. d)
