-- Usage limits read back, present or absent.
-- Assumes nothing.
use mathlib.Core.Path.{◌≡◌, refl, sym, ap, ◌∙◌}
use Prim.Native.Nat.{ℕ, ◌^◌, ◌<◌}
use native.Mathlib.Omega.{arith}
use mathlib.Core.Bool.{Bool, true, false, ◌&&◌, false≢true}
use Rattle.std.specs.Prelude.{Option, None, Some}
use lib.Dec.{leb, eqb}
use borrow.Author.Tests.{eqb-true, not-true, leb-true}
use Rattle.octets.specs.If.{ifb}
use Rattle.octets.specs.Maybe.{◌>>=◌, ◌>>◌}
use Rattle.octets.proofs.If.{ifb_true, ifb_false, on_if, on_bool}
use Rattle.ttlv_types.specs.Types.{long_integer, enumeration}
use Rattle.ttlv.specs.Items.{Items, nil, group, ended}
use Rattle.fields.specs.Fields.{starts_with, body_of, optional}
use Rattle.octets.proofs.Bools.{both}
use Rattle.tags.specs.Tags.{usage_limits, usage_limits_count, usage_limits_total, usage_limits_unit}
use Rattle.values.specs.Values.{unit_ok, total_ok}
use Rattle.plans.specs.declared.Shown.{Shown}
use Rattle.answer.specs.Respond.{word, long, limit_items}
use Rattle.answer.specs.Read.{Limits, limits_first, or_no_limits}
use Rattle.answer.proofs.Tests.{on_or}
use Rattle.octets.proofs.Maybe.{some_is, on_bind, on_test}
use Rattle.answer.proofs.Fields.{ended_is, body_spells, spelled_back, spelled_spells, absent_back, given_back, on_optional}

-- ---- usage limits

-- the usage limit that is shown
abbrev pub limits_of : Shown → Limits
limits_of s = record { unit = s.unit; total = s.total; count = s.count }

-- a usage limit as it is written
abbrev pub limited : Limits → Items → Items
limited l rest =
    group usage_limits
    (long usage_limits_total long_integer l.total
    (long usage_limits_count long_integer l.count
    (word usage_limits_unit enumeration l.unit nil)))
    rest

-- what a usage limit that is shown keeps to
pub record LimitsFacts (l : Limits) : Type 0 where
  pub zeros : eqb l.unit 0 ≡ true → (l.total ≡ 0) × (l.count ≡ 0)
  pub unit_short : l.unit < 256 ^ 4
  pub total_short : l.total < 256 ^ 8
  pub count_short : l.count < 256 ^ 8

-- the test of `shown_ok`
abbrev pub limits_ok : Limits → Bool
limits_ok l = ifb (eqb l.unit 0) (eqb l.total 0 && eqb l.count 0) (unit_ok l.unit && total_ok l.total && leb l.count l.total)

pub limits_facts : (l : Limits) → limits_ok l ≡ true → LimitsFacts l
limits_facts l h = on_bool (eqb l.unit 0) absent present
  where
    absent : eqb l.unit 0 ≡ true → LimitsFacts l
    absent e =
        let u = eqb-true l.unit 0 e in
        let p = both (eqb l.total 0) (eqb l.count 0) (sym (ifb_true _ _ _ e) ∙ h) in
        let t = eqb-true l.total 0 p.0 in
        let c = eqb-true l.count 0 p.1 in
        record { zeros = λ _. (t, c); unit_short = omega arith; total_short = omega arith; count_short = omega arith }

    present : eqb l.unit 0 ≡ false → LimitsFacts l
    present e =
        let p = both _ (leb l.count l.total) (sym (ifb_false _ _ _ e) ∙ h) in
        let q = both (unit_ok l.unit) (total_ok l.total) p.0 in
        let r = both (leb 1 l.total) _ q.1 in
        record {
          zeros = λ z. absurd (false≢true (sym e ∙ z));
          unit_short = on_or (eqb l.unit 1) (eqb l.unit 2) q.0 (λ i. omega (arith, eqb-true)) (λ i. omega (arith, eqb-true));
          total_short = omega (arith, leb-true);
          count_short = omega (arith, leb-true);
        }

limits_first_back : (l : Limits) (rest : Items) → eqb l.unit 0 ≡ false → LimitsFacts l → limits_first (limited l rest) ≡ Some (l, rest)
unfolding limits_first body_of ifb ended ◌>>=◌ ◌>>◌
limits_first_back l rest e f =
    rw (
      spelled_back 8 usage_limits_total long_integer l.total _ f.total_short,
      spelled_back 8 usage_limits_count long_integer l.count _ f.count_short,
      spelled_back 4 usage_limits_unit enumeration l.unit nil f.unit_short,
      e,
    )

limits_first_spells : (t : Items) {a : Limits × Items} → limits_first t ≡ Some a → (t ≡ limited a.0 a.1) × (eqb a.0.unit 0 ≡ false)
unfolding limits_first
limits_first_spells t h =
    on_bind h (λ b e g. on_bind g (λ r e2 g2. on_bind g2 (λ s e3 g3. on_bind g3 (λ u e4 g4. on_test g4 (λ o g5. on_test g5 (λ z w.
    rw (
      body_spells usage_limits t e,
      spelled_spells 8 usage_limits_total long_integer b.0 e2,
      spelled_spells 8 usage_limits_count long_integer r.1 e3,
      spelled_spells 4 usage_limits_unit enumeration s.1 e4,
      ended_is u.1 o,
      ← (some_is w),
    ) (refl, not-true _ z)))))))

-- the usage limit of s, as it is read in front of the rest
pub record LimitsRead (s : Shown) (rest : Items) : Type 0 where
  pub given : Option Limits
  pub read : optional usage_limits limits_first (limit_items s rest) ≡ Some (given, rest)
  pub means : or_no_limits given ≡ limits_of s

pub limits_back : (s : Shown) (rest : Items) → LimitsFacts (limits_of s) → starts_with usage_limits rest ≡ false → LimitsRead s rest
unfolding limit_items or_no_limits
limits_back s rest f n = on_bool (eqb s.unit 0) absent present
  where
    absent : eqb s.unit 0 ≡ true → LimitsRead s rest
    absent e =
        let p = f.zeros e in
        let u : s.unit ≡ 0 = eqb-true s.unit 0 e in
        record {
          given = None;
          read = rw (ifb_true (eqb s.unit 0) rest (limited (limits_of s) rest) e) (absent_back usage_limits limits_first rest n);
          means = cc;
        }

    present : eqb s.unit 0 ≡ false → LimitsRead s rest
    present e =
        let t = limited (limits_of s) rest in
        let r : limits_first t ≡ Some (limits_of s, rest) = limits_first_back (limits_of s) rest e f in
        record {
          given = Some (limits_of s);
          read = rw (ifb_false (eqb s.unit 0) rest t e) (given_back usage_limits limits_first t (unfold starts_with in refl) r);
          means = refl;
        }

pub limits_spells : (t : Items) (s : Shown) {a : Option Limits × Items} → optional usage_limits limits_first t ≡ Some a → or_no_limits a.0 ≡ limits_of s
    → t ≡ limit_items s a.1
unfolding limit_items or_no_limits
limits_spells t s h =
    on_optional usage_limits limits_first t (λ a. or_no_limits a.0 ≡ limits_of s → t ≡ limit_items s a.1) h
    (λ e. sym (ifb_true _ _ _ (none_is e)))
    (λ l rest r e. let p = limits_first_spells t r in p.0 ∙ ap (λ (l : Limits). limited l rest) e ∙ sym (ifb_false _ _ _ (none_is e ∙ p.1)))
  where
    none_is : {l : Limits} → l ≡ limits_of s → eqb s.unit 0 ≡ eqb l.unit 0
    none_is e = ap (λ (l : Limits). eqb l.unit 0) (sym e)

-- a field of another tag does not stand in front of a usage limit
pub no_limit_first : (tag : ℕ) (s : Shown) (rest : Items) → eqb usage_limits tag ≡ false → starts_with tag rest ≡ false → starts_with tag (limit_items s rest) ≡ false
unfolding limit_items starts_with
no_limit_first tag s rest d h = on_if (λ (t : Items). starts_with tag t ≡ false) {b = eqb s.unit 0} (λ e. h) (λ e. d)
