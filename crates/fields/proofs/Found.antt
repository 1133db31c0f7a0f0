-- What the answers of the field readers say of the item at the front, both ways.
-- Assumes nothing.
use Rattle.std.specs.Prelude.{Option, None, Some}
use mathlib.Core.Path.{◌≡◌, refl, sym, ap, ◌∙◌}
use Prim.Native.Nat.{ℕ}
use native.Mathlib.Omega.{arith}
use mathlib.Core.Bool.{true, ◌&&◌}
use mathlib.Core.List.{List}
use lib.ListN.{take}
use lib.Dec.{eqb}
use borrow.Author.Tests.{eqb-true, eq-eqb, ne_eqb}
use Rattle.octets.specs.Octets.{from_be, part}
use Rattle.octets.proofs.If.{ifb_true, ifb_false, on_bool}
use Rattle.ttlv.specs.Parse.{first_of}
use Rattle.fields.specs.Found.{starts_in, starts_at, bytes_in, bytes_at, number_in, number_at, body_in, body_at}
use Rattle.ttlv.specs.declared.First.{First}
use Rattle.ttlv.specs.declared.First.TheVariants.{End, Bad, Value, Group}
use Rattle.octets.proofs.Bools.{both, and_i, and_no, and_second}
use Rattle.ttlv.proofs.Step.{Within, Holds, value_ends, group_ends}

-- two answers of two parts that are one have the same parts
pub same_parts : {A B : Type 0} {a c : A} {b d : B} → ◌≡◌ {A = Option (A × B)} (Some (a, b)) (Some (c, d)) → (a ≡ c) × (b ≡ d)
same_parts {A} {B} {a} {c} {b} {d} h = let x : A × B = (a, b) in let y : A × B = (c, d) in let e : x ≡ y = cc in (ap (λ (x : A × B). x.0) e, ap (λ (x : A × B). x.1) e)

-- ---- from the item at the front to the answer

module _ (tag kind : ℕ) where
  -- another variant than Value
  pub no_value_first : (f : First) → ((t k n next : ℕ) → f ≡ Value t k n next → ⊥) → bytes_in tag kind f ≡ None
  unfolding bytes_in
  no_value_first End h = refl
  no_value_first Bad h = refl
  no_value_first (Value t k n next) h = absurd (h t k n next refl)
  no_value_first (Group t next) h = refl

  module _ (tag2 kind2 n next : ℕ) where
    pub other_tag : (tag2 ≡ tag → ⊥) → bytes_in tag kind (Value tag2 kind2 n next) ≡ None
    unfolding bytes_in
    other_tag t = ifb_false _ _ _ (and_no (eqb tag2 tag) (eqb kind2 kind) (ne_eqb tag2 tag t))

    module _ (t : tag2 ≡ tag) where
      pub other_kind : (kind2 ≡ kind → ⊥) → bytes_in tag kind (Value tag2 kind2 n next) ≡ None
      unfolding bytes_in
      other_kind k = ifb_false _ _ _ (and_second (eqb tag2 tag) (eqb kind2 kind) (eq-eqb tag2 tag t) ∙ ne_eqb kind2 kind k)

      pub wanted : kind2 ≡ kind → bytes_in tag kind (Value tag2 kind2 n next) ≡ Some (n, next)
      unfolding bytes_in
      wanted k = ifb_true _ _ _ (and_i (eqb tag2 tag) (eqb kind2 kind) (eq-eqb tag2 tag t) (eq-eqb kind2 kind k))

module _ (tag : ℕ) where
  -- another variant than Group
  pub no_group_first : (f : First) → ((t next : ℕ) → f ≡ Group t next → ⊥) → body_in tag f ≡ None
  unfolding body_in
  no_group_first End h = refl
  no_group_first Bad h = refl
  no_group_first (Value t k n next) h = refl
  no_group_first (Group t next) h = absurd (h t next refl)

  pub other_group : (tag2 next : ℕ) → (tag2 ≡ tag → ⊥) → body_in tag (Group tag2 next) ≡ None
  unfolding body_in
  other_group tag2 next t = ifb_false _ _ _ (ne_eqb tag2 tag t)

  pub wanted_group : (tag2 next : ℕ) → tag2 ≡ tag → body_in tag (Group tag2 next) ≡ Some next
  unfolding body_in
  wanted_group tag2 next t = ifb_true _ _ _ (eq-eqb tag2 tag t)

-- ---- and back: from the answer to the item at the front

bytes_in_lem : (tag kind n next : ℕ) (f : First) → bytes_in tag kind f ≡ Some (n, next) → f ≡ Value tag kind n next
unfolding bytes_in
bytes_in_lem tag kind n next End h = let z : ◌≡◌ {A = ℕ} 0 1 = cc in absurd (omega arith)
bytes_in_lem tag kind n next Bad h = let z : ◌≡◌ {A = ℕ} 0 1 = cc in absurd (omega arith)
bytes_in_lem tag kind n next (Value t k m nx) h =
    on_bool (eqb t tag && eqb k kind)
    (λ e. let p = both (eqb t tag) (eqb k kind) e in
    let q = same_parts (sym (ifb_true _ _ _ e) ∙ h) in
    let a : t ≡ tag = eqb-true t tag p.0 in
    let b : k ≡ kind = eqb-true k kind p.1 in
    cc)
    (λ e. let q : None ≡ Some (n, next) = sym (ifb_false _ _ _ e) ∙ h in let z : ◌≡◌ {A = ℕ} 0 1 = cc in absurd (omega arith))
bytes_in_lem tag kind n next (Group t nx) h = let z : ◌≡◌ {A = ℕ} 0 1 = cc in absurd (omega arith)

body_in_lem : (tag next : ℕ) (f : First) → body_in tag f ≡ Some next → f ≡ Group tag next
unfolding body_in
body_in_lem tag next End h = let z : ◌≡◌ {A = ℕ} 0 1 = cc in absurd (omega arith)
body_in_lem tag next Bad h = let z : ◌≡◌ {A = ℕ} 0 1 = cc in absurd (omega arith)
body_in_lem tag next (Value t k m nx) h = let z : ◌≡◌ {A = ℕ} 0 1 = cc in absurd (omega arith)
body_in_lem tag next (Group t nx) h =
    on_bool (eqb t tag)
    (λ e. let q : Some nx ≡ Some next = sym (ifb_true _ _ _ e) ∙ h in let a : t ≡ tag = eqb-true t tag e in cc)
    (λ e. let q : None ≡ Some next = sym (ifb_false _ _ _ e) ∙ h in let z : ◌≡◌ {A = ℕ} 0 1 = cc in absurd (omega arith))

number_in_lem : (s : List ℕ) (v next : ℕ) (b : Option (ℕ × ℕ)) → number_in s b ≡ Some (v, next) → (n : ℕ) × (b ≡ Some (n, next)) × (v ≡ from_be (take 8 (part s 8 n)))
unfolding number_in
number_in_lem s v next (Some (n, nx)) h = let q = same_parts h in (n, ap (λ (x : ℕ). Some (n, x)) q.1, sym q.0)
number_in_lem s v next None h = let z : ◌≡◌ {A = ℕ} 0 1 = cc in absurd (omega arith)

module _ (s : List ℕ) (tag kind : ℕ) where
  pub bytes_first : {n next : ℕ} → bytes_at s tag kind ≡ Some (n, next) → first_of s ≡ Value tag kind n next
  unfolding bytes_at
  bytes_first {n} {next} h = bytes_in_lem tag kind n next (first_of s) h

  pub number_bytes : {v next : ℕ} → number_at s tag kind ≡ Some (v, next) → (n : ℕ) × (bytes_at s tag kind ≡ Some (n, next)) × (v ≡ from_be (take 8 (part s 8 n)))
  unfolding number_at
  number_bytes {v} {next} h = number_in_lem s v next (bytes_at s tag kind) h

  -- where the field ends, and that the type allows it
  pub bytes_ends : {n next : ℕ} → bytes_at s tag kind ≡ Some (n, next) → Holds s kind n next
  bytes_ends h = value_ends s (bytes_first h)

  pub number_ends : {v next : ℕ} → number_at s tag kind ≡ Some (v, next) → Within s next
  number_ends h = let e = bytes_ends (number_bytes h).1 in (omega arith, e.1)

  -- a field that was found stands at the front
  pub bytes_starts : {n next : ℕ} → bytes_at s tag kind ≡ Some (n, next) → starts_at s tag ≡ true
  unfolding starts_at starts_in
  bytes_starts h = ap (starts_in tag) (bytes_first h) ∙ eq-eqb tag tag refl

  pub number_starts : {v next : ℕ} → number_at s tag kind ≡ Some (v, next) → starts_at s tag ≡ true
  number_starts h = bytes_starts (number_bytes h).1

module _ (s : List ℕ) (tag : ℕ) where
  pub body_first : {next : ℕ} → body_at s tag ≡ Some next → first_of s ≡ Group tag next
  unfolding body_at
  body_first {next} h = body_in_lem tag next (first_of s) h

  pub body_ends : {next : ℕ} → body_at s tag ≡ Some next → Within s next
  body_ends h = group_ends s (body_first h)
