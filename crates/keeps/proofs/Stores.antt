-- A table in which one place holds another record, and perhaps another last serial was issued: what keeps it sound.
-- Assumes nothing.
use mathlib.Core.Path.{◌≡◌, sym, ap, ap₂, subst, ◌∙◌}
use mathlib.Core.Logic.{inl, inr, ⊎_elim}
use Prim.Native.Nat.{ℕ, ◌+◌, ◌^◌, ◌≤◌, ◌<◌}
use native.Mathlib.Omega.{arith}
use native.Mathlib.Decide.{ℕ_discrete}
use mathlib.Core.Bool.{true}
use mathlib.Core.List.{List}
use lib.ListN.{length}
use Rattle.octets.specs.Octets.{be, part, all_zero}
use Rattle.names.specs.Names.{is_named}
use Rattle.table.specs.declared.Record.{Record}
use Rattle.table.specs.Layout.{line_size, body_size, line_start, body_start, Table, zeros_in}
use Rattle.table.specs.Records.{record_of, place_at, with_place, serial_at, name_at, last_serial, with_last, places_said, latest_clock}
use Rattle.table.proofs.Lines.{InRange}
use Rattle.table.proofs.Places.{serial_is, name_is, length_with, place_same, line_other, body_other, zeros_other, zeros_with}
use Rattle.table.proofs.Lead.{last_with, said_with, latest_with, length_last, last_last, said_last, latest_last, line_last, body_last, zeros_last, place_last}
use Rattle.table.proofs.Blank.{zeros_test}
use Rattle.record_rules.proofs.Fit.{Fit, Dated}
use Rattle.soundness.proofs.SoundIs.{Stands, Empty, Sound}

-- ---- u is t with r at place i, and `last` as the last serial issued

pub record Stored (n : ℕ) (t : List ℕ) (i : ℕ) (r : Record) (last : ℕ) (u : List ℕ) : Type 0 where
  pub size : length u ≡ length t
  pub said : places_said u ≡ places_said t
  pub latest : latest_clock u ≡ latest_clock t
  pub issued : last_serial u ≡ last
  pub here : place_at n u i ≡ r
  pub zeros : part u (body_start n i + zeros_in) 4 ≡ be 4 0
  pub line : (j : ℕ) → j < n → (j ≡ i → ⊥) → part u (line_start j) line_size ≡ part t (line_start j) line_size
  pub body : (j : ℕ) → j < n → (j ≡ i → ⊥) → part u (body_start n j) body_size ≡ part t (body_start n j) body_size
  pub zeros_past : (j : ℕ) → j < n → (j ≡ i → ⊥) → part u (body_start n j + zeros_in) 4 ≡ part t (body_start n j + zeros_in) 4

-- a store
pub stored : (n : ℕ) (t : List ℕ) (i : ℕ) (r : Record) → Table n t → i < n → InRange r → Stored n t i r (last_serial t) (with_place n t i r)
stored n t i r big lo h = record {
  size = length_with n t i r;
  said = said_with n t i r big lo h.long;
  latest = latest_with n t i r big lo h.long;
  issued = last_with n t i r big lo h.long;
  here = place_same n t i r big lo h;
  zeros = zeros_with n t i r big lo h.long;
  line = λ j l ne. line_other n t i r big lo h.long j l ne;
  body = λ j l ne. body_other n t i r big lo h.long j l ne;
  zeros_past = λ j l ne. zeros_other n t i r big lo h.long j l ne;
}

-- and a new last serial
pub stored_last : (n : ℕ) (t : List ℕ) (i : ℕ) (r : Record) (last : ℕ) (u : List ℕ) (s : ℕ)
    → 4 ≤ length u → s < 256 ^ 4 → Stored n t i r last u → Stored n t i r s (with_last u s)
stored_last n t i r last u s big fits e = record {
  size = length_last u s ∙ e.size;
  said = said_last u s ∙ e.said;
  latest = latest_last u s ∙ e.latest;
  issued = last_last u s big fits;
  here = place_last u s i n ∙ e.here;
  zeros = zeros_last u s i n ∙ e.zeros;
  line = λ j l ne. line_last u s j ∙ e.line j l ne;
  body = λ j l ne. body_last u s j n ∙ e.body j l ne;
  zeros_past = λ j l ne. zeros_last u s j n ∙ e.zeros_past j l ne;
}

-- ---- links

-- "Where both ends of a link stand, each names the other": p replaced q exactly if q has p as its replacement
pub record Mutual (p q : Record) : Type 0 where
  pub back : p.replaced ≡ q.serial → q.replacement ≡ p.serial
  pub forth : q.replacement ≡ p.serial → p.replaced ≡ q.serial

-- all that stand in t, but for what stands at place k
abbrev pub LinkedBut : ℕ → ℕ → List ℕ → Type 0
LinkedBut k n t = (i j : ℕ) → i < n → j < n → (i ≡ k → ⊥) → (j ≡ k → ⊥) → Stands t i → Stands t j → Mutual (place_at n t i) (place_at n t j)

abbrev pub LinkedAll : ℕ → List ℕ → Type 0
LinkedAll n t = (i j : ℕ) → i < n → j < n → Stands t i → Stands t j → Mutual (place_at n t i) (place_at n t j)

-- r and every record that stands at a place but k
abbrev pub LinkedTo : Record → ℕ → ℕ → List ℕ → Type 0
LinkedTo r k n t = (j : ℕ) → j < n → (j ≡ k → ⊥) → Stands t j → Mutual r (place_at n t j) × Mutual (place_at n t j) r

-- ---- names

-- "names differ": among the places of which P holds
abbrev pub NamedWhere : (ℕ → Type 0) → ℕ → List ℕ → Type 0
NamedWhere P n t = (i j : ℕ) → i < n → j < n → P i → P j → is_named (name_at n t i) ≡ true → name_at n t i ≡ name_at n t j → i ≡ j

-- among all
abbrev pub NamedApart : ℕ → List ℕ → Type 0
NamedApart n t = (i j : ℕ) → i < n → j < n → is_named (name_at n t i) ≡ true → name_at n t i ≡ name_at n t j → i ≡ j

pub named_all : (n : ℕ) (t : List ℕ) → NamedWhere (λ j. Unit {0}) n t → NamedApart n t
named_all n t h i j a b = h i j a b tt tt

-- no place but k has the name of r, if it has one
abbrev pub Nameless : Record → ℕ → ℕ → List ℕ → Type 0
Nameless r k n t = (j : ℕ) → j < n → (j ≡ k → ⊥) → is_named r.name ≡ true → name_at n t j ≡ r.name → ⊥

-- ---- a sound table but for the links and the names

pub record Bare (n : ℕ) (t : List ℕ) : Type 0 where
  pub size : Table n t
  pub count : places_said t ≡ n
  pub latest : latest_clock t < 2 ^ 63
  pub free : (i : ℕ) → i < n → serial_at t i ≡ 0 → Empty n t i
  pub zeros : (i : ℕ) → i < n → Stands t i → all_zero (part t (body_start n i + zeros_in) 4) ≡ true
  pub distinct : (i j : ℕ) → i < n → j < n → Stands t i → serial_at t i ≡ serial_at t j → i ≡ j
  pub issued : (i : ℕ) → i < n → serial_at t i ≤ last_serial t
  pub fit : (i : ℕ) → i < n → Stands t i → Fit (last_serial t) (place_at n t i)
  pub dated : (i : ℕ) → i < n → Stands t i → Dated (latest_clock t) (place_at n t i)

module _ (n : ℕ) (t : List ℕ) where
  pub bare : Sound n t → Bare n t
  bare s = record {
    size = s.size;
    count = s.count;
    latest = s.latest;
    free = s.free;
    zeros = s.zeros;
    distinct = s.distinct;
    issued = s.issued;
    fit = s.fit;
    dated = s.dated;
  }

  pub linked : Sound n t → LinkedAll n t
  linked s i j h g a b = record {
    back = λ e. s.replaced i j h g a b (e ∙ sym (serial_is n t j)) ∙ serial_is n t i;
    forth = λ e. s.replacement j i g h b a (e ∙ sym (serial_is n t i)) ∙ serial_is n t j;
  }

  pub joined : Bare n t → LinkedAll n t → NamedApart n t → Sound n t
  joined b l m = record {
    size = b.size;
    count = b.count;
    latest = b.latest;
    free = b.free;
    zeros = b.zeros;
    distinct = b.distinct;
    issued = b.issued;
    fit = b.fit;
    dated = b.dated;
    replaced = λ i j h g a c e. (l i j h g a c).back (e ∙ serial_is n t j) ∙ sym (serial_is n t i);
    replacement = λ i j h g a c e. (l j i g h c a).forth (e ∙ serial_is n t j) ∙ sym (serial_is n t i);
    named = m;
  }

-- ---- what a store keeps

-- a later last serial
pub fit_later : (last next : ℕ) (r : Record) → last ≤ next → Fit last r → Fit next r
fit_later last next r h f = record {
  low = f.low;
  high = f.high;
  bits = f.bits;
  mask = f.mask;
  limit = f.limit;
  tail = f.tail;
  wiped = f.wiped;
  replaced = f.replaced;
  replacement = ⊎_elim (λ e. inl e) (λ p. inr (p.0, omega arith)) f.replacement;
  shape = f.shape;
  text = f.text;
}

-- another place is as it was, and the place itself holds r
module _ (n : ℕ) (t : List ℕ) (k : ℕ) (r : Record) (last : ℕ) (u : List ℕ) (e : Stored n t k r last u) where
  pub other : (j : ℕ) → j < n → (j ≡ k → ⊥) → place_at n u j ≡ place_at n t j
  unfolding place_at
  other j l ne = ap₂ record_of (e.line j l ne) (e.body j l ne)

  pub other_serial : (j : ℕ) → j < n → (j ≡ k → ⊥) → serial_at u j ≡ serial_at t j
  other_serial j l ne = serial_is n u j ∙ ap (λ (q : Record). q.serial) (other j l ne) ∙ sym (serial_is n t j)

  pub here_serial : serial_at u k ≡ r.serial
  here_serial = serial_is n u k ∙ ap (λ (q : Record). q.serial) e.here

  other_name : (j : ℕ) → j < n → (j ≡ k → ⊥) → name_at n u j ≡ name_at n t j
  other_name j l ne = name_is n u j ∙ ap (λ (q : Record). q.name) (other j l ne) ∙ sym (name_is n t j)

  here_name : name_at n u k ≡ r.name
  here_name = name_is n u k ∙ ap (λ (q : Record). q.name) e.here

  -- names that differ away from place k, and from that of r, differ
  pub named_stored : (P : ℕ → Type 0) → NamedWhere (λ j. P j × (j ≡ k → ⊥)) n t
      → ((j : ℕ) → j < n → P j → (j ≡ k → ⊥) → is_named r.name ≡ true → name_at n t j ≡ r.name → ⊥) → NamedWhere P n u
  named_stored P among alone i j h g pi pj there q = elim (ℕ_discrete i k) [
    | yes a ↦ elim (ℕ_discrete j k) [
      | yes c ↦ a ∙ sym c
      | no c ↦ (
          let mine : name_at n u i ≡ r.name = ap (name_at n u) a ∙ here_name in
          absurd (alone j g pj c (ap is_named (sym mine) ∙ there) (sym (other_name j g c) ∙ sym q ∙ mine)))
    ]
    | no a ↦ elim (ℕ_discrete j k) [
      | yes c ↦ (
          let its : name_at n u j ≡ r.name = ap (name_at n u) c ∙ here_name in
          absurd (alone i h pi a (ap is_named (sym (q ∙ its)) ∙ there) (sym (other_name i h a) ∙ q ∙ its)))
      | no c ↦ among i j h g (pi, a) (pj, c) (ap is_named (sym (other_name i h a)) ∙ there) (sym (other_name i h a) ∙ q ∙ other_name j g c)
    ]
  ]

  -- what holds at place k, and at each other place, holds at every place
  by_place : (P : ℕ → Type 0) → P k → ((j : ℕ) → j < n → (j ≡ k → ⊥) → P j) → (j : ℕ) → j < n → P j
  by_place P a b j l = elim (ℕ_discrete j k) [ yes q ↦ subst P (sym q) a | no ne ↦ b j l ne ]

  -- what holds of r at place k, and of each other record that stands in t, holds of each that stands in u
  pub each_standing : (P : ℕ → Record → Type 0) → P k r → ((j : ℕ) → j < n → (j ≡ k → ⊥) → Stands t j → P j (place_at n t j))
      → (j : ℕ) → j < n → Stands u j → P j (place_at n u j)
  each_standing P a b =
      by_place (λ (j : ℕ). Stands u j → P j (place_at n u j)) (λ s. subst (P k) (sym e.here) a)
      (λ j l ne s. subst (P j) (sym (other j l ne)) (b j l ne (λ z. s (other_serial j l ne ∙ z))))

  pub linked_stored : LinkedBut k n t → LinkedTo r k n t → Mutual r r → LinkedAll n u
  linked_stored among to self i j h g a b =
      each_standing (λ i p. Mutual p (place_at n u j))
      (each_standing (λ j q. Mutual r q) self (λ j l ne s. (to j l ne s).0) j g b)
      (λ i h no a. each_standing (λ j q. Mutual (place_at n t i) q) (to i h no a).1 (λ j l ne s. among i j h l no ne a s) j g b)
      i h a

  module _ (stands : r.serial ≡ 0 → ⊥) (b : Bare n t) where
    free_stored : (j : ℕ) → j < n → serial_at u j ≡ 0 → Empty n u j
    free_stored =
        by_place (λ (j : ℕ). serial_at u j ≡ 0 → Empty n u j) (λ z. absurd (stands (sym here_serial ∙ z)))
        (λ j l ne z. let was : Empty n t j = b.free j l (sym (other_serial j l ne) ∙ z) in
        record { line = ap all_zero (e.line j l ne) ∙ was.line; body = ap all_zero (e.body j l ne) ∙ was.body })

    zeros_stored : (j : ℕ) → j < n → Stands u j → all_zero (part u (body_start n j + zeros_in) 4) ≡ true
    zeros_stored =
        by_place (λ (j : ℕ). Stands u j → all_zero (part u (body_start n j + zeros_in) 4) ≡ true) (λ s. zeros_test _ e.zeros)
        (λ j l ne s. ap all_zero (e.zeros_past j l ne) ∙ b.zeros j l (λ z. s (other_serial j l ne ∙ z)))

    module _ (alone : (j : ℕ) → j < n → (j ≡ k → ⊥) → serial_at t j ≡ r.serial → ⊥) where
      distinct_stored : (i j : ℕ) → i < n → j < n → Stands u i → serial_at u i ≡ serial_at u j → i ≡ j
      distinct_stored i j h g s q = elim (ℕ_discrete i k) [
        | yes a ↦ elim (ℕ_discrete j k) [
          | yes c ↦ a ∙ sym c
          | no c ↦ absurd (alone j g c (sym (other_serial j g c) ∙ sym q ∙ ap (serial_at u) a ∙ here_serial))
        ]
        | no a ↦ elim (ℕ_discrete j k) [
          | yes c ↦ absurd (alone i h a (sym (other_serial i h a) ∙ q ∙ ap (serial_at u) c ∙ here_serial))
          | no c ↦ b.distinct i j h g (λ z. s (other_serial i h a ∙ z)) (sym (other_serial i h a) ∙ q ∙ other_serial j g c)
        ]
      ]

      pub bare_stored : last_serial t ≤ last → r.serial ≤ last → Fit last r → Dated (latest_clock t) r → Bare n u
      bare_stored later issued fit dated = record {
        size = e.size ∙ b.size;
        count = e.said ∙ b.count;
        latest = rw e.latest b.latest;
        free = free_stored;
        zeros = zeros_stored;
        distinct = distinct_stored;
        issued = rw e.issued (by_place (λ (j : ℕ). serial_at u j ≤ last) (rw here_serial issued) (λ j l ne. rw (other_serial j l ne) (omega (arith, b.issued j l))));
        fit = rw e.issued (each_standing (λ j q. Fit last q) fit (λ j l ne s. fit_later (last_serial t) last (place_at n t j) later (b.fit j l s)));
        dated = rw e.latest (each_standing (λ j q. Dated (latest_clock t) q) dated (λ j l ne s. b.dated j l s));
      }
