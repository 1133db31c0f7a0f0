-- A new record with a serial past the last issued, and a replacement linked both ways: both keep the table sound.
-- Assumes nothing. Whatever the new record's place held is gone; a link that named it names nothing that stands.
use mathlib.Core.Path.{◌≡◌, refl, sym, ap, subst, ◌∙◌}
use mathlib.Core.Logic.{inr, ⊎_elim}
use Prim.Native.Nat.{ℕ, ◌^◌, ◌≤◌, ◌<◌}
use native.Mathlib.Omega.{arith}
use mathlib.Core.Bool.{false≢true}
use mathlib.Core.List.{List}
use Rattle.names.specs.Names.{is_named}
use Rattle.names.proofs.Stored.{none_range}
use Rattle.names.proofs.Texts.{none_shape, none_text}
use Rattle.table.specs.declared.Record.{Record}
use Rattle.table.specs.Records.{place_at, with_place, serial_at, name_at, last_serial, with_last, latest_clock}
use Rattle.table.proofs.Lines.{InRange}
use Rattle.table.proofs.Places.{serial_is, name_is, length_with, with_swap}
use Rattle.table.proofs.Lead.{last_swap}
use Rattle.record_rules.proofs.Fit.{Fit, Dated}
use Rattle.soundness.proofs.SoundIs.{Stands, Sound}
use Rattle.heirs.specs.Heirs.{linked_to}
use Rattle.keeps.proofs.Stores.{Stored, stored, stored_last, Mutual, LinkedBut, LinkedAll, Bare, bare, linked, joined, other_serial, each_standing, bare_stored, linked_stored, Nameless, NamedWhere, NamedApart, named_stored, named_all}
use Rattle.keeps.proofs.Edits.{mutual_as, limit_as}

-- a table with a record born at place k
abbrev pub born : ℕ → List ℕ → ℕ → Record → List ℕ
born n t k r = with_last (with_place n t k r) r.serial

-- ---- what stands never names a serial past the last issued

module _ (n : ℕ) (t : List ℕ) (b : Bare n t) (j : ℕ) (l : j < n) (st : Stands t j) (s : ℕ) (new : last_serial t < s) where
  old_serial : (place_at n t j).serial ≤ last_serial t
  old_serial = rw (serial_is n t j) at (b.issued j l)

  pub not_serial : (place_at n t j).serial ≡ s → ⊥
  not_serial e = omega (arith, old_serial)

  pub not_replaced : (place_at n t j).replaced ≡ s → ⊥
  not_replaced e = ⊎_elim (λ z. omega arith) (λ h. omega (arith, old_serial)) (b.fit j l st).replaced

  pub not_replacement : (place_at n t j).replacement ≡ s → ⊥
  not_replacement e = ⊎_elim (λ z. omega arith) (λ h. omega (arith, h.1)) (b.fit j l st).replacement

-- a record that stands has a serial
pub has_serial_lem : (n : ℕ) (t : List ℕ) (j : ℕ) → Stands t j → (place_at n t j).serial ≡ 0 → ⊥
has_serial_lem n t j st z = st (serial_is n t j ∙ z)

-- ---- a birth

module _ (n : ℕ) (t : List ℕ) (k : ℕ) (r : Record) (s : Sound n t) (lo : k < n) (range : InRange r) (new : last_serial t < r.serial) (fit : Fit r.serial r)
    (dated : Dated (latest_clock t) r) where
  pub born_stored : Stored n t k r r.serial (born n t k r)
  born_stored =
      stored_last n t k r (last_serial t) (with_place n t k r) r.serial
      (omega (arith, length_with n t k r, s.size)) range.serial (stored n t k r s.size lo range)

  -- but for the links
  pub born_bare : Bare n (born n t k r)
  born_bare =
      bare_stored n t k r r.serial (born n t k r) born_stored (λ z. omega arith) (bare n t s)
      (λ j l ne q. omega (arith, s.issued j l)) (omega arith) (omega arith) fit dated

  -- a record that names no other, and whose name no other has
  pub born_sound : r.replaced ≡ 0 → r.replacement ≡ 0 → Nameless r k n t → Sound n (born n t k r)
  born_sound p q alone =
      joined n (born n t k r) born_bare
      (linked_stored n t k r r.serial (born n t k r) born_stored
      (λ a b h g na nb sa sb. linked n t s a b h g sa sb)
      (λ j l ne st. (
        record {
          back = λ e. absurd (has_serial_lem n t j st (sym e ∙ p));
          forth = λ e. absurd (not_replacement n t (bare n t s) j l st r.serial new e);
        },
        record {
          back = λ e. absurd (not_replaced n t (bare n t s) j l st r.serial new e);
          forth = λ e. absurd (has_serial_lem n t j st (sym e ∙ q));
        },
      ))
      (record { back = λ e. absurd (omega arith); forth = λ e. absurd (omega arith) }))
      (named_all n (born n t k r) (named_stored n t k r r.serial (born n t k r) born_stored (λ j. Unit {0}) (λ a b h g pa pb. s.named a b h g) (λ j l pj. alone j l)))

-- ---- a replacement, linked both ways

pub linked_range : (s : ℕ) (r : Record) → s < 256 ^ 4 → InRange r → InRange (linked_to s r)
unfolding linked_to
linked_range s r h g = record {
  serial = g.serial;
  state = g.state;
  unit = g.unit;
  bits = g.bits;
  replaced = g.replaced;
  replacement = h;
  total = g.total;
  count = g.count;
  mask = g.mask;
  long = g.long;
  bytes = g.bytes;
  activation = g.activation;
  deactivation = g.deactivation;
  name = none_range;
}

pub linked_fit : (last s : ℕ) (r : Record) → r.serial < s → Fit last r → Fit s (linked_to s r)
unfolding linked_to
linked_fit last s r new f = record {
  low = f.low;
  high = f.high;
  bits = f.bits;
  mask = f.mask;
  limit = limit_as r (linked_to s r) refl refl (omega arith) f.limit;
  tail = f.tail;
  wiped = f.wiped;
  replaced = f.replaced;
  replacement = inr (new, omega arith);
  shape = none_shape;
  text = none_text;
}

pub linked_dated : (latest s : ℕ) (r : Record) → Dated latest r → Dated latest (linked_to s r)
unfolding linked_to
linked_dated latest s r d = record { activation = d.activation; deactivation = d.deactivation; order = d.order; started = d.started }

module _ (n : ℕ) (t : List ℕ) (i k : ℕ) (heir : Record) (s : Sound n t) (lo : i < n) (stands : Stands t i) (lok : k < n) (apart : k ≡ i → ⊥)
    (range : InRange (place_at n t i)) (none : (place_at n t i).replacement ≡ 0)
    (heir_range : InRange heir) (new : last_serial t < heir.serial) (heir_fit : Fit heir.serial heir) (heir_dated : Dated (latest_clock t) heir)
    (names : heir.replaced ≡ (place_at n t i).serial) (last_of : heir.replacement ≡ 0) (moves : heir.name ≡ (place_at n t i).name) where
  abbrev old : Record
  old = place_at n t i

  abbrev link : Record
  link = linked_to heir.serial old

  -- the heir is there, and not yet linked to
  abbrev half : List ℕ
  half = born n t k heir

  half_stored : Stored n t k heir heir.serial half
  half_stored = born_stored n t k heir s lok heir_range new heir_fit heir_dated

  half_bare : Bare n half
  half_bare = born_bare n t k heir s lok heir_range new heir_fit heir_dated

  all : LinkedAll n t
  all = linked n t s

  old_below : old.serial < heir.serial
  old_below = omega (arith, s.issued i lo, serial_is n t i)

  half_serial : serial_at half i ≡ old.serial
  half_serial = other_serial n t k heir heir.serial half half_stored i lo (λ e. apart (sym e)) ∙ serial_is n t i

  whole_stored : Stored n half i link heir.serial (with_place n half i link)
  unfolding linked_to
  whole_stored =
      subst (λ (last : ℕ). Stored n half i link last (with_place n half i link)) half_stored.issued
      (stored n half i link half_bare.size lo (linked_range heir.serial old heir_range.serial range))

  whole_bare : Bare n (with_place n half i link)
  unfolding linked_to
  whole_bare =
      let st : Stands half i = λ z. has_serial_lem n t i stands (sym half_serial ∙ z) in
      bare_stored n half i link heir.serial (with_place n half i link) whole_stored (has_serial_lem n t i stands) half_bare
      (λ j l ne q. ne (sym (half_bare.distinct i j lo l st (half_serial ∙ sym q))))
      (omega (arith, half_stored.issued)) (omega (arith, old_below))
      (linked_fit (last_serial t) heir.serial old old_below (s.fit i lo stands))
      (rw half_stored.latest (linked_dated (latest_clock t) heir.serial old (s.dated i lo stands)))

  -- the heir and a record that is neither it nor the old one
  heir_other : (j : ℕ) → j < n → (j ≡ i → ⊥) → Stands t j → Mutual heir (place_at n t j) × Mutual (place_at n t j) heir
  heir_other j l ne st = (
    record {
      back = λ e. absurd (ne (sym (s.distinct i j lo l stands (serial_is n t i ∙ sym names ∙ e ∙ sym (serial_is n t j)))));
      forth = λ e. absurd (not_replacement n t (bare n t s) j l st heir.serial new e);
    },
    record {
      back = λ e. absurd (not_replaced n t (bare n t s) j l st heir.serial new e);
      forth = λ e. absurd (has_serial_lem n t j st (sym e ∙ last_of));
    },
  )

  heir_self : Mutual heir heir
  heir_self = record { back = λ e. absurd (omega (arith, old_below, names)); forth = λ e. absurd (omega (arith, new, last_of)) }

  half_linked : LinkedBut i n half
  half_linked a b h g na nb sa sb =
      let past = each_standing n t k heir heir.serial half half_stored in
      past (λ a p. (a ≡ i → ⊥) → Mutual p (place_at n half b))
      (λ na. past (λ b q. (b ≡ i → ⊥) → Mutual heir q) (λ no. heir_self) (λ b l no st ne. (heir_other b l ne st).0) b g sb nb)
      (λ a h ne sa na. past (λ b q. (b ≡ i → ⊥) → Mutual (place_at n t a) q) (λ no. (heir_other a h na sa).1) (λ b l no st nb. all a b h l sa st) b g sb nb)
      a h sa na

  -- the old record, which names the heir, and the others
  link_other : (j : ℕ) → j < n → (j ≡ i → ⊥) → Stands t j → Mutual link (place_at n t j) × Mutual (place_at n t j) link
  unfolding linked_to
  link_other j l ne st = (
    mutual_as refl refl refl refl (all i j lo l stands st),
    record {
      back = λ e. absurd (has_serial_lem n t j st (sym ((all j i l lo st stands).back e) ∙ none));
      forth = λ e. absurd (not_serial n t (bare n t s) j l st heir.serial new (sym e));
    },
  )

  link_heir : Mutual link heir × Mutual heir link
  unfolding linked_to
  link_heir = (
    record {
      back = λ e. absurd (not_replaced n t (bare n t s) i lo stands heir.serial new e);
      forth = λ e. absurd (has_serial_lem n t i stands (sym e ∙ last_of));
    },
    record { back = λ e. refl; forth = λ e. names },
  )

  link_self : Mutual link link
  unfolding linked_to
  link_self = record {
    back = λ e. absurd (⊎_elim (λ z. has_serial_lem n t i stands (sym e ∙ z)) (λ h. omega arith) (s.fit i lo stands).replaced);
    forth = λ e. absurd (omega (arith, old_below));
  }

  whole_linked : LinkedAll n (with_place n half i link)
  whole_linked =
      linked_stored n half i link heir.serial (with_place n half i link) whole_stored half_linked
      (λ j l ne st. each_standing n t k heir heir.serial half half_stored (λ j q. (j ≡ i → ⊥) → Mutual link q × Mutual q link)
      (λ no. link_heir) (λ j l no st ne. link_other j l ne st) j l st ne)
      link_self

  -- the heir has the old record's name, which no other has; and then the old one has none
  half_named : NamedWhere (λ j. j ≡ i → ⊥) n half
  half_named =
      named_stored n t k heir heir.serial half half_stored (λ j. j ≡ i → ⊥) (λ a b h g pa pb. s.named a b h g)
      (λ j l away ne there e.
      let here : name_at n t i ≡ heir.name = name_is n t i ∙ sym moves in
      away (sym (s.named i j lo l (ap is_named here ∙ there) (here ∙ sym e))))

  whole_named : NamedApart n (with_place n half i link)
  unfolding linked_to
  whole_named =
      named_all n (with_place n half i link)
      (named_stored n half i link heir.serial (with_place n half i link) whole_stored (λ j. Unit {0}) (λ a b h g pa pb. half_named a b h g pa.1 pb.1)
      (λ j l pj ne there. absurd (false≢true there)))

  pub heir_sound : Sound n (with_last (with_place n (with_place n t i link) k heir) heir.serial)
  heir_sound =
      subst (Sound n)
      (sym (ap (λ (u : List ℕ). with_last u heir.serial) (with_swap n t i k link heir (linked_range heir.serial old heir_range.serial range).long heir_range.long lo lok (λ e. apart (sym e)))
      ∙ last_swap n (with_place n t k heir) i link heir.serial))
      (joined n (with_place n half i link) whole_bare whole_linked whole_named)
