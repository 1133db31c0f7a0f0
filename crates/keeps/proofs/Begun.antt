-- A record as Create and Re-key begin it: it fits the table's fields and breaks no rule of its own.
-- Assumes nothing.
use Rattle.std.specs.Prelude.{Option}
use mathlib.Core.Path.{◌≡◌, refl}
use mathlib.Core.Logic.{◌⊎◌, inl, inr, ⊎_elim}
use Prim.Native.Nat.{ℕ, ◌^◌, ◌≤◌, ◌<◌}
use native.Mathlib.Omega.{arith}
use mathlib.Core.Bool.{true, false}
use mathlib.Core.List.{List}
use lib.ListN.{length}
use lib.Dec.{leb, eqb}
use borrow.Author.Tests.{eqb-true, leb-true, le-leb}
use Rattle.octets.specs.Octets.{Bytes}
use Rattle.utf8.specs.Text.{text}
use Rattle.names.specs.Names.{name_text, shape_right}
use Rattle.names.proofs.Stored.{NameRange}
use Rattle.table.specs.declared.Record.{Record}
use Rattle.table.specs.Layout.{material_size}
use Rattle.table.proofs.Lines.{InRange}
use Rattle.values.specs.Values.{bits_ok, mask_ok, unit_ok, total_ok}
use Rattle.octets.proofs.Bools.{and_l, and_r, and_i, or_cases}
use Rattle.record_rules.proofs.Fit.{Unlimited, Limited, Fit, Dated}
use Rattle.rules.specs.declared.Attributes.{Attributes}
use Rattle.rules.specs.Numbers.{pre_active}
use Rattle.search.specs.Search.{is_destroyed}
use Rattle.date_rules.specs.Dates.{dated_state}
use Rattle.heirs.specs.Heirs.{heir_activation, heir_deactivation, offset_wrong, heir_dated, heir_of}
use Rattle.new_records.specs.New.{material_from, new_record}
use Rattle.heirs.proofs.Heirs.{heir_activation_lem, heir_deactivation_lem, heir_order, first_range, first_started}
use Rattle.new_records.proofs.Material.{length_material, bytes_material, material_tail}

-- "Length, mask, total and unit (1 or 2) as a sound table allows", or no limit; dates not negative and in order; no name, or one as a sound table has it
pub record Allowed (wanted : Attributes) : Type 0 where
  pub bits : bits_ok wanted.bits ≡ true
  pub mask : mask_ok wanted.mask ≡ true
  pub limit : ((wanted.unit ≡ 0) × (wanted.total ≡ 0)) ⊎ ((unit_ok wanted.unit ≡ true) × (total_ok wanted.total ≡ true))
  pub activation : wanted.activation < 2 ^ 63
  pub deactivation : wanted.deactivation < 2 ^ 63
  pub order : (wanted.deactivation ≡ 0) ⊎ (wanted.activation ≤ wanted.deactivation)
  pub name : NameRange wanted.name
  pub shape : shape_right wanted.name ≡ true
  pub text : text (name_text wanted.name) ≡ true

-- ---- the values

pub bits_is : (bits : ℕ) → bits_ok bits ≡ true → (bits ≡ 128) ⊎ ((bits ≡ 192) ⊎ (bits ≡ 256))
bits_is bits e = ⊎_elim (λ p. ⊎_elim (λ q. inl (eqb-true bits 128 q)) (λ q. inr (inl (eqb-true bits 192 q))) (or_cases _ _ p)) (λ p. inr (inr (eqb-true bits 256 p))) (or_cases _ _ e)

pub bits_most : (bits : ℕ) → bits_ok bits ≡ true → bits ≤ 256
bits_most bits e = ⊎_elim (λ p. omega arith) (⊎_elim (λ p. omega arith) (λ p. omega arith)) (bits_is bits e)

pub unit_most : (unit : ℕ) → unit_ok unit ≡ true → unit ≤ 2
unit_most unit e = ⊎_elim (λ p. omega (arith, eqb-true unit 1 p)) (λ p. omega (arith, eqb-true unit 2 p)) (or_cases _ _ e)

module _ (total : ℕ) (e : total_ok total ≡ true) where
  pub total_least : 1 ≤ total
  total_least = leb-true 1 total (and_l (leb 1 total) (leb total 1_000_000_000_000) e)

  pub total_most : total ≤ 1_000_000_000_000
  total_most = leb-true total 1_000_000_000_000 (and_r (leb 1 total) (leb total 1_000_000_000_000) e)

module _ (wanted : Attributes) (a : Allowed wanted) where
  pub allowed_unit : wanted.unit ≤ 2
  allowed_unit = ⊎_elim (λ p. omega arith) (λ p. unit_most wanted.unit p.0) a.limit

  pub allowed_total : wanted.total ≤ 1_000_000_000_000
  allowed_total = ⊎_elim (λ p. omega arith) (λ p. total_most wanted.total p.1) a.limit

  pub allowed_mask : wanted.mask ≤ 0x00FFFFFF
  allowed_mask = leb-true wanted.mask 0x00FFFFFF a.mask

-- ---- the record

-- what both begin, in a state: `replaced` is 0 or the serial of the record that it replaces
abbrev pub begun : ℕ → ℕ → Attributes → ℕ → List ℕ → Record
begun serial state wanted replaced fresh = record {
  serial = serial;
  state = state;
  unit = wanted.unit;
  bits = wanted.bits;
  replaced = replaced;
  replacement = 0;
  total = wanted.total;
  count = wanted.total;
  mask = wanted.mask;
  material = material_from wanted.bits fresh;
  activation = wanted.activation;
  deactivation = wanted.deactivation;
  name = wanted.name;
}

pub new_begun : (serial : ℕ) (wanted : Attributes) (fresh : List ℕ) → new_record serial wanted fresh ≡ begun serial pre_active wanted 0 fresh
unfolding new_record
new_begun serial wanted fresh = refl

-- ---- a replacement

module _ (clock : ℕ) (offset : Option ℕ) (old : Record) where
  -- its attributes are those of the record that it replaces, but for the dates
  abbrev pub heir_wanted : Attributes
  heir_wanted = record {
    bits = old.bits;
    mask = old.mask;
    unit = old.unit;
    total = old.total;
    activation = heir_activation clock offset old;
    deactivation = heir_deactivation clock offset old;
    name = old.name;
  }

  -- and its state is what these make of a Pre-Active key
  abbrev pub heir_state : ℕ
  heir_state = dated_state clock (heir_activation clock offset old) (heir_deactivation clock offset old) pre_active

  pub heir_begun : (serial : ℕ) (fresh : List ℕ) → heir_of serial clock offset old fresh ≡ begun serial heir_state heir_wanted old.serial fresh
  unfolding heir_of heir_dated
  heir_begun serial fresh = refl

-- a state in which a key may begin: none of a destroyed one, and an Active one has started
pub record First (latest state activation : ℕ) : Type 0 where
  pub low : 1 ≤ state
  pub high : state ≤ 3
  pub started : state ≡ 2 → activation ≤ latest

pub first_new : (latest activation : ℕ) → First latest pre_active activation
first_new latest activation = record { low = omega arith; high = omega arith; started = λ e. absurd (omega arith) }

pub first_heir : (clock : ℕ) (offset : Option ℕ) (old : Record) → First clock (heir_state clock offset old) (heir_activation clock offset old)
first_heir clock offset old =
    let a : ℕ = heir_activation clock offset old in
    let d : ℕ = heir_deactivation clock offset old in
    record { low = (first_range clock a d).0; high = (first_range clock a d).1; started = first_started clock a d }

not_destroyed : (state : ℕ) → state ≤ 3 → is_destroyed state ≡ true → ⊥
not_destroyed state h e = ⊎_elim (λ p. omega (arith, eqb-true state 5 p)) (λ p. omega (arith, eqb-true state 6 p)) (or_cases (eqb state 5) (eqb state 6) e)

-- what a sound table allows, a replacement may have, where its Offset is not wrong
pub allowed_of : (last clock : ℕ) (offset : Option ℕ) (r : Record) → offset_wrong clock offset r ≡ false → NameRange r.name → Fit last r → Dated clock r → Allowed (heir_wanted clock offset r)
allowed_of last clock offset r right g f d = record {
  bits = f.bits;
  mask = le-leb r.mask 0x00FFFFFF f.mask;
  limit = ⊎_elim (λ l. inl (l.unit, l.total))
      (λ l. inr (l.unit, and_i _ _ (le-leb 1 r.total l.least) (le-leb r.total 1_000_000_000_000 l.most))) f.limit;
  activation = heir_activation_lem clock r offset right d.activation;
  deactivation = heir_deactivation_lem clock r offset right d.deactivation;
  order = heir_order clock r offset d.order;
  name = g;
  shape = f.shape;
  text = f.text;
}

module _ (latest serial state : ℕ) (wanted : Attributes) (replaced : ℕ) (fresh : List ℕ) (a : Allowed wanted) (f : First latest state wanted.activation) where
  pub begun_range : serial < 256 ^ 4 → replaced < 256 ^ 4 → Bytes fresh → InRange (begun serial state wanted replaced fresh)
  begun_range s r b = record {
    serial = s;
    state = omega (arith, f.high);
    unit = omega (arith, allowed_unit wanted a);
    bits = omega (arith, bits_most wanted.bits a.bits);
    replaced = r;
    replacement = omega arith;
    total = omega (arith, allowed_total wanted a);
    count = omega (arith, allowed_total wanted a);
    mask = omega (arith, allowed_mask wanted a);
    long = length_material wanted.bits fresh;
    bytes = bytes_material wanted.bits fresh b;
    activation = omega (arith, a.activation);
    deactivation = omega (arith, a.deactivation);
    name = a.name;
  }

  begun_limit : Unlimited (begun serial state wanted replaced fresh) ⊎ Limited (begun serial state wanted replaced fresh)
  begun_limit = ⊎_elim (λ l. inl (record { unit = l.0; total = l.1; count = l.1 })) (λ l. inr (record {
    unit = l.0;
    least = total_least wanted.total l.1;
    most = total_most wanted.total l.1;
    count = omega arith;
  })) a.limit

  pub begun_fit : material_size ≤ length fresh → (replaced ≡ 0) ⊎ (replaced < serial) → Fit serial (begun serial state wanted replaced fresh)
  begun_fit long link = record {
    low = f.low;
    high = omega (arith, f.high);
    bits = a.bits;
    mask = allowed_mask wanted a;
    limit = begun_limit;
    tail = let h = bits_most wanted.bits a.bits in material_tail wanted.bits fresh (omega arith) (omega arith);
    wiped = λ e. absurd (not_destroyed state f.high e);
    replaced = link;
    replacement = inl refl;
    shape = a.shape;
    text = a.text;
  }

  pub begun_dated : Dated latest (begun serial state wanted replaced fresh)
  begun_dated = record { activation = a.activation; deactivation = a.deactivation; order = a.order; started = f.started }
