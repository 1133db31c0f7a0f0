-- The rules of a record by itself as plain facts, and the tests and the facts each from the other.
-- Assumes nothing.
use mathlib.Core.Path.{◌≡◌, sym, ap, ◌∙◌}
use mathlib.Core.Logic.{◌⊎◌, inl, inr, ⊎_elim}
use Prim.Native.Nat.{ℕ, ◌/◌, ◌^◌, ◌≤◌, ◌<◌}
use native.Mathlib.Omega.{arith}
use native.Mathlib.Decide.{ℕ_discrete}
use mathlib.Core.Bool.{true, false, not, ◌&&◌, false≢true}
use lib.ListN.{drop}
use lib.Dec.{leb, ltb, eqb}
use borrow.Author.Tests.{eq-eqb, ne_eqb, le-leb, lt-ltb, eqb-true, eqb-false, leb-true, ltb-true, not-true}
use Rattle.octets.specs.Octets.{all_zero}
use Rattle.utf8.specs.Text.{text}
use Rattle.names.specs.Names.{name_text, shape_right}
use Rattle.octets.proofs.If.{ifb_true, ifb_false, on_bool}
use Rattle.octets.proofs.Bools.{and_l, and_r, and_i, or_cases, or_l, or_r, facts, tests}
use Rattle.values.specs.Values.{bits_ok, unit_ok, total_ok}
use Rattle.table.specs.declared.Record.{Record}
use Rattle.search.specs.Search.{is_destroyed}
use Rattle.record_rules.specs.Rules.{state_right, bits_right, mask_right, limit_right, tail_right, wiped_right, replaced_right, replacement_right, dates_right, order_right, started_right, name_right, name_text_right}

-- ---- the facts

-- no usage limit
pub record Unlimited (r : Record) : Type 0 where
  pub unit : r.unit ≡ 0
  pub total : r.total ≡ 0
  pub count : r.count ≡ 0

-- a usage limit
pub record Limited (r : Record) : Type 0 where
  pub unit : unit_ok r.unit ≡ true
  pub least : 1 ≤ r.total
  pub most : r.total ≤ 1_000_000_000_000
  pub count : r.count ≤ r.total

-- what a record that stands shows by itself, where serials up to `last` have been issued
pub record Fit (last : ℕ) (r : Record) : Type 0 where
  pub low : 1 ≤ r.state
  pub high : r.state ≤ 6
  pub bits : bits_ok r.bits ≡ true
  pub mask : r.mask ≤ 0x00FFFFFF
  pub limit : Unlimited r ⊎ Limited r
  pub tail : all_zero (drop (r.bits / 8) r.material) ≡ true
  pub wiped : is_destroyed r.state ≡ true → all_zero r.material ≡ true
  pub replaced : (r.replaced ≡ 0) ⊎ (r.replaced < r.serial)
  pub replacement : (r.replacement ≡ 0) ⊎ ((r.serial < r.replacement) × (r.replacement ≤ last))
  pub shape : shape_right r.name ≡ true
  pub text : text (name_text r.name) ≡ true

-- ---- each rule as a fact, and the other way
limit_is : (r : Record) → limit_right r ≡ true → Unlimited r ⊎ Limited r
unfolding limit_right
limit_is r e =
    on_bool (eqb r.unit 0)
    (λ u. let h : (eqb r.total 0 && eqb r.count 0) ≡ true = sym (ifb_true _ _ _ u) ∙ e in inl (search facts))
    (λ u. let h : (unit_ok r.unit && total_ok r.total && leb r.count r.total) ≡ true = sym (ifb_false _ _ _ u) ∙ e in inr (search facts))

limit_of_lem : (r : Record) → Unlimited r ⊎ Limited r → limit_right r ≡ true
unfolding limit_right
limit_of_lem r (inl h) = ifb_true _ _ _ (eq-eqb r.unit 0 h.unit) ∙ search tests
limit_of_lem r (inr h) =
    let u : eqb r.unit 0 ≡ false = ne_eqb r.unit 0 (λ z. false≢true (sym (ap unit_ok z) ∙ h.unit)) in
    ifb_false _ _ _ u ∙ search tests

replaced_is : (r : Record) → replaced_right r ≡ true → (r.replaced ≡ 0) ⊎ (r.replaced < r.serial)
unfolding replaced_right
replaced_is r e = ⊎_elim (λ z. inl (eqb-true r.replaced 0 z)) (λ z. inr (ltb-true r.replaced r.serial z)) (or_cases _ _ e)

replaced_of : (r : Record) → (r.replaced ≡ 0) ⊎ (r.replaced < r.serial) → replaced_right r ≡ true
unfolding replaced_right
replaced_of r (inl h) = or_l _ _ (eq-eqb r.replaced 0 h)
replaced_of r (inr h) = or_r (eqb r.replaced 0) _ (lt-ltb r.replaced r.serial h)

replacement_is : (last : ℕ) (r : Record) → replacement_right last r ≡ true → (r.replacement ≡ 0) ⊎ ((r.serial < r.replacement) × (r.replacement ≤ last))
unfolding replacement_right
replacement_is last r e = ⊎_elim (λ z. inl (eqb-true r.replacement 0 z)) (λ z. inr (search facts)) (or_cases _ _ e)

replacement_of : (last : ℕ) (r : Record) → (r.replacement ≡ 0) ⊎ ((r.serial < r.replacement) × (r.replacement ≤ last)) → replacement_right last r ≡ true
unfolding replacement_right
replacement_of last r (inl h) = or_l _ _ (eq-eqb r.replacement 0 h)
replacement_of last r (inr h) = or_r (eqb r.replacement 0) (ltb r.serial r.replacement && leb r.replacement last) (search tests)

-- the rules of a record by itself but for those of dates, each kept
pub record Right (last : ℕ) (r : Record) : Type 0 where
  pub state : state_right r ≡ true
  pub bits : bits_right r ≡ true
  pub mask : mask_right r ≡ true
  pub limit : limit_right r ≡ true
  pub tail : tail_right r ≡ true
  pub wiped : wiped_right r ≡ true
  pub replaced : replaced_right r ≡ true
  pub replacement : replacement_right last r ≡ true
  pub name : name_right r ≡ true
  pub text : name_text_right r ≡ true

pub fit_is : (last : ℕ) (r : Record) → Right last r → Fit last r
unfolding state_right bits_right mask_right tail_right wiped_right name_right name_text_right
fit_is last r h = record {
  low = leb-true 1 r.state (and_l (leb 1 r.state) (leb r.state 6) h.state);
  high = leb-true r.state 6 (and_r (leb 1 r.state) (leb r.state 6) h.state);
  bits = h.bits;
  mask = leb-true r.mask 0x00FFFFFF h.mask;
  limit = limit_is r h.limit;
  tail = h.tail;
  wiped = λ d. sym (ifb_true _ _ _ d) ∙ h.wiped;
  replaced = replaced_is r h.replaced;
  replacement = replacement_is last r h.replacement;
  shape = h.name;
  text = h.text;
}

pub fit_of : (last : ℕ) (r : Record) → Fit last r → Right last r
unfolding state_right bits_right mask_right tail_right wiped_right name_right name_text_right
fit_of last r h = record {
  state = and_i _ _ (le-leb 1 r.state h.low) (le-leb r.state 6 h.high);
  bits = h.bits;
  mask = le-leb r.mask 0x00FFFFFF h.mask;
  limit = limit_of_lem r h.limit;
  tail = h.tail;
  wiped = on_bool (is_destroyed r.state) (λ d. ifb_true _ _ _ d ∙ h.wiped d) (λ d. ifb_false _ _ _ d);
  replaced = replaced_of r h.replaced;
  replacement = replacement_of last r h.replacement;
  name = h.shape;
  text = h.text;
}

-- ---- dates

-- what the dates of a record that stands show, where `latest` is the latest clock
pub record Dated (latest : ℕ) (r : Record) : Type 0 where
  pub activation : r.activation < 2 ^ 63
  pub deactivation : r.deactivation < 2 ^ 63
  pub order : (r.deactivation ≡ 0) ⊎ (r.activation ≤ r.deactivation)
  pub started : r.state ≡ 2 → r.activation ≤ latest

-- the rules of dates, each kept
pub record Timely (latest : ℕ) (r : Record) : Type 0 where
  pub dates : dates_right r ≡ true
  pub order : order_right r ≡ true
  pub started : started_right latest r ≡ true

pub dated_is : (latest : ℕ) (r : Record) → Timely latest r → Dated latest r
unfolding dates_right order_right started_right
dated_is latest r h = record {
  activation = ltb-true r.activation (2 ^ 63) (and_l (ltb r.activation (2 ^ 63)) (ltb r.deactivation (2 ^ 63)) h.dates);
  deactivation = ltb-true r.deactivation (2 ^ 63) (and_r (ltb r.activation (2 ^ 63)) (ltb r.deactivation (2 ^ 63)) h.dates);
  order = ⊎_elim (λ z. inl (eqb-true r.deactivation 0 z)) (λ z. inr (leb-true r.activation r.deactivation z)) (or_cases _ _ h.order);
  started = λ e. ⊎_elim (λ z. absurd (eqb-false r.state 2 (not-true (eqb r.state 2) z) e)) (λ z. leb-true r.activation latest z) (or_cases _ _ h.started);
}

pub dated_of : (latest : ℕ) (r : Record) → Dated latest r → Timely latest r
unfolding dates_right order_right started_right
dated_of latest r h = record {
  dates = and_i _ _ (lt-ltb r.activation (2 ^ 63) h.activation) (lt-ltb r.deactivation (2 ^ 63) h.deactivation);
  order = ⊎_elim (λ z. or_l _ _ (eq-eqb r.deactivation 0 z)) (λ z. or_r (eqb r.deactivation 0) _ (le-leb r.activation r.deactivation z)) h.order;
  started = elim (ℕ_discrete r.state 2) [
    | yes e ↦ or_r (not (eqb r.state 2)) _ (le-leb r.activation latest (h.started e))
    | no e ↦ or_l _ _ (ap not (ne_eqb r.state 2 e))
  ];
}

pub dated_later : (latest next : ℕ) (r : Record) → latest ≤ next → Dated latest r → Dated next r
dated_later latest next r l h = record { activation = h.activation; deactivation = h.deactivation; order = h.order; started = λ e. let s = h.started e in omega arith }
