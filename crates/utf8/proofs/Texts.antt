-- Laws of text. Those above go by `text_plain` and `text_bytes`: nothing else of text is known outside this crate.
-- Assumes nothing.
use mathlib.Core.Path.{◌≡◌, refl, sym, ap, ◌∙◌}
use Prim.Native.Nat.{ℕ, zero, suc, ◌+◌, ◌-◌, ◌≤◌, ◌<◌}
use native.Mathlib.Numerals.{add-one}
use native.Mathlib.Omega.{arith}
use mathlib.Core.Bool.{Bool, true, false, ◌&&◌}
use mathlib.Core.Logic.{◌⊎◌, inl, inr, ⊎_elim}
use mathlib.Core.List.{List, [], ◌∷◌}
use lib.ListN.{length, drop, get_or, replicate, drop_of_length-le}
use lib.Seq.{drop-cons}
use lib.Dec.{leb, ltb, eqb}
use borrow.Author.Tests.{le-leb, lt-leb, leb-true, ltb-true, ne_eqb}
use Rattle.octets.specs.Octets.{all, Bytes}
use Rattle.octets.proofs.If.{ifb_true, ifb_false, on_if}
use Rattle.octets.proofs.Bools.{and_i, and_l, and_r, and_no, not_both}
use Rattle.utf8.specs.Text.{Range, ◌to◌, is_in, forms, wrong, tail, begun, later, is_whole, text_from, text, is_plain}
use Rattle.utf8.specs.Ranges.{to_come, ranges, ranges_of}
use Rattle.utf8.specs.declared.ToCome.{ToCome}

-- ---- a byte and a range

is_in_lem : (r : Range) (x : ℕ) → r.low ≤ x → x ≤ r.high → is_in r x ≡ true
is_in_lem r x l h = and_i (leb r.low x) (leb x r.high) (le-leb r.low x l) (le-leb x r.high h)

is_out : (r : Range) (x : ℕ) → (x < r.low) ⊎ (r.high < x) → is_in r x ≡ false
is_out r x (inl l) = and_no (leb r.low x) (leb x r.high) (lt-leb r.low x l)
is_out r x (inr h) = go (leb r.low x)
  where
    go : (b : Bool) → (b && leb x r.high) ≡ false
    go true = lt-leb x r.high h
    go false = refl

-- ---- the first byte of a character: by the first form that it is in

module _ (r : Range) (rest : List Range) (others : List (List Range)) (x : ℕ) where
  pub begins : r.low ≤ x → x ≤ r.high → begun x ((r ∷ rest) ∷ others) ≡ rest
  unfolding begun
  begins l h = ifb_true _ _ _ (is_in_lem r x l h)

  pub above : {z : List Range} → r.high < x → begun x others ≡ z → begun x ((r ∷ rest) ∷ others) ≡ z
  unfolding begun
  above h e = ifb_false _ _ _ (is_out r x (inr h)) ∙ e

  pub below : {z : List Range} → x < r.low → begun x others ≡ z → begun x ((r ∷ rest) ∷ others) ≡ z
  unfolding begun
  below h e = ifb_false _ _ _ (is_out r x (inl h)) ∙ e

pub begins_none : (x : ℕ) → begun x [] ≡ wrong
unfolding begun
begins_none x = refl

-- ---- a byte more

module _ (r : Range) (rest : List Range) (x : ℕ) where
  pub later_in : r.low ≤ x → x ≤ r.high → later (r ∷ rest) x ≡ rest
  unfolding later
  later_in l h = ifb_true _ _ _ (is_in_lem r x l h)

  pub later_out : (x < r.low) ⊎ (r.high < x) → later (r ∷ rest) x ≡ wrong
  unfolding later
  later_out o = ifb_false _ _ _ (is_out r x o)

-- ---- what the code keeps

pub ranges_none : (low high : ℕ) {n : ℕ} → n ≡ 0 → ranges n low high ≡ []
unfolding ranges
ranges_none low high e = rw e

pub ranges_more : (low high n : ℕ) → 0 < n → ranges n low high ≡ (low to high ∷ replicate (n - 1) tail)
unfolding ranges
ranges_more low high zero h = absurd (omega arith)
ranges_more low high (suc n) h =
    let e : suc n - 1 ≡ n = omega arith in
    rw e

pub ranges_tails : (n : ℕ) → ranges n 0x80 0xBF ≡ replicate n tail
unfolding ranges
ranges_tails zero = refl
ranges_tails (suc n) = refl

-- ---- text from an index on

module _ (s : List ℕ) (to_come : List Range) (i : ℕ) where
  text_on : i < length s → text_from to_come (drop i s) ≡ text_from (later to_come (get_or s i 0)) (drop (i + 1) s)
  unfolding text_from
  text_on h = rw (drop-cons s i 0, add-one)

  text_end : length s ≤ i → text_from to_come (drop i s) ≡ is_whole to_come
  unfolding text_from
  text_end h = rw (drop_of_length-le s h)

whole_ranges : (n low high : ℕ) → is_whole (ranges n low high) ≡ eqb n 0
unfolding is_whole ranges
whole_ranges zero low high = refl
whole_ranges (suc n) low high = sym (ne_eqb (suc n) 0 (λ e. omega arith))

-- text begins between characters, and goes on with each byte
module _ (s : List ℕ) where
  pub text_start : {p : ToCome} → p ≡ to_come 0 0x80 0xBF → text s ≡ text_from (ranges_of p) s
  unfolding text ranges_of ranges
  text_start e = rw e

  pub text_goes_on : (i : ℕ) (p q : ToCome) → i < length s → ranges_of q ≡ later (ranges_of p) (get_or s i 0) → text s ≡ text_from (ranges_of p) (drop i s) → text s ≡ text_from (ranges_of q) (drop (i + 1) s)
  text_goes_on i p q h e inv = inv ∙ text_on s (ranges_of p) i h ∙ sym (ap (λ (to_come : List Range). text_from to_come (drop (i + 1) s)) e)

  pub text_ends : (i : ℕ) (p : ToCome) → length s ≤ i → text s ≡ text_from (ranges_of p) (drop i s) → eqb p.more 0 ≡ text s
  unfolding ranges_of
  text_ends i p h inv = sym (inv ∙ text_end s (ranges_of p) i h ∙ whole_ranges p.more p.low p.high)

-- ---- bytes that are characters by themselves

plain_later : (x : ℕ) → is_plain x ≡ true → later [] x ≡ []
unfolding later
plain_later x e = begins (0x00 to 0x7F) [] (drop 1 forms) x (omega arith) (leb-true x 0x7F e)

pub text_plain : (v : List ℕ) → all is_plain v ≡ true → text v ≡ true
unfolding text text_from all is_whole
text_plain [] h = refl
text_plain (x ∷ v) h = ap (λ (to_come : List Range). text_from to_come v) (plain_later x (and_l (is_plain x) (all is_plain v) h)) ∙ text_plain v (and_r (is_plain x) (all is_plain v) h)

-- ---- text is bytes: no form has a range that ends above 255

abbrev ends_low : Range → Bool
ends_low r = ltb r.high 256

abbrev all_low : List Range → Bool
all_low to_come = all ends_low to_come

in_low : (r : Range) (x : ℕ) → ends_low r ≡ true → is_in r x ≡ true → x < 256
in_low r x e h =
    let top = ltb-true r.high 256 e in
    let at_most = leb-true x r.high (and_r (leb r.low x) (leb x r.high) h) in
    omega arith

-- what a byte leaves to come: nothing can follow it, or it is below 256 and so is what may follow
abbrev Low : ℕ → List Range → Type 0
Low x next = (next ≡ wrong) ⊎ ((x < 256) × (all_low next ≡ true))

begun_low : (x : ℕ) (fs : List (List Range)) → all all_low fs ≡ true → Low x (begun x fs)
unfolding begun all
begun_low x [] h = inl refl
begun_low x ([] ∷ others) h = begun_low x others h
begun_low x ((r ∷ rest) ∷ others) h =
    let form = and_l (all_low (r ∷ rest)) (all all_low others) h in
    on_if (Low x) (λ e. inr (in_low r x (and_l (ends_low r) (all_low rest) form) e, and_r (ends_low r) (all_low rest) form)) (λ e. begun_low x others (and_r (all_low (r ∷ rest)) (all all_low others) h))

later_low : (to_come : List Range) (x : ℕ) → all_low to_come ≡ true → Low x (later to_come x)
unfolding later all
later_low [] x h = begun_low x forms refl
later_low (r ∷ rest) x h = on_if (Low x) (λ e. inr (in_low r x (and_l (ends_low r) (all_low rest) h) e, and_r (ends_low r) (all_low rest) h)) (λ e. inl refl)

never : (s : List ℕ) → text_from wrong s ≡ false
unfolding text_from is_whole
never [] = refl
never (x ∷ s) = ap (λ (to_come : List Range). text_from to_come s) (later_out (1 to 0) [] x (out x)) ∙ never s
  where
    out : (x : ℕ) → (x < 1) ⊎ (0 < x)
    out zero = inl (omega arith)
    out (suc x) = inr (omega arith)

from_bytes : (to_come : List Range) (v : List ℕ) → all_low to_come ≡ true → text_from to_come v ≡ true → Bytes v
unfolding text_from
from_bytes to_come [] h e = tt
from_bytes to_come (x ∷ v) h e = ⊎_elim
    (λ w. absurd (not_both (text_from (later to_come x) v) e (ap (λ (next : List Range). text_from next v) w ∙ never v)))
    (λ p. (p.0, from_bytes (later to_come x) v p.1 e))
    (later_low to_come x h)

pub text_bytes : (v : List ℕ) → text v ≡ true → Bytes v
unfolding text all
text_bytes v e = from_bytes [] v refl e
