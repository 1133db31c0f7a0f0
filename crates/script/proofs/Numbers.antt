-- Laws of decimal numbers: what a loop over digits goes by.
-- Assumes nothing.
use Prim.Native.Nat.{ℕ, ◌+◌, ◌*◌, ◌-◌, ◌≤◌, ◌<◌, ◌^◌, min}
use mathlib.Core.Path.{◌≡◌, refl, sym, ap, ◌∙◌}
use mathlib.Core.Bool.{true, ◌&&◌}
use mathlib.Core.List.{List, [], ◌∷◌}
use Rattle.std.specs.Prelude.{Option, None, Some}
use native.Mathlib.Omega.{arith}
use native.Mathlib.Numerals.{add-one}
use lib.ListN.{length, take, drop, get_or, drop_of_length-le, length-drop}
use lib.IntN.{ℤ, pos, negsuc}
use lib.Seq.{drop-cons, take_all}
use lib.Dec.{eqb, leb, ltb}
use borrow.Author.Tests.{eq-eqb, ne_eqb, lt-ltb, le-ltb, leb-true, ltb-true, ltb-false}
use Rattle.octets.specs.If.{ifb}
use Rattle.octets.specs.Maybe.{◌>>=◌, ◌>>◌}
use Rattle.octets.proofs.Bools.{and_l, and_r}
use Rattle.octets.proofs.If.{ifb_true, ifb_false, on_if, on_bool}
use mir.Syntax.{w64}
use mir.Val.{of_z, to_z}
use mir.Facts.{to_z-of_z, to_z_pos}
use Rattle.clock.proofs.Signs.{top_below}
use Rattle.script.specs.Numbers.{decimal_of, number_after, number_in, from_zero, below_zero, clock_in}

-- ---- a number, digit by digit

module _ (s : List ℕ) (i n : ℕ) where
  module _ (h : i < length s) where
    pub number_none : decimal_of (get_or s i 0) ≡ None → number_after n (drop i s) ≡ None
    unfolding number_after ◌>>=◌
    number_none t = rw (drop-cons s i 0 h, t)

    module _ {d : ℕ} (e : decimal_of (get_or s i 0) ≡ Some d) where
      pub number_large : 2 ^ 64 ≤ n * 10 + d → number_after n (drop i s) ≡ None
      unfolding number_after ◌>>=◌ ◌>>◌
      number_large l = rw (drop-cons s i 0 h, e, le-ltb (n * 10 + d) (2 ^ 64) l)

      pub number_on : n * 10 + d < 2 ^ 64 → number_after n (drop i s) ≡ number_after (n * 10 + d) (drop (i + 1) s)
      unfolding number_after ◌>>=◌ ◌>>◌
      number_on l = rw (drop-cons s i 0 h, e, lt-ltb (n * 10 + d) (2 ^ 64) l, add-one)

  pub number_end_lem : length s ≤ i → number_after n (drop i s) ≡ Some n
  unfolding number_after
  number_end_lem h = rw (drop_of_length-le s h)

pub number_empty : (s : List ℕ) → length s ≡ 0 → number_in s ≡ None
unfolding number_in
number_empty [] h = refl
number_empty (c ∷ s) h = absurd (omega arith)

pub number_starts : (s : List ℕ) → (length s ≡ 0 → ⊥) → number_in s ≡ number_after 0 s
unfolding number_in
number_starts [] h = absurd (h refl)
number_starts (c ∷ s) h = refl

-- ---- a clock, by its sign

pub clock_empty : (s : List ℕ) → length s ≡ 0 → clock_in s ≡ None
unfolding clock_in
clock_empty [] h = refl
clock_empty (c ∷ s) h = absurd (omega arith)

module _ (s : List ℕ) (h : length s ≡ 0 → ⊥) where
  clock_starts : clock_in s ≡ ifb (eqb (get_or s 0 0) 0x2D) (number_in (drop 1 s) >>= below_zero) (number_in s >>= from_zero)
  unfolding clock_in
  clock_starts = go s h
    where
      go : (s : List ℕ) → (length s ≡ 0 → ⊥) → clock_in s ≡ ifb (eqb (get_or s 0 0) 0x2D) (number_in (drop 1 s) >>= below_zero) (number_in s >>= from_zero)
      go [] h = absurd (h refl)
      go (c ∷ s) h = refl

  pub clock_minus : get_or s 0 0 ≡ 0x2D → clock_in s ≡ (number_in (drop 1 s) >>= below_zero)
  clock_minus e = clock_starts ∙ ifb_true _ _ _ (eq-eqb _ _ e)

  pub clock_plain : (get_or s 0 0 ≡ 0x2D → ⊥) → clock_in s ≡ (number_in s >>= from_zero)
  clock_plain e = clock_starts ∙ ifb_false _ _ _ (ne_eqb _ _ e)

-- a clock as it is stored, from its bits
module _ {z : ℤ} (n : ℕ) (h : n < 2 ^ 63) where
  pub stored_up : z ≡ to_z w64 n → to_z w64 (of_z w64 z) ≡ pos n
  stored_up p = rw (p ∙ to_z_pos w64 h) (to_z-of_z {w = w64} (record { sfits = h }))

  pub stored_down : z ≡ to_z w64 (18446744073709551615 - n) → to_z w64 (of_z w64 z) ≡ negsuc n
  stored_down p = rw (p ∙ top_below n h) (to_z-of_z {w = w64} (record { sfits = h }))

-- what a number that was read leads to
module _ {B : Type 0} (f : ℕ → Option B) {number : Option ℕ} where
  pub then_none : number ≡ None → (number >>= f) ≡ None
  unfolding ◌>>=◌
  then_none e = rw e

  pub then_some : {n : ℕ} → number ≡ Some n → (number >>= f) ≡ f n
  unfolding ◌>>=◌
  then_some e = rw e

-- the characters behind the first
pub rest_of : (s : List ℕ) → take (length s - 1) (drop 1 s) ≡ drop 1 s
rest_of s =
    let rest : length (drop 1 s) ≡ length s - 1 = length-drop 1 s in
    take_all (length s - 1) (drop 1 s) (omega arith)

-- a clock that was read is one of 64 bits: it is stored as it is
abbrev Kept : Option ℤ → Type 0
Kept None = Unit {0}
Kept (Some z) = to_z w64 (of_z w64 z) ≡ z

up_kept : (n : ℕ) → Kept (from_zero n)
up_kept n = on_if Kept (λ e. to_z-of_z {w = w64} (record { sfits = ltb-true n (2 ^ 63) e })) (λ e. tt)

down_kept : (n : ℕ) → Kept (below_zero n)
down_kept n = on_if Kept in_range (λ e. tt)
  where
    in_range : (leb 1 n && leb n (2 ^ 63)) ≡ true → Kept (Some (negsuc (n - 1)))
    in_range e =
        let least = leb-true 1 n (and_l (leb 1 n) (leb n (2 ^ 63)) e) in
        let most = leb-true n (2 ^ 63) (and_r (leb 1 n) (leb n (2 ^ 63)) e) in
        to_z-of_z {w = w64} (record { sfits = omega arith })

then_kept : (number : Option ℕ) (f : ℕ → Option ℤ) → ((n : ℕ) → Kept (f n)) → Kept (number >>= f)
unfolding ◌>>=◌
then_kept None f h = tt
then_kept (Some n) f h = h n

kept : (s : List ℕ) → Kept (clock_in s)
unfolding clock_in
kept [] = tt
kept (c ∷ s) = on_if Kept (λ e. then_kept (number_in s) below_zero down_kept) (λ e. then_kept (number_in (c ∷ s)) from_zero up_kept)

pub clock_kept : (s : List ℕ) {z : ℤ} → clock_in s ≡ Some z → to_z w64 (of_z w64 z) ≡ z
clock_kept s e = rw e at (kept s)

-- what is past the end is nothing
drop_min : (s : List ℕ) (i : ℕ) → drop (min i (length s)) s ≡ drop i s
drop_min s i =
    on_bool (ltb i (length s))
    (λ t. let l : i < length s = ltb-true i (length s) t in let e : min i (length s) ≡ i = omega arith in ap (λ (k : ℕ). drop k s) e)
    (λ f. let l : length s ≤ i = ltb-false i (length s) f in let e : length s ≤ min i (length s) = omega arith in drop_of_length-le s e ∙ sym (drop_of_length-le s l))

-- the characters behind the gap
pub after_gap : (s : List ℕ) {gap from i : ℕ} → from ≡ min (gap + 1) (length s) → gap ≡ i → take (length s - from) (drop from s) ≡ drop (i + 1) s
after_gap s {gap} {from} {i} f g =
    let left = length-drop from s in
    take_all (length s - from) (drop from s) (omega arith) ∙ ap (λ (k : ℕ). drop k s) f ∙ drop_min s (gap + 1) ∙ ap (λ (k : ℕ). drop (k + 1) s) g
