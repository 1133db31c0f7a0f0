-- Laws of places and of equal runs: what a loop over bytes goes by, and what the answers mean.
-- Assumes nothing.
use mathlib.Core.Path.{◌≡◌, refl, ap, ◌∙◌}
use Prim.Native.Nat.{ℕ, suc, ◌+◌, ◌≤◌, ◌<◌}
use native.Mathlib.Numerals.{add-one}
use native.Mathlib.Omega.{arith}
use mathlib.Core.Bool.{Bool, true, false, ◌&&◌, and-false, false≢true}
use mathlib.Core.List.{List, [], ◌∷◌}
use lib.ListN.{length, drop, get_or, drop_of_length-le}
use lib.Seq.{drop-cons}
use lib.Dec.{eqb, ltb}
use lib.Pointwise.{pointwise}
use Rattle.std.specs.Prelude.{Option}
use Rattle.std.specs.List.{position, position_or_len}
use Rattle.std.specs.Option.{unwrap_or}
use borrow.Author.Tests.{eq-eqb, eqb-true, ltb-true, ltb-false}
use Rattle.octets.proofs.Bools.{both}
use Rattle.octets.proofs.If.{ifb_true, ifb_false, on_bool}
use Rattle.octets.specs.If.{ifb}
use Rattle.octets.specs.Octets.{same}
use Rattle.lines.specs.Lines.{place_of, name_end, is_silent}

-- ---- the place of a byte

place_or_len : (b : ℕ) (s : List ℕ) → place_of b s ≡ position_or_len (λ x. eqb x b) s
unfolding place_of
place_or_len b [] = refl
place_or_len b (x ∷ s) = on_bool (eqb x b) (λ e. rw e (ifb_true _ _ _ refl)) (λ e. rw e (ifb_false _ _ _ refl ∙ ap (λ (n : ℕ). 1 + n) (place_or_len b s)))

place_most : (b : ℕ) (s : List ℕ) → place_of b s ≤ length s
unfolding place_of
place_most b [] = omega arith
place_most b (x ∷ s) =
    let m = place_most b s in
    on_bool (eqb x b)
    (λ e. let z : ifb (eqb x b) 0 (1 + place_of b s) ≡ 0 = ifb_true _ _ _ e in omega arith)
    (λ e. let z : ifb (eqb x b) 0 (1 + place_of b s) ≡ 1 + place_of b s = ifb_false _ _ _ e in omega arith)

-- the first place that std finds, or the length
pub place_found : (b : ℕ) (s : List ℕ) {r : ℕ} {found : Option ℕ} → found ≡ position (λ x. eqb x b) s → r ≡ unwrap_or found (length s) → (r ≡ place_of b s) × (r ≤ length s)
place_found b s f e =
    let m = place_most b s in
    let p = place_or_len b s in
    let g = ap (λ (o : Option ℕ). unwrap_or o (length s)) f in
    on_bool (ltb (position_or_len (λ x. eqb x b) s) (length s))
    (λ t. let z : unwrap_or (position (λ x. eqb x b) s) (length s) ≡ position_or_len (λ x. eqb x b) s = rw t in (omega arith, omega arith))
    (λ t. let h = ltb-false _ _ t in let z : unwrap_or (position (λ x. eqb x b) s) (length s) ≡ length s = rw t in (omega arith, omega arith))

-- ---- the end of a name

module _ (s : List ℕ) (i : ℕ) where
  -- whether a colon and a blank stand at i
  abbrev pub ends_name : Bool
  ends_name = eqb (get_or s i 0) 0x3A && eqb (get_or s (i + 1) 0) 0x20

  module _ (h : i + 1 < length s) where
    name_first_lem : name_end (drop i s) ≡ ifb ends_name 0 (1 + name_end (drop (i + 1) s))
    unfolding name_end
    name_first_lem =
        let inside : suc i < length s = omega arith in
        rw (drop-cons s i 0 (omega arith), add-one, drop-cons s (suc i) 0 inside)

    pub name_here : ends_name ≡ true → name_end (drop i s) ≡ 0
    name_here e = name_first_lem ∙ ifb_true _ _ _ e

    pub name_on : ends_name ≡ false → name_end (drop i s) ≡ 1 + name_end (drop (i + 1) s)
    name_on e = name_first_lem ∙ ifb_false _ _ _ e

  -- a last character ends no name
  pub name_last : length s ≤ i + 1 → i ≤ length s → i + name_end (drop i s) ≡ length s
  unfolding name_end
  name_last h g = on_bool (ltb i (length s)) (λ e. last (ltb-true i (length s) e)) (λ e. none (ltb-false i (length s) e))
    where
      last : i < length s → i + name_end (drop i s) ≡ length s
      last l =
          let over : length s ≤ suc i = omega arith in
          let one : name_end (drop i s) ≡ 1 = rw (drop-cons s i 0 l, drop_of_length-le s over) (ifb_false _ _ _ (and-false (eqb (get_or s i 0) 0x3A))) in
          omega arith

      none : length s ≤ i → i + name_end (drop i s) ≡ length s
      none l = rw (drop_of_length-le s l) (omega arith)

-- ---- silent lines

pub silent_none : (s : List ℕ) → length s ≡ 0 → is_silent s ≡ true
unfolding is_silent
silent_none [] h = refl
silent_none (x ∷ s) h = absurd (omega arith)

pub silent_first : (s : List ℕ) → (length s ≡ 0 → ⊥) → is_silent s ≡ eqb (get_or s 0 0) 0x23
unfolding is_silent
silent_first [] h = absurd (h refl)
silent_first (x ∷ s) h = refl

-- ---- equal runs

pub same_pointwise : (a b : List ℕ) → pointwise eqb a b ≡ same a b
unfolding same
same_pointwise [] [] = refl
same_pointwise [] (y ∷ t) = refl
same_pointwise (x ∷ s) [] = refl
same_pointwise (x ∷ s) (y ∷ t) = ap (λ (r : Bool). eqb x y && r) (same_pointwise s t)

-- the answer is yes just of equal runs
pub same_means : (a b : List ℕ) → same a b ≡ true → a ≡ b
unfolding same
same_means [] [] h = refl
same_means [] (y ∷ t) h = absurd (false≢true h)
same_means (x ∷ s) [] h = absurd (false≢true h)
same_means (x ∷ s) (y ∷ t) h =
    let p = both (eqb x y) (same s t) h in
    rw (eqb-true x y p.0, same_means s t p.1)

pub same_itself : (a : List ℕ) → same a a ≡ true
unfolding same
same_itself [] = refl
same_itself (x ∷ s) = rw (eq-eqb x x refl) (same_itself s)
