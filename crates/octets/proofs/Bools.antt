-- Laws of `&&` and `||`: what a joined test says of its parts, and how code that goes by one part after the other meets it.
-- Assumes nothing.
use mathlib.Core.Path.{◌≡◌, refl, sym, ◌∙◌}
use mathlib.Core.Bool.{Bool, true, false, ◌&&◌, ◌||◌, true≢false, false≢true}
use borrow.Author.Tests.{leb-true, ltb-true, eqb-true, le-leb, lt-ltb, eq-eqb}
use mathlib.Core.Logic.{◌⊎◌, inl, inr}

-- ---- from a test to its parts

pub and_l : (a b : Bool) → (a && b) ≡ true → a ≡ true
and_l true b e = refl
and_l false b e = e

pub and_r : (a b : Bool) → (a && b) ≡ true → b ≡ true
and_r true b e = e
and_r false b e = absurd (false≢true e)

pub both : (a b : Bool) → (a && b) ≡ true → (a ≡ true) × (b ≡ true)
both a b e = (and_l a b e, and_r a b e)

pub or_cases : (a b : Bool) → (a || b) ≡ true → (a ≡ true) ⊎ (b ≡ true)
or_cases true b e = inl refl
or_cases false b e = inr e

pub or_not_l : (a b : Bool) → (a || b) ≡ false → a ≡ false
or_not_l true b e = e
or_not_l false b e = refl

pub or_not_r : (a b : Bool) → (a || b) ≡ false → b ≡ false
or_not_r true b e = absurd (true≢false e)
or_not_r false b e = e

-- ---- from the parts to a test

pub and_i : (a b : Bool) → a ≡ true → b ≡ true → (a && b) ≡ true
and_i a b p q = rw (p, q)

pub and_second : (a b : Bool) → a ≡ true → (a && b) ≡ b
and_second a b h = rw h

pub and_no : (a b : Bool) → a ≡ false → (a && b) ≡ false
and_no a b h = rw h

pub and_cong : {a b c d : Bool} → a ≡ b → c ≡ d → (a && c) ≡ (b && d)
and_cong p q = rw (p, q)

pub and_assoc : (a b c : Bool) → (a && (b && c)) ≡ ((a && b) && c)
and_assoc true b c = refl
and_assoc false b c = refl

pub and_true : (a b : Bool) → b ≡ true → (a && b) ≡ a
and_true true b h = h
and_true false b h = refl

-- a part that the other one gives adds nothing
pub and_implied : (a b : Bool) → (b ≡ true → a ≡ true) → (a && b) ≡ b
and_implied true b h = refl
and_implied false true h = h refl
and_implied false false h = refl

pub or_l : (a b : Bool) → a ≡ true → (a || b) ≡ true
or_l a b p = rw p

pub or_r : (a b : Bool) → b ≡ true → (a || b) ≡ true
or_r true b p = refl
or_r false b p = p

-- `a || b` as code works it out: a where a holds, else b
pub or_first : (a b : Bool) {z : Bool} → z ≡ a → a ≡ true → z ≡ (a || b)
or_first a b e h = e ∙ h ∙ sym (rw h)

pub or_second : (a b : Bool) {z : Bool} → z ≡ b → a ≡ false → z ≡ (a || b)
or_second a b e h = e ∙ sym (rw h)

-- ---- a test that cannot fail holds, and one that cannot hold fails

pub yes_unless : (b : Bool) → (b ≡ false → ⊥) → b ≡ true
yes_unless true h = refl
yes_unless false h = absurd (h refl)

pub no_unless : (b : Bool) → (b ≡ true → ⊥) → b ≡ false
no_unless true h = absurd (h refl)
no_unless false h = refl

pub not_both : (b : Bool) → b ≡ true → b ≡ false → ⊥
not_both b p q = true≢false (sym p ∙ q)

-- from a test to the facts of its parts, and back
pub ruleset facts = (and_l, and_r, leb-true, ltb-true, eqb-true)

pub ruleset tests = (and_i, le-leb, lt-ltb, eq-eqb)
