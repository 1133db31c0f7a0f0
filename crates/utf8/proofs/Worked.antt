-- Worked texts, computed: the edges of each form of RFC 3629, and bytes that are close to one and none.
-- Assumes nothing.
use mathlib.Core.Path.{◌≡◌, refl}
use Prim.Native.Nat.{ℕ}
use mathlib.Core.Bool.{true, not}
use mathlib.Core.List.{List, [], ◌∷◌}
use Rattle.octets.specs.Octets.{all}
use Rattle.utf8.specs.Text.{text}

-- no byte, the lowest and the highest of each form, the characters around the surrogates, two characters
abbrev good : List (List ℕ)
good =
    []
    ∷ (0x00 ∷ [])
    ∷ (0x7F ∷ [])
    ∷ (0xC2 ∷ 0x80 ∷ [])
    ∷ (0xDF ∷ 0xBF ∷ [])
    ∷ (0xE0 ∷ 0xA0 ∷ 0x80 ∷ [])
    ∷ (0xE1 ∷ 0x80 ∷ 0x80 ∷ [])
    ∷ (0xEC ∷ 0xBF ∷ 0xBF ∷ [])
    ∷ (0xED ∷ 0x9F ∷ 0xBF ∷ [])
    ∷ (0xEE ∷ 0x80 ∷ 0x80 ∷ [])
    ∷ (0xEF ∷ 0xBF ∷ 0xBF ∷ [])
    ∷ (0xF0 ∷ 0x90 ∷ 0x80 ∷ 0x80 ∷ [])
    ∷ (0xF1 ∷ 0x80 ∷ 0x80 ∷ 0x80 ∷ [])
    ∷ (0xF3 ∷ 0xBF ∷ 0xBF ∷ 0xBF ∷ [])
    ∷ (0xF4 ∷ 0x8F ∷ 0xBF ∷ 0xBF ∷ [])
    ∷ (0xCE ∷ 0xB1 ∷ 0x41 ∷ [])
    ∷ []

-- a tail first; overlong forms of two, three and four bytes; surrogates; above 10FFFF hex; cut short; a tail that is none, or one too many
abbrev bad : List (List ℕ)
bad =
    (0x80 ∷ [])
    ∷ (0xBF ∷ [])
    ∷ (0xC0 ∷ 0x80 ∷ [])
    ∷ (0xC1 ∷ 0xBF ∷ [])
    ∷ (0xE0 ∷ 0x9F ∷ 0xBF ∷ [])
    ∷ (0xED ∷ 0xA0 ∷ 0x80 ∷ [])
    ∷ (0xED ∷ 0xBF ∷ 0xBF ∷ [])
    ∷ (0xF0 ∷ 0x8F ∷ 0xBF ∷ 0xBF ∷ [])
    ∷ (0xF4 ∷ 0x90 ∷ 0x80 ∷ 0x80 ∷ [])
    ∷ (0xF5 ∷ 0x80 ∷ 0x80 ∷ 0x80 ∷ [])
    ∷ (0xFF ∷ [])
    ∷ (0xC2 ∷ [])
    ∷ (0xE2 ∷ 0x82 ∷ [])
    ∷ (0xF0 ∷ 0x9F ∷ 0x98 ∷ [])
    ∷ (0xC2 ∷ 0x41 ∷ [])
    ∷ (0xE2 ∷ 0x82 ∷ 0x41 ∷ [])
    ∷ (0xC2 ∷ 0x80 ∷ 0x80 ∷ [])
    ∷ (0x100 ∷ [])
    ∷ []

pub edges_good : all text good ≡ true
unfolding text all
edges_good = refl

pub edges_bad : all (λ (v : List ℕ). not (text v)) bad ≡ true
unfolding text all
edges_bad = refl
