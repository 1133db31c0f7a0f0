-- Worked names, computed: of one byte and of 32, none of 33, letters of two bytes, a NUL at the end, and stored bytes that are no name.
-- Assumes nothing.
use mathlib.Core.Path.{◌≡◌, refl}
use Prim.Native.Nat.{ℕ}
use mathlib.Core.Bool.{Bool, true, ◌&&◌, not}
use mathlib.Core.List.{List, [], ◌∷◌, ◌++◌}
use lib.ListN.{replicate}
use Rattle.octets.specs.Octets.{be, from_be, from_be_after, all, same}
use Rattle.utf8.specs.Text.{text}
use Rattle.words.specs.Words.{words_of, word_bytes, filled}
use Rattle.names.specs.declared.Name.{Name}
use Rattle.names.specs.Names.{no_name, is_named, name_field, stored_name, name_text, name_of, name_ok, same_name, shape_right}

-- "a"; 32 of it; alpha and beta; a letter of two bytes at the end of 32; "a" and a NUL; a NUL alone
abbrev good : List (List ℕ)
good =
    (0x61 ∷ [])
    ∷ replicate 32 0x61
    ∷ (0xCE ∷ 0xB1 ∷ 0xCE ∷ 0xB2 ∷ [])
    ∷ (replicate 30 0x61 ++ (0xCE ∷ 0xB1 ∷ []))
    ∷ (0x61 ∷ 0x00 ∷ [])
    ∷ (0x00 ∷ [])
    ∷ []

-- no byte; 33 of them; 32 characters that take 33 bytes; half a character at the end of 32
abbrev bad : List (List ℕ)
bad = [] ∷ replicate 33 0x61 ∷ (0xCE ∷ 0xB1 ∷ replicate 31 0x61) ∷ (replicate 31 0x61 ++ (0xCE ∷ [])) ∷ []

-- a name of such a text: it may be one, has its bytes, is stored as it has to be, and is read from 40 bytes
abbrev is_right : List ℕ → Bool
is_right v =
    let m = name_of v in
    name_ok v && is_named m && same (name_text m) v && shape_right m && same_name (stored_name (name_field m)) m

pub names_good : all is_right good ≡ true
unfolding all text name_of name_ok name_text name_field stored_name shape_right same_name filled words_of word_bytes be from_be from_be_after same
names_good = refl

pub names_bad : all (λ (v : List ℕ). not (name_ok v)) bad ≡ true
unfolding all text name_ok
names_bad = refl

-- "a" is stored as 01, seven zeros, 61 and 31 zeros
pub one_byte_stored : name_field (name_of (0x61 ∷ [])) ≡ (0x01 ∷ replicate 7 0) ++ (0x61 ∷ replicate 31 0)
unfolding name_of name_field filled words_of word_bytes be from_be from_be_after
one_byte_stored = refl

-- a NUL at the end makes another name
pub nul_differs : not (same_name (name_of (0x61 ∷ [])) (name_of (0x61 ∷ 0x00 ∷ []))) ≡ true
unfolding name_of same_name filled words_of from_be from_be_after
nul_differs = refl

-- the only name of length 0 that is stored as it has to be, and what is not: 33 long, a byte among the seven zeros, a byte past the length
abbrev stored : ℕ → ℕ → ℕ → Name
stored len zeros first = record { len = len; zeros = zeros; words = record { a = first; b = 0; c = 0; d = 0 } }

pub shapes_worked : (shape_right no_name && not (shape_right (stored 33 0 0)) && not (shape_right (stored 0 1 0)) && not (shape_right (stored 0 0 1)) && shape_right (stored 8 0 1) && not (shape_right (stored 7 0 1))) ≡ true
unfolding shape_right word_bytes be all
shapes_worked = refl
