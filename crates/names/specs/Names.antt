-- 02, L6: names of 1 to 32 bytes of text, and how they are stored: "a length byte (0 means no name), seven zeros and 32 name bytes, zero past the length".
-- Assumes nothing.
use Rattle.std.specs.Prelude.{ℕ, Bool, ◌&&◌, not, List, ◌++◌, length, take, drop, eqb, leb}
use Rattle.octets.specs.Octets.{be, from_be, part, all_zero}
use Rattle.utf8.specs.Text.{text}
use Rattle.words.specs.declared.Words.{Words}
use Rattle.words.specs.Words.{words_size, words_of, word_bytes, filled}
use Rattle.names.specs.declared.Name.{Name}

-- "1 to 32 bytes"
abbrev pub name_most : ℕ
name_most = 32

-- the bytes that a stored name takes
abbrev pub name_size : ℕ
name_size = 40

-- a name as it is stored
unfoldable pub name_field : Name → List ℕ
name_field m = be 1 m.len ++ (be 7 m.zeros ++ word_bytes m.words)

-- what stored bytes say
unfoldable pub stored_name : List ℕ → Name
stored_name s = record { len = from_be (part s 0 1); zeros = from_be (part s 1 7); words = words_of (part s 8 words_size) }

-- "0 means no name"
abbrev pub no_name : Name
no_name = record { len = 0; zeros = 0; words = record { a = 0; b = 0; c = 0; d = 0 } }

abbrev pub is_named : Name → Bool
is_named m = not (eqb m.len 0)

-- the bytes of a name, as many as its length says
unfoldable pub name_text : Name → List ℕ
name_text m = take m.len (word_bytes m.words)

-- the name that is so spelled; no more than 32 bytes are kept
unfoldable pub name_of : List ℕ → Name
name_of v = record { len = length (take name_most v); zeros = 0; words = words_of (filled v) }

-- "1 to 32 bytes of text"
unfoldable pub name_ok : List ℕ → Bool
name_ok v = leb 1 (length v) && leb (length v) name_most && text v

-- the same name, byte for byte
unfoldable pub same_name : Name → Name → Bool
same_name m k =
    eqb m.len k.len
    && eqb m.zeros k.zeros
    && eqb m.words.a k.words.a
    && eqb m.words.b k.words.b
    && eqb m.words.c k.words.c
    && eqb m.words.d k.words.d

-- stored as it has to be: "a length byte .., seven zeros and 32 name bytes, zero past the length"
unfoldable pub shape_right : Name → Bool
shape_right m = leb m.len name_most && eqb m.zeros 0 && all_zero (drop m.len (word_bytes m.words))
