-- Thirty-two bytes as four numbers of eight bytes each, the highest byte first.
-- Assumes nothing.
use Rattle.std.specs.Prelude.{ℕ, ◌^◌, Bool, ◌&&◌, List, ◌++◌, take, replicate, ltb}
use Rattle.octets.specs.Octets.{be, from_be, part}
use Rattle.words.specs.declared.Words.{Words}

-- so many bytes
abbrev pub words_size : ℕ
words_size = 32

-- bytes filled up with zeros to 32
unfoldable pub filled : List ℕ → List ℕ
filled v = take words_size (v ++ replicate words_size 0)

-- the four numbers that 32 bytes spell
unfoldable pub words_of : List ℕ → Words
words_of v = record { a = from_be (part v 0 8); b = from_be (part v 8 8); c = from_be (part v 16 8); d = from_be (part v 24 8) }

-- the 32 bytes that spell four numbers
unfoldable pub word_bytes : Words → List ℕ
word_bytes w = be 8 w.a ++ (be 8 w.b ++ (be 8 w.c ++ be 8 w.d))

-- each of them is a number of eight bytes
unfoldable pub words_ok : Words → Bool
words_ok w = ltb w.a (256 ^ 8) && ltb w.b (256 ^ 8) && ltb w.c (256 ^ 8) && ltb w.d (256 ^ 8)
