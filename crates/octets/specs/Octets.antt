-- Lists of bytes: big-endian numbers, parts, and bytes written over the front of others.
-- Assumes nothing. A byte is a number; `Bytes` says that each is below 256, which every lent slice's list meets.
use Rattle.std.specs.Prelude.{ℕ, zero, suc, ◌+◌, ◌*◌, ◌/◌, ◌%◌, ◌<◌, Bool, true, false, ◌&&◌, List, [], ◌∷◌, ◌++◌, length, take, drop, eqb}

-- n as w bytes, the highest first
unfoldable pub be : ℕ → ℕ → List ℕ
be zero n = []
be (suc w) n = be w (n / 256) ++ (n % 256 ∷ [])

-- the number that bytes spell behind those that spell a
unfoldable pub from_be_after : ℕ → List ℕ → ℕ
from_be_after a [] = a
from_be_after a (x ∷ xs) = from_be_after (a * 256 + x) xs

-- the number that bytes spell, the highest first
unfoldable pub from_be : List ℕ → ℕ
from_be xs = from_be_after 0 xs

-- the n bytes of s from `at` on
abbrev pub part : List ℕ → ℕ → ℕ → List ℕ
part s at n = take n (drop at s)

-- b over the front of s; what is past it stays
abbrev pub over : List ℕ → List ℕ → List ℕ
over b s = b ++ drop (length b) s

-- every element passes a test
unfoldable pub all : {A : Type 0} → (A → Bool) → List A → Bool
all test [] = true
all test (x ∷ xs) = test x && all test xs

abbrev pub is_zero : ℕ → Bool
is_zero x = eqb x 0

-- nothing but zeros
abbrev pub all_zero : List ℕ → Bool
all_zero s = all is_zero s

-- the same bytes
unfoldable pub same : List ℕ → List ℕ → Bool
same [] [] = true
same [] (y ∷ ys) = false
same (x ∷ xs) [] = false
same (x ∷ xs) (y ∷ ys) = eqb x y && same xs ys

-- the bytes from i on, as many as k, with 0 behind 255
unfoldable pub counted_from : ℕ → ℕ → List ℕ
counted_from i zero = []
counted_from i (suc k) = i % 256 ∷ counted_from (i + 1) k

-- each element is a byte
abbrev pub Bytes : List ℕ → Type 0
Bytes [] = Unit {0}
Bytes (x ∷ xs) = (x < 256) × Bytes xs
