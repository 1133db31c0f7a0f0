-- The last field of a run as the bytes have it: a number or a structure at the front, with nothing behind it. What the readers of last fields answer.
-- Assumes nothing.
use Rattle.std.specs.Prelude.{Option, None, Some}
use Rattle.std.specs.Prelude.{ℕ, List, length, eqb}
use Rattle.octets.specs.If.{ifb}
use Rattle.fields.specs.Found.{number_at, body_at}

unfoldable pub last_number : ℕ → Option (ℕ × ℕ) → Option (ℕ × ℕ)
last_number n (Some (v, next)) = ifb (eqb next n) (Some (v, next)) None
last_number n None = None

-- the number at the front of s, which ends where s ends
unfoldable pub only_number_at : List ℕ → ℕ → ℕ → Option (ℕ × ℕ)
only_number_at s tag kind = last_number (length s) (number_at s tag kind)

unfoldable pub last_body : ℕ → Option ℕ → Option ℕ
last_body n (Some next) = ifb (eqb next n) (Some next) None
last_body n None = None

-- the structure at the front of s, which ends where s ends
unfoldable pub only_body_at : List ℕ → ℕ → Option ℕ
only_body_at s tag = last_body (length s) (body_at s tag)
