-- What the code keeps of a character, as the ranges that it stands for.
-- Assumes nothing.
use Rattle.std.specs.Prelude.{ℕ, zero, suc, List, [], ◌∷◌, replicate}
use Rattle.utf8.specs.Text.{Range, ◌to◌, tail}
use Rattle.utf8.specs.declared.ToCome.{ToCome}

abbrev pub to_come : ℕ → ℕ → ℕ → ToCome
to_come more low high = record { more = more; low = low; high = high }

-- n bytes, the first of them from low to high and the others tails
unfoldable pub ranges : ℕ → ℕ → ℕ → List Range
ranges zero low high = []
ranges (suc n) low high = low to high ∷ replicate n tail

unfoldable pub ranges_of : ToCome → List Range
ranges_of p = ranges p.more p.low p.high
