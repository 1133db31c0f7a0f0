-- Worked texts, computed: what is hex, and where a text stops being it.
-- Assumes nothing.
use mathlib.Core.Path.{◌≡◌, refl}
use mathlib.Core.Bool.{true, false}
use mathlib.Core.List.{[], ◌∷◌}
use Rattle.octets.specs.If.{ifb}
use Rattle.hex_digits.specs.Texts.{codes, pairs_in, ended, hex}

-- blanks stand where one likes but inside a byte
blanks : pairs_in (codes " 4200  9AF7 ") ≡ record { bytes = 0x42 ∷ 0x00 ∷ 0x9A ∷ 0xF7 ∷ []; whole = true }
unfolding pairs_in ifb
blanks = refl

nothing : pairs_in (codes "") ≡ ended
unfolding pairs_in ifb
nothing = refl

inside : pairs_in (codes "42 0 0") ≡ record { bytes = 0x42 ∷ []; whole = false }
unfolding pairs_in ifb
inside = refl

odd : pairs_in (codes "42007") ≡ record { bytes = 0x42 ∷ 0x00 ∷ []; whole = false }
unfolding pairs_in ifb
odd = refl

lower_case : pairs_in (codes "42 af 00") ≡ record { bytes = 0x42 ∷ []; whole = false }
unfolding pairs_in ifb
lower_case = refl

mistyped : pairs_in (codes "4O 00") ≡ record { bytes = []; whole = false }
unfolding pairs_in ifb
mistyped = refl

-- the bytes alone, as worked cases take them
taken : hex "4200 9AF7" ≡ 0x42 ∷ 0x00 ∷ 0x9A ∷ 0xF7 ∷ []
unfolding ifb
taken = refl
