-- 01, "TTLV": the numbers that their type allows, and that each type of number spells such ones alone.
-- Assumes nothing.
use Rattle.std.specs.Prelude.{ℕ, ◌≡◌, refl, Bool, true, false, not, ◌&&◌, eqb}
use Rattle.octets.specs.If.{ifb}
use Rattle.octets.specs.Octets.{be, from_be, from_be_after}
use Rattle.ttlv_types.specs.Types.{structure, integer, long_integer, enumeration, boolean, date_time, interval, date_time_extended, length_ok, value_ok}
use Rattle.ttlv_put.specs.Write.{width_ok}
use Rattle.ttlv_numbers.specs.Bit.{bit}

-- the type is no structure, and allows a value of `width` bytes, 1 to 8 of them, which spell `bits`
abbrev pub Allowed : ℕ → ℕ → ℕ → Type 0
Allowed kind width bits = (width_ok width && not (eqb kind structure) && length_ok kind width && value_ok kind (be width bits)) ≡ true

-- ---- each type

module _ (bits : ℕ) where
  pub integer_allowed : Allowed integer 4 bits
  unfolding length_ok value_ok ifb
  integer_allowed = refl

  pub enumeration_allowed : Allowed enumeration 4 bits
  unfolding length_ok value_ok ifb
  enumeration_allowed = refl

  pub interval_allowed : Allowed interval 4 bits
  unfolding length_ok value_ok ifb
  interval_allowed = refl

  pub long_integer_allowed : Allowed long_integer 8 bits
  unfolding length_ok value_ok ifb
  long_integer_allowed = refl

  pub date_time_allowed : Allowed date_time 8 bits
  unfolding length_ok value_ok ifb
  date_time_allowed = refl

  pub date_time_extended_allowed : Allowed date_time_extended 8 bits
  unfolding length_ok value_ok ifb
  date_time_extended_allowed = refl

pub boolean_allowed : (b : Bool) → Allowed boolean 8 (bit b)
unfolding length_ok value_ok ifb bit be from_be from_be_after
boolean_allowed true = refl
boolean_allowed false = refl
