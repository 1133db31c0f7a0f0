-- The type table, read by a type that the code has not named.
-- Assumes nothing.
use mathlib.Core.Path.{◌≡◌}
use Prim.Native.Nat.{ℕ}
use mathlib.Core.Bool.{true}
use mathlib.Core.List.{List}
use lib.Dec.{eqb}
use borrow.Author.Tests.{ne_eqb}
use Rattle.octets.specs.If.{ifb}
use Rattle.ttlv_types.specs.Types.{structure, integer, long_integer, big_integer, enumeration, boolean, text_string, byte_string, date_time, interval, date_time_extended, length_ok, value_ok}

module _ (kind : ℕ) where
  -- neither a number nor a structure nor a text
  pub other_length : (n : ℕ) → (kind ≡ structure → ⊥) → (kind ≡ integer → ⊥) → (kind ≡ long_integer → ⊥) → (kind ≡ big_integer → ⊥) → (kind ≡ enumeration → ⊥) → (kind ≡ boolean → ⊥) → (kind ≡ text_string → ⊥)
      → (kind ≡ date_time → ⊥) → (kind ≡ interval → ⊥) → (kind ≡ date_time_extended → ⊥) → eqb kind byte_string ≡ length_ok kind n
  unfolding length_ok ifb
  other_length n a b c d e f g h i j =
      rw (ne_eqb kind structure a, ne_eqb kind integer b, ne_eqb kind long_integer c, ne_eqb kind big_integer d, ne_eqb kind enumeration e, ne_eqb kind boolean f, ne_eqb kind text_string g, ne_eqb kind date_time h, ne_eqb kind interval i, ne_eqb kind date_time_extended j)

  -- neither a Boolean nor a text
  pub other_value : (v : List ℕ) → (kind ≡ boolean → ⊥) → (kind ≡ text_string → ⊥) → true ≡ value_ok kind v
  unfolding value_ok ifb
  other_value v a b = rw (ne_eqb kind boolean a, ne_eqb kind text_string b)
