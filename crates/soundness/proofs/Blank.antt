-- The blank table is sound, whatever its number of places.
-- Assumes that the number of places fits the lead's four bytes, as the place count there does.
use mathlib.Core.Path.{◌≡◌, ap, ◌∙◌}
use Prim.Native.Nat.{ℕ, ◌^◌, ◌<◌}
use native.Mathlib.Omega.{arith}
use mathlib.Core.Bool.{true}
use Rattle.octets.specs.Octets.{all_zero}
use Rattle.table.specs.Layout.{line_size, body_size}
use Rattle.table.specs.Records.{serial_at, blank}
use Rattle.octets.proofs.Zeros.{zeros_pass}
use Rattle.table.proofs.Blank.{length_blank, said_blank, latest_blank, line_blank, body_blank, serial_blank}
use Rattle.soundness.specs.Sound.{sound}
use Rattle.soundness.proofs.SoundIs.{Sound, Stands, Empty, named_stands, sound_of}

module _ (n : ℕ) (few : n < 256 ^ 4) where
  -- nothing stands in it
  none_stands {ℓ} : {P : Type ℓ} (i : ℕ) → i < n → Stands (blank n) i → P
  none_stands i h s = absurd (s (serial_blank n i h))

  empty : (i : ℕ) → i < n → serial_at (blank n) i ≡ 0 → Empty n (blank n) i
  empty i h z = record { line = ap all_zero (line_blank n i h) ∙ zeros_pass line_size; body = ap all_zero (body_blank n i h) ∙ zeros_pass body_size }

  pub blank_facts : Sound n (blank n)
  blank_facts = record {
    size = length_blank n;
    count = said_blank n few;
    latest = omega (arith, latest_blank n);
    free = empty;
    zeros = λ i h s. none_stands i h s;
    distinct = λ i j h g s e. none_stands i h s;
    issued = λ i h. omega (arith, serial_blank n i h);
    fit = λ i h s. none_stands i h s;
    dated = λ i h s. none_stands i h s;
    replaced = λ i j h g s u e. none_stands i h s;
    replacement = λ i j h g s u e. none_stands i h s;
    named = λ i j h g c e. none_stands i h (named_stands n (blank n) i (length_blank n) h (empty i h) c);
  }

  pub blank_sound : sound n (blank n) ≡ true
  blank_sound = sound_of n (blank n) blank_facts
