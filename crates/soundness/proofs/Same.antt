-- When two sound tables are the same: they have the same lead, and the same record at every place.
-- Assumes nothing; over the number n of places. What no record says is zero in a sound table: the zeros of a body, and the whole of a free place.
use Prim.Native.Nat.{ℕ, ◌+◌, ◌<◌}
use native.Mathlib.Omega.{arith}
use native.Mathlib.Decide.{ℕ_discrete}
use mathlib.Core.Path.{◌≡◌, sym, ap, ◌∙◌}
use mathlib.Core.Bool.{true}
use mathlib.Core.List.{List}
use lib.ListN.{replicate}
use lib.Dec.{lit≤}
use Rattle.octets.specs.Octets.{be, part, Bytes}
use Rattle.octets.proofs.Numbers.{be_zero}
use Rattle.octets.proofs.Stores.{part_part, length_part}
use Rattle.octets.proofs.Zeros.{pass_zeros, part_zeros}
use Rattle.table.specs.Layout.{lead_size, body_size, body_start, zeros_in}
use Rattle.table.specs.Records.{line_bytes, body_bytes, place_at, serial_at}
use Rattle.table.proofs.Places.{length_body_at, line_is, body_is}
use Rattle.table.proofs.Blank.{test_zeros}
use Rattle.table.proofs.Same.{tables_same}
use Rattle.soundness.specs.Sound.{sound}
use Rattle.soundness.proofs.SoundIs.{Sound, sound_is}

-- the zeros of a body are zero, whether a record stands there or not
module _ (n : ℕ) (t : List ℕ) (facts : Sound n t) (i : ℕ) (low : i < n) where
  free_zeros : serial_at t i ≡ 0 → part t (body_start n i + zeros_in) 4 ≡ be 4 0
  free_zeros free =
      sym (part_part t (body_start n i) body_size zeros_in 4 (lit≤ tt))
      ∙ ap (λ (b : List ℕ). part b zeros_in 4) (pass_zeros _ (facts.free i low free).body ∙ ap (λ (k : ℕ). replicate k 0) (length_body_at n t i facts.size low))
      ∙ part_zeros body_size zeros_in 4 (lit≤ tt)
      ∙ sym (be_zero 4)

  zeros_are : part t (body_start n i + zeros_in) 4 ≡ be 4 0
  zeros_are = elim (ℕ_discrete (serial_at t i) 0) [
    | yes free ↦ free_zeros free
    | no stands ↦ test_zeros _ (length_part t (body_start n i + zeros_in) 4 (omega (arith, facts.size))) (facts.zeros i low stands)
  ]

pub sound_same : (n : ℕ) (t u : List ℕ) → sound n t ≡ true → sound n u ≡ true → Bytes t → Bytes u → part t 0 lead_size ≡ part u 0 lead_size
    → ((i : ℕ) → i < n → place_at n t i ≡ place_at n u i) → t ≡ u
sound_same n t u right also bytes bytes_also lead places =
    tables_same n t u facts.size others.size lead
    (λ i low. line_is n t i facts.size low bytes ∙ ap line_bytes (places i low) ∙ sym (line_is n u i others.size low bytes_also))
    (λ i low. body_is n t i facts.size low bytes (zeros_are n t facts i low) ∙ ap body_bytes (places i low) ∙ sym (body_is n u i others.size low bytes_also (zeros_are n u others i low)))
  where
    facts : Sound n t
    facts = sound_is n t right

    others : Sound n u
    others = sound_is n u also
