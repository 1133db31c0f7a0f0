-- When two tables are the same: they have one size, and the same bytes in the lead, in every line and in every body.
-- Assumes nothing; over the number n of places.
use Prim.Native.Nat.{ℕ, zero, suc, ◌+◌, ◌*◌, ◌≤◌, ◌<◌}
use native.Mathlib.Nat.{mul-zero, mul-suc}
use native.Mathlib.Omega.{arith}
use mathlib.Core.Path.{◌≡◌, sym, ap, ap₂, ◌∙◌}
use mathlib.Core.List.{List, ◌++◌}
use lib.ListN.{length, take, drop}
use lib.Seq.{take_all, take-add, drop-drop}
use Rattle.octets.specs.Octets.{be, from_be, part, Bytes}
use Rattle.octets.proofs.Numbers.{be_from_be}
use Rattle.octets.proofs.Stores.{length_part}
use Rattle.table.specs.Layout.{lead_size, line_size, body_size, line_start, body_start, Table, last_in, places_in, latest_in}
use Rattle.table.specs.Records.{last_serial, places_said, latest_clock}
use Rattle.table.proofs.Lines.{bytes_part}

-- a part is its first bytes and then the others
part_add : (t : List ℕ) (at k w : ℕ) → part t at (k + w) ≡ part t at k ++ part t (at + k) w
part_add t at k w = take-add k w (drop at t) ∙ ap (λ (s : List ℕ). part t at k ++ take w s) (drop-drop k at t)

-- two lists with the same runs of w bytes, k of them from `at` on, have the same bytes there
runs_same : (t u : List ℕ) (at w k : ℕ) → ((i : ℕ) → i < k → part t (at + w * i) w ≡ part u (at + w * i) w) → part t at (w * k) ≡ part u at (w * k)
runs_same t u at w zero same = let e : w * 0 ≡ 0 = mul-zero w in ap (λ (m : ℕ). part t at m) e ∙ sym (ap (λ (m : ℕ). part u at m) e)
runs_same t u at w (suc k) same =
    split t ∙ ap₂ (λ (a b : List ℕ). a ++ b) (runs_same t u at w k (λ i h. same i (omega arith))) (same k (omega arith)) ∙ sym (split u)
  where
    split : (s : List ℕ) → part s at (w * suc k) ≡ part s at (w * k) ++ part s (at + w * k) w
    split s = let e : w * suc k ≡ w * k + w = mul-suc w k in ap (λ (m : ℕ). part s at m) e ∙ part_add s at (w * k) w

module _ (n : ℕ) (t u : List ℕ) (big : Table n t) (also : Table n u) where
  -- a table is its lead, its lines and its bodies
  parts : (s : List ℕ) → Table n s → s ≡ part s 0 lead_size ++ (part s lead_size (line_size * n) ++ part s (lead_size + line_size * n) (body_size * n))
  parts s size =
      sym (take_all (lead_size + (line_size * n + body_size * n)) s (omega arith))
      ∙ part_add s 0 lead_size (line_size * n + body_size * n)
      ∙ ap (λ (r : List ℕ). part s 0 lead_size ++ r) (part_add s lead_size (line_size * n) (body_size * n))

  pub tables_same : part t 0 lead_size ≡ part u 0 lead_size
      → ((i : ℕ) → i < n → part t (line_start i) line_size ≡ part u (line_start i) line_size)
      → ((i : ℕ) → i < n → part t (body_start n i) body_size ≡ part u (body_start n i) body_size)
      → t ≡ u
  tables_same lead lines bodies =
      parts t big
      ∙ ap₂ (λ (a b : List ℕ). a ++ b) lead
      (ap₂ (λ (a b : List ℕ). a ++ b) (runs_same t u lead_size line_size n lines) (runs_same t u (lead_size + line_size * n) body_size n bodies))
      ∙ sym (parts u also)

-- ---- the lead

-- so many bytes that say the same number are the same
number_same : (xs ys : List ℕ) → Bytes xs → Bytes ys → length xs ≡ length ys → from_be xs ≡ from_be ys → xs ≡ ys
number_same xs ys b c l e = sym (be_from_be xs b) ∙ ap₂ be l e ∙ be_from_be ys c

module _ (n : ℕ) (t u : List ℕ) (big : Table n t) (also : Table n u) (bytes : Bytes t) (bytes_also : Bytes u) where
  part_same : (at w : ℕ) → at + w ≤ lead_size → from_be (part t at w) ≡ from_be (part u at w) → part t at w ≡ part u at w
  part_same at w h =
      number_same (part t at w) (part u at w) (bytes_part t at w bytes) (bytes_part u at w bytes_also)
      (length_part t at w (omega arith) ∙ sym (length_part u at w (omega arith)))

  -- leads that say the same last serial, place count and latest clock are the same
  pub lead_same : last_serial t ≡ last_serial u → places_said t ≡ places_said u → latest_clock t ≡ latest_clock u → part t 0 lead_size ≡ part u 0 lead_size
  unfolding last_serial places_said latest_clock
  lead_same last said latest =
      split t
      ∙ ap₂ (λ (a b : List ℕ). a ++ b) (part_same last_in 4 (omega arith) last)
      (ap₂ (λ (a b : List ℕ). a ++ b) (part_same places_in 4 (omega arith) said) (part_same latest_in 8 (omega arith) latest))
      ∙ sym (split u)
    where
      split : (s : List ℕ) → part s 0 lead_size ≡ part s last_in 4 ++ (part s places_in 4 ++ part s latest_in 8)
      split s = part_add s 0 4 12 ∙ ap (λ (r : List ℕ). part s 0 4 ++ r) (part_add s 4 4 8)
