-- "Sound" of an old table: the sixteen rules of 01, or the nineteen that L3 left, numbered in their order. A table is sound if none is broken.
-- Assumes nothing; over the number w of bytes in an old body. Lead and lines stand where they stand today, so a rule that reads only those is today's: `count_right`, `distinct_right`, `issued_right`, `links_right` (a link is read from its line), `latest_right`.
use Rattle.std.specs.Prelude.{ℕ, ◌+◌, Bool, not, ◌&&◌, List, [], ◌∷◌, length, eqb}
use Rattle.octets.specs.Maybe.{is_some}
use Rattle.octets.specs.Octets.{part, all_zero}
use Rattle.table.specs.declared.Record.{Record}
use Rattle.table.specs.Layout.{line_size, line_start, zeros_in}
use Rattle.table.specs.Records.{is_free, last_serial, latest_clock}
use Rattle.record_rules.specs.Rules.{state_right, bits_right, mask_right, limit_right, tail_right, wiped_right, replaced_right, replacement_right, dates_right, order_right, started_right}
use Rattle.soundness.specs.Sound.{Rule, of_table, of_places, of_standing, fault_from, count_right, latest_right, distinct_right, issued_right, links_right}
use Rattle.convert.specs.Old.{Age, plain, dated, width, old_size_of, old_body_start, old_body_at, old_place_at}

-- "size .. right"
unfoldable pub old_size_right : ℕ → ℕ → List ℕ → Bool
old_size_right w n t = eqb (length t) (old_size_of w n)

-- "zeros (8)", behind the place count in the lead of a table of 01
abbrev pub lead_zeros : List ℕ → List ℕ
lead_zeros t = part t 8 8

-- they are zero
unfoldable pub lead_right : ℕ → List ℕ → Bool
lead_right n t = all_zero (lead_zeros t)

-- "a free place zero in line and body"
unfoldable pub old_free_right : ℕ → ℕ → List ℕ → ℕ → Bool
old_free_right w n t i = all_zero (part t (line_start i) line_size) && all_zero (old_body_at w n t i)

-- a place that is free and breaks it
unfoldable pub breaks_old_free : ℕ → ℕ → List ℕ → ℕ → Bool
breaks_old_free w n t i = let right = old_free_right w n t i in is_free t i && not right

-- "in every other body the zeros field zero"
unfoldable pub old_zeros_right : ℕ → ℕ → List ℕ → ℕ → Bool
old_zeros_right w n t i = all_zero (part t (old_body_start w n i + zeros_in) 4)

-- a rule of a record by itself
abbrev pub of_old_record : ℕ → (Record → Bool) → Rule
of_old_record w rule = of_standing (λ n t i. rule (old_place_at w n t i))

-- 01's rules of places, in their order, and the rules behind them
abbrev pub place_rules : ℕ → List Rule → List Rule
place_rules w later =
    of_places (breaks_old_free w)
    ∷ of_standing (old_zeros_right w)
    ∷ of_standing distinct_right
    ∷ of_standing issued_right
    ∷ of_old_record w state_right
    ∷ of_old_record w bits_right
    ∷ of_old_record w mask_right
    ∷ of_old_record w limit_right
    ∷ of_old_record w tail_right
    ∷ of_old_record w wiped_right
    ∷ of_old_record w replaced_right
    ∷ of_standing (λ n t i. replacement_right (last_serial t) (old_place_at w n t i))
    ∷ of_standing (λ n t i. links_right n t (old_place_at w n t i))
    ∷ later

-- L3's rules, in their order
abbrev pub date_rules : ℕ → List Rule
date_rules w =
    of_old_record w dates_right
    ∷ of_table latest_right
    ∷ of_old_record w order_right
    ∷ of_standing (λ n t i. started_right (latest_clock t) (old_place_at w n t i))
    ∷ []

-- rules 1 to 16 of 01; rules 1 to 19 of L3, which has the latest clock in place of the zeros of the lead
abbrev pub old_rules : Age → List Rule
old_rules plain = of_table (old_size_right (width plain)) ∷ of_table count_right ∷ of_table lead_right ∷ place_rules (width plain) []
old_rules dated = of_table (old_size_right (width dated)) ∷ of_table count_right ∷ place_rules (width dated) (date_rules (width dated))

-- an old table of n places with no broken rule
unfoldable pub sound_old : Age → ℕ → List ℕ → Bool
sound_old age n t = not (is_some (fault_from 1 (old_rules age) n t))
