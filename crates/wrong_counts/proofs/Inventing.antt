-- A box that 00 warns of and that demand 3 shuts out: it invents a usage count, so that more can be granted than the total.
-- Assumes nothing. It is refuted by a call that is worked out.
use Prim.Native.Nat.{ℕ, ◌+◌}
use native.Mathlib.Omega.{arith}
use mathlib.Core.Path.{◌≡◌, refl, sym, ap, ◌∙◌}
use mathlib.Core.List.{List, []}
use lib.Dec.{lit<}
use Rattle.table.specs.Layout.{small_count}
use Rattle.table.specs.Records.{place_at, serial_at}
use Rattle.calls.specs.Effects.{Effect}
use Rattle.demands.specs.Box.{Call}
use Rattle.demands.specs.Log.{Event, held_after, paired, or_no_items, or_no_answers, events_of, onto, logged, issued_by, grant_by, granted, limit_by, limit}
use Rattle.demands.specs.Demand3.{begins, calls, Demand3}
use Rattle.wrong_boxes.specs.Wrong.{with_table, refilled, InventsCount}
use Rattle.cases.proofs.Cases.{opened}
use Rattle.demands_met.proofs.Ladder.{served}
use Rattle.demands_met.proofs.Plainly.{plainly}
use Rattle.wrong_boxes.proofs.Calling.{accepted_is, grant_call, lent_grant, grant_accepted}

-- what that box leaves
invented : Effect
invented = with_table refilled (served grant_call)

-- what the log says of identifier 1 behind a call on a blank table, and what the record at place 0 says
record Sums : Type 0 where
  pub serial : ℕ
  pub spent : ℕ
  pub begun : ℕ

sums : List Event → List ℕ → Sums
sums log t = record { serial = serial_at t 0; spent = granted 1 log + (place_at small_count t 0).count; begun = limit 1 log }

sums_of : Call → Effect → Sums
sums_of c e = sums (logged c e []) e.table

-- 60 and 40 are granted of 100, and the count says 100
two_hundred : sums_of grant_call invented ≡ record { serial = 1; spent = 200; begun = 100 }
unfolding opened invented with_table refilled sums_of sums logged onto events_of paired held_after or_no_items or_no_answers granted grant_by limit limit_by issued_by
two_hundred = refl

pub invents_count : Demand3 InventsCount → ⊥
unfolding invented sums_of sums
invents_count d =
    let r = calls grant_call invented begins refl lent_grant (accepted_is grant_call invented grant_accepted) in
    let b = (plainly InventsCount d small_count refl).counted r 1 0 (λ z. omega arith) (record { below = lit< tt; serial = ap (λ (s : Sums). s.serial) two_hundred }) in
    let z : ◌≡◌ {A = ℕ} 200 100 = sym (ap (λ (s : Sums). s.spent) two_hundred) ∙ b ∙ ap (λ (s : Sums). s.begun) two_hundred in
    omega arith
