-- A box that loses a key's name.
-- Assumes nothing. It is refuted by a call that is worked out: keys are created under the names "a" and "b".
use Prim.Native.Nat.{ℕ}
use native.Mathlib.Omega.{arith}
use mathlib.Core.Path.{◌≡◌, refl, sym, ap, ◌∙◌}
use mathlib.Core.List.{List, []}
use lib.Dec.{lit<}
use Rattle.names.specs.declared.Name.{Name}
use Rattle.table.specs.Layout.{small_count}
use Rattle.table.specs.Records.{place_at, with_place, serial_at}
use Rattle.calls.specs.Effects.{Effect}
use Rattle.demands.specs.Box.{Call, places_of}
use Rattle.demands.specs.Demand2.{Demand2}
use Rattle.demands.specs.Log.{held_after, paired, or_no_items, or_no_answers, events_of, onto, logged, issued_by, name_by, heir_from, name_in}
use Rattle.demands.specs.Demand3.{begins, calls, Stands, Demand3}
use Rattle.cases.proofs.Cases.{opened}
use Rattle.demands_met.proofs.Ladder.{served}
use Rattle.demands_met.proofs.Plainly.{plainly}
use Rattle.wrong_boxes.specs.Wrong.{with_table, unnamed, LosesName}
use Rattle.wrong_boxes.proofs.Given.{name_request, name_call, lent_name, name_accepted}
use Rattle.wrong_boxes.proofs.Calling.{accepted_is}
use Rattle.wrong_boxes.proofs.Due.{leaves_due}

losing : Call → List ℕ → List ℕ
losing c due = with_place (places_of c) due 0 (unnamed (place_at (places_of c) due 0))

lost_name : (place_at small_count (losing name_call (served name_call).table) 0).name.len ≡ 0
unfolding opened name_request losing unnamed
lost_name = refl

due_name : (place_at small_count (served name_call).table 0).name.len ≡ 1
unfolding opened name_request
due_name = refl

pub loses_name : Demand2 LosesName → ⊥
unfolding losing
loses_name d =
    let z : ◌≡◌ {A = ℕ} 0 1 =
    sym lost_name ∙ ap (λ (t : List ℕ). (place_at small_count t 0).name.len) (leaves_due losing d name_call lent_name name_accepted) ∙ due_name in
    omega arith

-- demand 3 by itself shuts it out: by the log the key has a name
lost : Effect
lost = with_table (losing name_call) (served name_call)

lost_serial : serial_at lost.table 0 ≡ 1
unfolding opened name_request lost losing unnamed with_table
lost_serial = refl

lost_told : (name_in 1 (logged name_call lost [])).len ≡ 1
unfolding opened name_request lost losing with_table logged onto events_of paired held_after or_no_items or_no_answers issued_by name_by heir_from name_in
lost_told = refl

pub loses_name_3 : Demand3 LosesName → ⊥
unfolding losing lost with_table
loses_name_3 d =
    let r = calls name_call lost begins refl lent_name (accepted_is name_call lost name_accepted) in
    let there : Stands small_count 1 lost.table 0 = record { below = lit< tt; serial = lost_serial } in
    let z : ◌≡◌ {A = ℕ} 0 1 =
    sym lost_name ∙ ap (λ (m : Name). m.len) ((plainly LosesName d small_count refl).named r 1 0 (λ z. omega arith) there) ∙ lost_told in
    omega arith
