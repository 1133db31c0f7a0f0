-- A box that 00 warns of and that demand 3 shuts out: it grants units of a destroyed key.
-- Assumes nothing. It is refuted by a call that is worked out.
use Prim.Native.Nat.{ℕ}
use native.Mathlib.Omega.{arith}
use mathlib.Core.Path.{◌≡◌, refl, sym, ap, ◌∙◌}
use mathlib.Core.Bool.{Bool, true, false, false≢true}
use mathlib.Core.List.{List, []}
use lib.Dec.{lit<}
use Rattle.hex_digits.specs.Texts.{hex}
use Rattle.table.specs.Layout.{small_count}
use Rattle.table.specs.Records.{place_at, blank}
use Rattle.soundness.specs.Checked.{is_at}
use Rattle.rules.specs.Numbers.{get_usage_allocation}
use Rattle.calls.specs.Effects.{Effect}
use Rattle.demands.specs.Box.{Call, Lent}
use Rattle.demands.specs.Demand2.{frame_of, of_frame, refusal_conditions, lowest}
use Rattle.demands.specs.Log.{Event, held_after, paired, or_no_items, or_no_answers, events_of, issued_by}
use Rattle.demands.specs.Demand3.{begins, named_by, moves_state, asks_units, asks_heir, is_made, code_of, takes, listed, Demand3}
use Rattle.cases.proofs.Cases.{opened}
use Rattle.wrong_boxes.specs.Wrong.{responding, ran_under, left_under, spent_at, spent_for, spending, spent_of, GrantsDead}
use Rattle.wrong_boxes.proofs.Calling.{is_byte, calling, lent_blank, accepted_is}
use Rattle.wrong_boxes.proofs.Ending.{last_or, is_empty, Last, Seen, seen_of, no_event, seen, seen_on, no_such_end, untaken, met_found, met_state}

-- under Continue: Create with total 100, Activate, Revoke and Destroy by the placeholder, and 5 units asked for 00000001
dead_request : List ℕ
dead_request = hex "42007801 00000198 42007701 00000048 42006901 00000020 42006A02 00000004 00000002 00000000 42006B02 00000004 00000001 00000000 42000E05 00000004 00000001 00000000 42000D02 00000004 00000005 00000000 42000F01 00000088 42005C05 00000004 00000001 00000000 42007901 00000070 42005705 00000004 00000002 00000000 42012501 00000058 42002805 00000004 00000003 00000000 42002A02 00000004 00000080 00000000 42002C02 00000004 00000004 00000000 42009501 00000020 42009703 00000008 00000000 00000064 42009805 00000004 00000002 00000000 42000F01 00000018 42005C05 00000004 00000012 00000000 42007901 00000000 42000F01 00000030 42005C05 00000004 00000013 00000000 42007901 00000018 42008101 00000010 42008205 00000004 00000005 00000000 42000F01 00000018 42005C05 00000004 00000014 00000000 42007901 00000000 42000F01 00000038 42005C05 00000004 00000011 00000000 42007901 00000020 42009407 00000008 30303030 30303031 42009603 00000008 00000000 00000005"

abbrev dead_call : Call
dead_call = calling dead_request 1

lent_dead : Lent dead_call
unfolding opened is_byte dead_request
lent_dead = lent_blank dead_request 1 refl (lit< tt)

dead_accepted : lowest 1 (refusal_conditions dead_call) ≡ 0
unfolding opened dead_request frame_of of_frame refusal_conditions lowest
dead_accepted = refl

-- units are granted to the key with serial 1, which is destroyed and has 95 left
abbrev granting : Seen
granting =
    record { none = false; operation = get_usage_allocation; code = 0; named = 1; issued = 0; made = true; moves = false; units = true; heir = false; serial = 1; state = 5; count = 95 }

spent : Effect
spent = responding dead_call (spent_of dead_call).answers (spent_of dead_call).table

spent_seen : seen_on dead_call spent ≡ granting
unfolding opened dead_request spent spending spent_for spent_at left_under ran_under frame_of no_event events_of paired held_after or_no_items or_no_answers last_or is_empty seen_on seen seen_of code_of named_by issued_by moves_state asks_units asks_heir is_made
spent_seen = refl

-- the item left the key destroyed, and moves no state: so it met it destroyed, and not Active
last_granting : (ev : Event) (none : Bool) (v : List ℕ) → Last ev v → seen_of ev none v ≡ granting → ⊥
unfolding seen_of is_at listed
last_granting ev none v l e = (let z : ◌≡◌ {A = ℕ} 2 5 = sym active ∙ met_state ev none v l _ e stays (λ from to h. false≢true h) in omega arith)
  where
    stays : takes small_count ev l.met 0 ≡ false
    stays = untaken ev none v l _ e refl

    active : (place_at small_count l.met 0).state ≡ 2
    active = l.tame.spends 0 (lit< tt) (ap (is_at 0) (met_found ev none v l _ e stays refl refl)) (ap (λ (x : Seen). x.made) e) (ap (λ (x : Seen). x.units) e)

pub grants_dead : Demand3 GrantsDead → ⊥
unfolding spent seen_on
grants_dead d = no_such_end granting refl last_granting ((d small_count refl).goes [] (blank small_count) begins dead_call spent refl lent_dead (accepted_is dead_call spent dead_accepted)).path spent_seen
