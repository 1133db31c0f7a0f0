-- A box that demand 3 shuts out: it replaces a destroyed key.
-- Assumes nothing. It is refuted by a call that is worked out.
use Prim.Native.Nat.{ℕ}
use native.Mathlib.Omega.{arith}
use mathlib.Core.Path.{◌≡◌, refl, sym, ap, ◌∙◌}
use mathlib.Core.Bool.{Bool, true, false, false≢true}
use mathlib.Core.List.{List, []}
use lib.Dec.{lit<}
use borrow.Author.Tests.{eqb-true}
use Rattle.hex_digits.specs.Texts.{hex}
use Rattle.octets.proofs.If.{on_bool}
use Rattle.table.specs.Layout.{small_count}
use Rattle.table.specs.Records.{place_at, blank}
use Rattle.search.specs.Search.{is_destroyed}
use Rattle.soundness.specs.Checked.{is_at}
use Rattle.rules.specs.Numbers.{rekey}
use Rattle.calls.specs.Effects.{Effect}
use Rattle.demands.specs.Box.{Call, Lent}
use Rattle.demands.specs.Demand2.{frame_of, of_frame, refusal_conditions, lowest}
use Rattle.demands.specs.Log.{Event, held_after, paired, or_no_items, or_no_answers, events_of, issued_by}
use Rattle.demands.specs.Demand3.{begins, named_by, moves_state, asks_units, asks_heir, is_made, code_of, takes, listed, Renews, Demand3}
use Rattle.cases.proofs.Cases.{opened}
use Rattle.wrong_boxes.specs.Wrong.{responding, ran_under, left_under, renewed_at, renewed_for, renewing, renewed_of, RenewsDead}
use Rattle.wrong_boxes.proofs.Calling.{is_byte, calling, lent_blank, accepted_is}
use Rattle.wrong_boxes.proofs.Ending.{last_or, is_empty, Last, Seen, seen_of, no_event, seen, seen_on, no_such_end, met_found, met_state}

-- under Continue: Create with total 100, Destroy by the placeholder, Re-key of 00000001
renew_request : List ℕ
renew_request = hex "42007801 00000130 42007701 00000048 42006901 00000020 42006A02 00000004 00000002 00000000 42006B02 00000004 00000001 00000000 42000E05 00000004 00000001 00000000 42000D02 00000004 00000003 00000000 42000F01 00000088 42005C05 00000004 00000001 00000000 42007901 00000070 42005705 00000004 00000002 00000000 42012501 00000058 42002805 00000004 00000003 00000000 42002A02 00000004 00000080 00000000 42002C02 00000004 00000004 00000000 42009501 00000020 42009703 00000008 00000000 00000064 42009805 00000004 00000002 00000000 42000F01 00000018 42005C05 00000004 00000014 00000000 42007901 00000000 42000F01 00000028 42005C05 00000004 00000004 00000000 42007901 00000010 42009407 00000008 30303030 30303031"

abbrev renew_call : Call
renew_call = calling renew_request 1

lent_renew : Lent renew_call
unfolding opened is_byte renew_request
lent_renew = lent_blank renew_request 1 refl (lit< tt)

renew_accepted : lowest 1 (refusal_conditions renew_call) ≡ 0
unfolding opened renew_request frame_of of_frame refusal_conditions lowest
renew_accepted = refl

-- identifier 2 is issued as the replacement of 1, which is destroyed
abbrev replacing : Seen
replacing =
    record { none = false; operation = rekey; code = 0; named = 1; issued = 2; made = true; moves = false; units = false; heir = true; serial = 1; state = 5; count = 100 }

renewed : Effect
renewed = responding renew_call (renewed_of renew_call).answers (renewed_of renew_call).table

renewed_seen : seen_on renew_call renewed ≡ replacing
unfolding opened renew_request renewed renewing renewed_for renewed_at left_under ran_under frame_of no_event events_of paired held_after or_no_items or_no_answers last_or is_empty seen_on seen seen_of code_of named_by issued_by moves_state asks_units asks_heir is_made
renewed_seen = refl

last_replacing : (ev : Event) (none : Bool) (v : List ℕ) → Last ev v → seen_of ev none v ≡ replacing → ⊥
unfolding seen_of is_at listed
last_replacing ev none v l e = false≢true (sym alive.live ∙ ap (λ (i : ℕ). is_destroyed (place_at small_count l.met i).state) there ∙ ap is_destroyed (met_state ev none v l _ e stays (λ from to h. false≢true h)))
  where
    -- the replacement has another serial, so it did not take place 0
    stays : takes small_count ev l.met 0 ≡ false
    stays = on_bool (takes small_count ev l.met 0)
        (λ y. absurd (let z : ◌≡◌ {A = ℕ} 1 2 = sym (ap (λ (x : Seen). x.serial) e) ∙ (l.tame.taken 0 (lit< tt) y).serial ∙ ap (λ (x : Seen). x.issued) e in omega arith))
        (λ y. y)

    alive : Renews small_count ev l.met
    alive = l.tame.renews (ap (λ (x : Seen). x.made) e) (ap (λ (x : Seen). x.heir) e)

    there : alive.place ≡ 0
    there = sym (eqb-true 0 alive.place (sym (ap (is_at alive.place) (met_found ev none v l _ e stays refl refl)) ∙ alive.named))

pub renews_dead : Demand3 RenewsDead → ⊥
unfolding renewed seen_on
renews_dead d = no_such_end replacing refl last_replacing ((d small_count refl).goes [] (blank small_count) begins renew_call renewed refl lent_renew (accepted_is renew_call renewed renew_accepted)).path renewed_seen
