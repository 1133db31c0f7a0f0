-- Boxes that are wrong by the place count: one says another in what it leaves, and one refuses large tables.
-- Assumes nothing. Each is refuted by a call that is worked out.
use Prim.Native.Nat.{ℕ}
use native.Mathlib.Omega.{arith}
use mathlib.Core.Path.{◌≡◌, refl, sym, ap, ◌∙◌}
use mathlib.Core.Bool.{true}
use mathlib.Core.List.{List}
use lib.ListN.{length}
use lib.Dec.{eqb, lit<}
use borrow.Author.Tests.{eq-eqb}
use Rattle.octets.specs.Octets.{all}
use Rattle.octets.proofs.If.{ifb_true}
use Rattle.table.specs.Layout.{small_count, large_count}
use Rattle.table.specs.Records.{places_said, blank}
use Rattle.soundness.proofs.SoundIs.{sound_is}
use Rattle.place_counts.proofs.Counts.{count_fits, blank_right}
use Rattle.keeps.proofs.Keeps.{facts, held_blank}
use Rattle.calls.specs.Effects.{Effect}
use Rattle.engine.specs.Serving.{turned_away}
use Rattle.demands.specs.Box.{Call, Lent, places_of}
use Rattle.demands.specs.Demand2.{Demand2, frame_of, refusal_conditions, lowest}
use Rattle.demands.specs.Demand3.{begins, calls, Demand3}
use Rattle.cases.specs.Cards.{life_request}
use Rattle.cases.proofs.Cases.{opened}
use Rattle.demands_met.proofs.Ladder.{served}
use Rattle.demands_met.proofs.Follows.{in_order_lem}
use Rattle.wrong_boxes.specs.Wrong.{with_table, saying_places, SaysLarge, RefusesLarge}
use Rattle.wrong_boxes.proofs.Calling.{is_byte, calling_on, calling, lent_on, accepted_is, lent_life, life_accepted}
use Rattle.wrong_boxes.proofs.Due.{leaves_due}

-- ---- a box that says another count

abbrev life : Call
life = calling life_request 1

saying : Call → List ℕ → List ℕ
saying c due = saying_places large_count due

said : Effect
said = with_table (saying life) (served life)

said_large : places_said said.table ≡ 256
unfolding opened said saying saying_places with_table
said_large = refl

due_small : places_said (served life).table ≡ 64
unfolding opened
due_small = refl

other_count : ◌≡◌ {A = ℕ} 256 64 → ⊥
other_count e = omega arith

pub says_large : Demand2 SaysLarge → ⊥
unfolding saying said with_table
says_large d = other_count (sym said_large ∙ ap places_said (leaves_due saying d life (lent_life 1 (lit< tt)) (life_accepted 1 refl)) ∙ due_small)

pub says_large_3 : Demand3 SaysLarge → ⊥
unfolding saying said
says_large_3 d =
    let r = calls life said begins refl (lent_life 1 (lit< tt)) (accepted_is life said (life_accepted 1 refl)) in
    other_count (sym said_large ∙ (sound_is small_count said.table (in_order_lem SaysLarge small_count refl (d small_count refl) r).stays_sound).count)

-- ---- a box that refuses large tables

abbrev large : Call
large = calling_on (blank large_count) life_request 1

life_bytes : all is_byte life_request ≡ true
unfolding opened is_byte
life_bytes = refl

lent_large : Lent large
lent_large = lent_on (blank large_count) life_request 1 (held_blank large_count (count_fits large_count refl)).bytes life_bytes (lit< tt)

large_places : places_of large ≡ large_count
large_places = (facts large_count (blank large_count) (held_blank large_count (count_fits large_count refl))).count

large_accepted : lowest 1 (refusal_conditions large) ≡ 0
unfolding refusal_conditions frame_of
large_accepted = rw (blank_right large_count refl ∙ sym (blank_right small_count refl), same_size (blank large_count) ∙ sym (same_size (blank small_count))) (life_accepted 1 refl)
  where
    same_size : (s : List ℕ) → eqb (length s) (length s) ≡ true
    same_size s = eq-eqb (length s) (length s) refl

pub refuses_large : Demand2 RefusesLarge → ⊥
refuses_large d =
    let three = turned_away large.table large.output large.undo 3 in
    let q : ◌≡◌ {A = ℕ} 3 0 = d.number large three lent_large (sym (ifb_true _ three _ (eq-eqb (places_of large) large_count large_places))) ∙ large_accepted in
    omega arith
