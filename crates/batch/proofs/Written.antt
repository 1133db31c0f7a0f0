-- Answers written one behind the other into lent room.
-- Assumes nothing.
use Prim.Native.Nat.{ℕ, ◌+◌, ◌-◌, ◌*◌, ◌≤◌, ◌<◌}
use native.Mathlib.Omega.{arith}
use mathlib.Core.Path.{◌≡◌, refl, sym, ap, subst, ◌∙◌}
use mathlib.Core.List.{List, [], ◌∷◌, ◌++◌}
use lib.ListN.{length, length-append, length-take, length-drop}
use borrow.Rule.Slice.PartMut.{put_mid, mid_of}
use Rattle.octets.proofs.Over.{lent_length}
use Rattle.ttlv.specs.Items.{encode}
use Rattle.ttlv_put.specs.Write.{Holds}
use Rattle.ttlv_put.proofs.Holds.{holds_none, holds_then}
use Rattle.frame.specs.Frame.{batch_most}
use Rattle.answer.specs.Respond.{Answer, batch_items}
use Rattle.answer.specs.Front.{longest_item}
use Rattle.answer.proofs.Front.{batch_append}
use Rattle.batch.specs.Runs.{answer_bytes, answers_most, AnswersAre}

-- these answers, i of them, stand at the front of the room, and end at `at`
pub record Written (out₀ out : List ℕ) (i at : ℕ) (done : List Answer) : Type 0 where
  pub room : answers_most ≤ length out₀
  pub same : length out ≡ length out₀
  pub used : at ≤ longest_item * i
  pub count : length done ≡ i
  pub bytes : Holds (encode (batch_items done)) out₀ out at

-- at first none
pub none_written : {out : List ℕ} → answers_most ≤ length out → Written out out 0 0 []
unfolding batch_items encode
none_written {out} h = record { room = h; same = refl; used = omega arith; count = refl; bytes = holds_none out }

module _ {out₀ out : List ℕ} {i at : ℕ} {done : List Answer} (w : Written out₀ out i at done) where
  -- at last all of them
  pub all_written : {answers : List Answer} → done ≡ answers → i ≤ batch_most → AnswersAre answers out₀ (record { count = i; used = at }) out
  all_written e few = record {
    count = sym w.count ∙ ap length e;
    most = omega (arith, w.used);
    bytes = subst (λ (x : List Answer). Holds (encode (batch_items x)) out₀ out at) e w.bytes;
  }

  module _ (before : i < batch_most) where
    -- the next one has its room
    pub room_left : at ≤ length out
    room_left = omega (arith, w.used, w.same, w.room)

    pub room_next : longest_item ≤ length (mid_of at (length out - at) out)
    room_next = rw (length-take, length-drop) (omega (arith, w.used, w.same, w.room))

    -- and is written there
    pub more_written : (answer : Answer) {ys : List ℕ} {used : ℕ} → Holds (answer_bytes answer) (mid_of at (length out - at) out) ys used → used ≤ longest_item
        → length ys ≡ length (mid_of at (length out - at) out) → Written out₀ (put_mid at (length out - at) out ys) (i + 1) (at + used) (done ++ (answer ∷ []))
    unfolding batch_items
    more_written answer {ys} {used} h few l = record {
      room = w.room;
      same = lent_length at out ys l ∙ w.same;
      used = omega (arith, w.used);
      count = length-append done (answer ∷ []) ∙ ap (λ (k : ℕ). k + 1) w.count;
      bytes = subst (λ (b : List ℕ). Holds b out₀ (put_mid at (length out - at) out ys) (at + used)) (sym (batch_append done (answer ∷ []))) (holds_then w.bytes h);
    }
