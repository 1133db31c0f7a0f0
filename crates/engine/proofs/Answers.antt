-- An accepted request, from the answers of the functions that make it up: what is due is done, the batch is run, the front is written.
-- Assumes nothing.
use Prim.Native.Nat.{ℕ, ◌+◌, ◌-◌, ◌*◌, ◌%◌, ◌≤◌}
use native.Mathlib.Omega.{arith}
use mathlib.Core.Path.{◌≡◌, refl, sym, ap, subst, ◌∙◌}
use mathlib.Core.List.{List, ◌++◌}
use lib.ListN.{length, length-append, length-drop, length-take}
use borrow.Rule.Slice.PartMut.{put_mid, mid_of}
use Rattle.octets.specs.Octets.{over}
use Rattle.octets.proofs.Over.{lent, over_front}
use Rattle.ttlv.specs.Items.{encode}
use Rattle.ttlv.proofs.Back.{eights}
use Rattle.changes.specs.Dates.{counted_clock, began}
use Rattle.changes.proofs.Sweep.{length_began}
use Rattle.frame.specs.Frame.{batch_most}
use Rattle.answer.specs.Respond.{respond, batch_items}
use Rattle.answer.specs.Front.{longest_item, frame_size, front}
use Rattle.answer.proofs.Front.{frame_size_lem, respond_splits}
use Rattle.batch.specs.declared.BatchDone.{BatchDone}
use Rattle.batch.specs.Batch.{Ran}
use Rattle.batch.specs.Runs.{RanIs, ran_over}
use Rattle.settle.specs.Undo.{settled, kept_in}
use Rattle.settle.specs.Trials.{Settles, SettledIs}
use Rattle.engine.specs.Serving.{response_to, answered}
use Rattle.engine.specs.Calls.{RunsWhole, accepted_over, AcceptedIs}

-- ---- a batch that ran behind the front

-- the room behind the front, as it is lent
abbrev pub behind : List ℕ → List ℕ
behind out = mid_of frame_size (length out - frame_size) out

module _ {ran : Ran} (out : List ℕ) {t' ys : List ℕ} {done : BatchDone} (is : RanIs ran (behind out) done t' ys) where
  -- what the front asks
  pub front_asks : (done.used ≤ batch_most * longest_item) × (done.used % 8 ≡ 0)
  front_asks = (is.answers.most, subst (λ (k : ℕ). k % 8 ≡ 0) (sym is.answers.bytes.size) (eights (batch_items ran.answers)))

  module _ (clock : ℕ) (room : frame_size ≤ length out) {out' : List ℕ}
      (fronted : out' ≡ over (front clock done.count done.used) (put_mid frame_size (length out - frame_size) out ys)) where
    split : encode (respond (response_to clock ran)) ≡ front clock done.count done.used ++ encode (batch_items ran.answers)
    split =
        respond_splits (response_to clock ran)
        ∙ ap (λ (k : ℕ). front clock (length ran.answers) k ++ encode (batch_items ran.answers)) (sym is.answers.bytes.size)
        ∙ ap (λ (k : ℕ). front clock k done.used ++ encode (batch_items ran.answers)) (sym is.answers.count)

    length_is : frame_size + done.used ≡ length (encode (respond (response_to clock ran)))
    length_is = sym (ap length split ∙ length-append (front clock done.count done.used) (encode (batch_items ran.answers))
        ∙ rw (frame_size_lem clock done.count done.used, is.answers.bytes.size))

    output_is : out' ≡ over (encode (respond (response_to clock ran))) out
    output_is =
        fronted
        ∙ ap (over (front clock done.count done.used)) (lent frame_size (encode (batch_items ran.answers)) out ys is.answers.bytes.bytes)
        ∙ over_front frame_size (encode (batch_items ran.answers)) (front clock done.count done.used) out (frame_size_lem clock done.count done.used) room
        ∙ ap (λ (b : List ℕ). over b out) (sym split)

    answered_is : (buffer : List ℕ) → AcceptedIs (answered clock out buffer ran) (frame_size + done.used) t' out' buffer
    unfolding answered
    answered_is buffer = record { length = length_is; table = is.table; output = output_is; undo = refl }

-- ---- the whole

module _ {n : ℕ} {items t strip out buffer : List ℕ} (asks : RunsWhole n items t strip out buffer) (clock : ℕ) where
  -- the front has its room
  pub front_fits : frame_size ≤ length out
  front_fits = omega (arith, asks.runs.fits)

  -- with the table before the first item
  module _ {u : List ℕ} (e : u ≡ began n (counted_clock clock t) t) where
    same_size : length u ≡ length t
    same_size = ap length e ∙ length_began n (counted_clock clock t) t

    -- what the batch asks of it
    pub settles_behind : Settles n items u strip (behind out) buffer
    settles_behind = record {
      runs = record {
        carries = record { reads = asks.runs.carries.reads; table = same_size ∙ asks.runs.carries.table; strip = asks.runs.carries.strip };
        fits = rw (length-take, length-drop) (omega (arith, asks.runs.fits));
      };
      sized = asks.sized ∙ sym same_size;
    }

    pub accepted_is : (option : ℕ) {counted : ℕ} {t' ys out' buffer' : List ℕ} {done : BatchDone} → counted ≡ counted_clock clock t
        → SettledIs option (ran_over n items strip option u) u (behind out) buffer done t' ys buffer'
        → out' ≡ over (front counted done.count done.used) (put_mid frame_size (length out - frame_size) out ys)
        → AcceptedIs (accepted_over n items strip option clock t out buffer) (frame_size + done.used) t' out' buffer'
    accepted_is option {counted} {t'} {ys} {out'} {buffer'} {done} c is w =
        let start = began n (counted_clock clock t) t in
        let left : RanIs (settled option start (ran_over n items strip option start)) (behind out) done t' ys =
        subst (λ (v : List ℕ). RanIs (settled option v (ran_over n items strip option v)) (behind out) done t' ys) e is.left in
        let kept : kept_in option start buffer ≡ buffer' = sym (is.kept ∙ ap (λ (v : List ℕ). kept_in option v buffer) e) in
        subst (AcceptedIs (accepted_over n items strip option clock t out buffer) (frame_size + done.used) t' out') kept
        (answered_is out left (counted_clock clock t) front_fits (w ∙ ap (λ (k : ℕ). over (front k done.count done.used) (put_mid frame_size (length out - frame_size) out ys)) c)
        (kept_in option start buffer))
