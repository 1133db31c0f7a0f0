-- A whole call: which refusal is the outcome, and that an accepted request is answered where none is.
-- Assumes nothing.
use Prim.Native.Nat.{ℕ, suc, ◌-◌, ◌≤◌}
use native.Mathlib.Omega.{arith}
use mathlib.Core.Path.{◌≡◌, refl, sym, ap, subst, ◌∙◌}
use mathlib.Core.Bool.{true, false≢true}
use Rattle.std.specs.Prelude.{Option, None, Some, Ok, Err}
use mathlib.Core.List.{List}
use lib.ListN.{length, take, drop, length-drop}
use lib.Seq.{take_all}
use lib.Dec.{eqb}
use borrow.Author.Tests.{eq-eqb, ne_eqb}
use Rattle.octets.specs.If.{ifb}
use Rattle.octets.specs.Maybe.{◌>>=◌, is_some}
use Rattle.octets.proofs.If.{ifb_true, ifb_false, on_if}
use Rattle.ttlv.specs.Items.{Items}
use Rattle.ttlv.specs.Parse.{message}
use Rattle.ttlv.specs.Tree.{is_run, tree_of}
use Rattle.ttlv.proofs.Message.{message_tree}
use Rattle.table.specs.Layout.{Table, HasLead}
use Rattle.table.specs.Records.{places_said}
use Rattle.place_counts.proofs.Counts.{right_sound}
use Rattle.soundness.proofs.SoundIs.{sound_is}
use Rattle.changes.specs.Dates.{counted_clock, began}
use Rattle.refusal.specs.declared.Refusal.{Refusal}
use Rattle.refusal.specs.Numbers.{refusal_number}
use Rattle.refusal.proofs.Numbers.{number_above}
use Rattle.batch_item.specs.Item.{Asked, items_in}
use Rattle.frame.specs.Frame.{Frame, Framed, Request, refused, asked, frame_in, framing, framed, batch_most}
use Rattle.frame.specs.Readers.{Framing, items_at, framing_in, framing_of}
use Rattle.frame.proofs.Frame.{BatchShape, batch_shape}
use Rattle.plans.specs.Plans.{empty_holder}
use Rattle.batch.specs.Batch.{Ran, batch, first_item, running}
use Rattle.batch.specs.Runs.{asked_all, ran_over, RunsIn}
use Rattle.settle.specs.Undo.{settled, kept_in}
use Rattle.calls.specs.Effects.{Effect, room_least}
use Rattle.engine.specs.Serving.{turned_away, answered, requested, carry_out, serving}
use Rattle.refusals.specs.Refusals.{early_refusal, late_refusal}
use Rattle.engine.specs.Calls.{RunsWhole, accepted_over, AcceptedIs, ServedIs}
use Rattle.refusals.proofs.Early.{Passed}
use Rattle.refusals.proofs.Late.{timely}

-- ---- the ladder

-- an early refusal is the outcome
pub refused_early : (request t strip : List ℕ) (clock : ℕ) (out buffer : List ℕ) (k : ℕ) → k ≡ early_refusal request t strip (length out) → (k ≡ 0 → ⊥)
    → serving request t strip clock out buffer ≡ turned_away t out buffer k
unfolding serving
refused_early request t strip clock out buffer k e h =
    ap (λ (n : ℕ). ifb (eqb n 0) (carry_out clock t strip out buffer (requested request)) (turned_away t out buffer n)) (sym e)
    ∙ ifb_false _ _ _ (ne_eqb k 0 h)

-- where there is none, the frame decides
pub frame_decides : {request t strip out : List ℕ} → Passed request t strip out → (clock : ℕ) (buffer : List ℕ) → serving request t strip clock out buffer ≡ carry_out clock t strip out buffer (requested request)
unfolding serving
frame_decides {request} {t} {strip} {out} p clock buffer = ifb_true _ _ _ (eq-eqb (early_refusal request t strip (length out)) 0 p.none_early)

-- ---- the frame

-- a frame is refused with a number that is not 0, or taken
data Taken : Framed → Type 0 where
  not_taken : (k : ℕ) → Taken (refused (suc k))
  taken : (r : Request) → Taken (asked r)

framing_taken : (o : Option Frame) → Taken (framing o)
unfolding framing
framing_taken None = not_taken 5
framing_taken (Some f) = on_if Taken (λ e. not_taken 6) (λ e. on_if Taken (λ e. not_taken 7) (λ e. on_if Taken (λ e. not_taken 8) (λ e. taken _)))

module _ {request t strip out : List ℕ} (p : Passed request t strip out) (clock : ℕ) (buffer : List ℕ) where
  -- by the number of the frame: the refusal is the outcome, or the request that was read decides
  data Frames : ℕ → Type 0 where
    refuses : (k : ℕ) → serving request t strip clock out buffer ≡ turned_away t out buffer (suc k) → Frames (suc k)
    takes : (r : Request) → BatchShape request r → serving request t strip clock out buffer ≡ carry_out clock t strip out buffer (asked r) → Frames 0

  frames : Frames (framing_of request).number
  unfolding framing_of framing_in framed carry_out is_some ◌>>=◌
  frames = by_message (message request) refl p.is_message
    where
      decided : {items : Items} {f : Framed} → message request ≡ Some items → framed items ≡ f → serving request t strip clock out buffer ≡ carry_out clock t strip out buffer f
      decided m e = frame_decides p clock buffer ∙ ap (λ (x : Option Items). carry_out clock t strip out buffer (framing (x >>= frame_in))) m ∙ ap (carry_out clock t strip out buffer) e

      by_taken : (items : Items) → message request ≡ Some items → (f : Framed) → framed items ≡ f → Taken f → Frames (framing_of request).number
      by_taken items m f e (not_taken k) =
          subst Frames (sym (ap (λ (x : Framed). (framing_in x (items_at request)).number) (ap framed (message_tree request items m).1 ∙ e))) (refuses k (decided m e))
      by_taken items m f e (taken r) =
          subst Frames (sym (batch_shape request items r m e).number) (takes r (batch_shape request items r m e) (decided m e))

      by_message : (o : Option Items) → message request ≡ o → is_some o ≡ true → Frames (framing_of request).number
      by_message None m h = absurd (false≢true h)
      by_message (Some items) m h = by_taken items m (framed items) refl (framed_is items)
        where
          framed_is : (x : Items) → Taken (framed x)
          framed_is x = framing_taken (frame_in x)

-- ---- the batch

module _ {request : List ℕ} {r : Request} (shape : BatchShape request r) where
  -- the batch items, as they are lent
  abbrev lent_items : List ℕ
  lent_items = take (length request - (framing_of request).items) (drop (framing_of request).items request)

  lent_is : lent_items ≡ drop (framing_of request).items request
  lent_is = take_all (length request - (framing_of request).items) (drop (framing_of request).items request) (rw length-drop (omega arith))

  lent_asks : items_in (tree_of lent_items) ≡ Some r.items
  lent_asks = ap (λ (u : List ℕ). items_in (tree_of u)) lent_is ∙ shape.items

  -- what answering asks
  runs : {t strip out : List ℕ} → Passed request t strip out → RunsIn (places_said t) room_least lent_items t strip out
  unfolding is_some asked_all
  runs {t} p = record {
    carries = record {
      reads = record {
        run = ap is_run lent_is ∙ shape.run;
        read = ap is_some lent_asks;
        few = subst (λ (o : Option (List Asked)). length (asked_all o) ≤ batch_most) (sym lent_asks) shape.few;
      };
      table = (sound_is (places_said t) t (right_sound t p.right)).size;
      strip = p.strip_size;
    };
    fits = p.room;
  }

  -- a batch of these items is the one that was asked for
  ran_is : (n : ℕ) (strip t : List ℕ) → ran_over n lent_items strip (framing_of request).option t ≡ running n strip t r
  unfolding running asked_all
  ran_is n strip t =
      ap (λ (o : Option (List Asked)). batch n strip (framing_of request).option first_item empty_holder t (asked_all o)) lent_asks
      ∙ ap (λ (k : ℕ). batch n strip k first_item empty_holder t r.items) shape.option

-- ---- what `serve` answers

-- a call that is turned away
away_is : {request t strip : List ℕ} {clock : ℕ} {out buffer : List ℕ} (r : Refusal) → serving request t strip clock out buffer ≡ turned_away t out buffer (refusal_number r)
    → ServedIs request t strip clock out buffer (Err r) t out buffer
away_is r e = record {
  number = sym (ap (λ (x : Effect). x.number) e);
  length = sym (ap (λ (x : Effect). x.length) e);
  table = sym (ap (λ (x : Effect). x.table) e);
  output = sym (ap (λ (x : Effect). x.output) e);
  undo = sym (ap (λ (x : Effect). x.undo) e);
}

pub early_away : (request t strip : List ℕ) (clock : ℕ) (out buffer : List ℕ) (r : Refusal) → refusal_number r ≡ early_refusal request t strip (length out)
    → ServedIs request t strip clock out buffer (Err r) t out buffer
early_away request t strip clock out buffer r e = away_is r (refused_early request t strip clock out buffer (refusal_number r) e (number_above r))

-- a call to which refusals 1 to 9 do not apply: the frame says where its items stand
pub record Asks (request t strip : List ℕ) (clock : ℕ) (out buffer : List ℕ) (f : Framing) : Type 0 where
  pub passed : Passed request t strip out
  pub framing_is : f ≡ framing_of request
  pub request_is : Request
  pub shape : BatchShape request request_is
  pub decides : serving request t strip clock out buffer ≡ carry_out clock t strip out buffer (asked request_is)

module _ {request t strip out : List ℕ} (p : Passed request t strip out) (clock : ℕ) (buffer : List ℕ) {f : Framing} (e : f ≡ framing_of request) where
  frames_by : Frames p clock buffer f.number
  frames_by = subst (λ (x : Framing). Frames p clock buffer x.number) (sym e) (frames p clock buffer)

  pub frame_away : (r : Refusal) → refusal_number r ≡ f.number → ServedIs request t strip clock out buffer (Err r) t out buffer
  frame_away r same = away_is r (go frames_by same)
    where
      go : {n : ℕ} → Frames p clock buffer n → refusal_number r ≡ n → serving request t strip clock out buffer ≡ turned_away t out buffer (refusal_number r)
      go (refuses j q) same = q ∙ ap (turned_away t out buffer) (sym same)
      go (takes x s q) same = absurd (number_above r same)

  pub frame_asks : f.number ≡ 0 → Asks request t strip clock out buffer f
  frame_asks z = go frames_by z
    where
      go : {n : ℕ} → Frames p clock buffer n → n ≡ 0 → Asks request t strip clock out buffer f
      go (refuses j q) z = absurd (omega arith)
      go (takes r s q) z = record { passed = p; framing_is = e; request_is = r; shape = s; decides = q }

module _ {request t strip : List ℕ} {clock : ℕ} {out buffer : List ℕ} {f : Framing} (a : Asks request t strip clock out buffer f) where
  -- where the batch items start
  pub from_within : f.items ≤ length request
  from_within = subst (λ (x : Framing). x.items ≤ length request) (sym a.framing_is) a.shape.within

  -- the batch items, as they are lent
  abbrev items : Framing → List ℕ
  items x = take (length request - x.items) (drop x.items request)

  -- the table is as large as its lead says, so the lead is there
  sized : Table (places_said t) t
  sized = (sound_is (places_said t) t (right_sound t a.passed.right)).size

  pub lead_there : HasLead t
  lead_there = omega (arith, sized)

  -- by whether a late refusal applies, as the code tests it; the clock is given as the same 64 bits
  module _ {bits late : ℕ} (same : bits ≡ clock) (e : late ≡ late_refusal bits (length t) (length buffer)) where
    late_is : late ≡ late_refusal clock (length t) (length buffer)
    late_is = e ∙ ap (λ (k : ℕ). late_refusal k (length t) (length buffer)) same

    -- refusals 10 and 11
    pub late_away : (r : Refusal) → refusal_number r ≡ late → ServedIs request t strip clock out buffer (Err r) t out buffer
    unfolding carry_out
    late_away r k =
        let h : late ≡ 0 → ⊥ = λ z. number_above r (k ∙ z) in
        away_is r (a.decides ∙ ifb_false _ _ _ (ne_eqb (late_refusal clock (length t) (length buffer)) 0 (λ z. h (late_is ∙ z))) ∙ ap (turned_away t out buffer) (sym (k ∙ late_is)))

    module _ (not_late : late ≡ 0) where
      none_late : late_refusal clock (length t) (length buffer) ≡ 0
      none_late = sym late_is ∙ not_late

      -- with the places that the lead says, as they were read
      module _ {n : ℕ} (places : n ≡ places_said t) where
        pub runs_from : RunsWhole n (items f) t strip out buffer
        runs_from =
            subst (λ (k : ℕ). RunsWhole k (items f) t strip out buffer) (sym places)
            (subst (λ (x : Framing). RunsWhole (places_said t) (items x) t strip out buffer) (sym a.framing_is)
            (record { runs = runs a.shape a.passed; sized = (timely clock (length t) (length buffer) none_late).sized }))

        ran_from_lem : (k : ℕ) (u : List ℕ) → ran_over k (items f) strip f.option u ≡ running k strip u a.request_is
        ran_from_lem k u = subst (λ (x : Framing). ran_over k (items x) strip x.option u ≡ running k strip u a.request_is) (sym a.framing_is) (ran_is a.shape k strip u)

        option_is : f.option ≡ a.request_is.option
        option_is = ap (λ (x : Framing). x.option) a.framing_is ∙ a.shape.option

        whole : accepted_over n (items f) strip f.option bits t out buffer ≡ serving request t strip clock out buffer
        unfolding carry_out
        whole =
            ap (λ (k : ℕ). accepted_over k (items f) strip f.option bits t out buffer) places
            ∙ ap (λ (k : ℕ). accepted_over (places_said t) (items f) strip f.option k t out buffer) same
            ∙ ap (λ (y : Ran). answered (counted_clock clock t) out (kept_in f.option start buffer) (settled f.option start y)) (ran_from_lem (places_said t) start)
            ∙ ap (λ (k : ℕ). answered (counted_clock clock t) out (kept_in k start buffer) (settled k start (running (places_said t) strip start a.request_is))) option_is
            ∙ sym (a.decides ∙ ifb_true _ _ _ (eq-eqb (late_refusal clock (length t) (length buffer)) 0 none_late))
          where
            start : List ℕ
            start = began (places_said t) (counted_clock clock t) t

        -- none
        pub served_is : {length : ℕ} {t' out' buffer' : List ℕ} → AcceptedIs (accepted_over n (items f) strip f.option bits t out buffer) length t' out' buffer'
            → ServedIs request t strip clock out buffer (Ok length) t' out' buffer'
        unfolding answered
        served_is is = record {
          number = ap (λ (x : Effect). x.number) whole;
          length = is.length ∙ ap (λ (x : Effect). x.length) whole;
          table = is.table ∙ ap (λ (x : Effect). x.table) whole;
          output = is.output ∙ ap (λ (x : Effect). x.output) whole;
          undo = is.undo ∙ ap (λ (x : Effect). x.undo) whole;
        }
