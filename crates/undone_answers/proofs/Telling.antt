-- The loop that answers a batch of which an item failed, from the request alone: what holds between two items, how it begins, goes on and ends.
-- Assumes nothing.
use Rattle.std.specs.Prelude.{None}
use Prim.Native.Nat.{ℕ, ◌+◌, ◌-◌}
use native.Mathlib.Omega.{arith}
use mathlib.Core.Path.{◌≡◌, refl, sym, ap, subst, ◌∙◌}
use mathlib.Core.Bool.{Bool, true, false}
use mathlib.Core.List.{List, [], ◌∷◌, ◌++◌, append_assoc, append-nil}
use lib.ListN.{length, take, drop}
use lib.Dec.{eqb}
use borrow.Rule.Slice.PartMut.{put_mid, mid_of}
use Rattle.octets.specs.If.{ifb}
use Rattle.octets.specs.Octets.{part}
use Rattle.octets.proofs.If.{ifb_true, ifb_false}
use Rattle.ttlv.specs.Items.{nil, group}
use Rattle.fields.specs.Found.{body_at}
use Rattle.ttlv_put.specs.Write.{Holds}
use Rattle.tags.specs.Tags.{batch_item}
use Rattle.rules.specs.declared.Reason.{Reason}
use Rattle.batch_item.specs.Item.{Asked}
use Rattle.plans.specs.declared.Outcome.{Outcome}
use Rattle.answer.specs.Respond.{Answer, answer_items}
use Rattle.answer.specs.Front.{longest_item}
use Rattle.named_write.specs.Puts.{Puts}
use Rattle.batch.specs.Batch.{answer_with, first_item}
use Rattle.batch.specs.Runs.{asked_in, asked_from, answer_bytes, AnswersAre}
use Rattle.batch.proofs.Left.{Left, Next, all_left, no_more, next_index, rest_left}
use Rattle.batch.proofs.Written.{Written, none_written, all_written, room_next, more_written}
use Rattle.undone_answers.specs.Undone.{said_of, undone_from, undone_over, TellsOne, Tells}

-- between two items: what is answered stands in the room, and the answers to the rest make the whole
pub record Telling (whole : List Answer) (k : ℕ) (reason : Reason) (out₀ out left : List ℕ) (i at : ℕ) : Type 0 where
  pub later : List Asked
  pub done : List Answer
  pub items : Left left i later
  pub written : Written out₀ out i at done
  pub answers : done ++ undone_from i k reason later ≡ whole

-- how it begins
pub begins : {items out : List ℕ} (k : ℕ) (reason : Reason) → Tells items out → Telling (undone_over k reason items) k reason out out items first_item 0
begins {items} k reason h = record { later = asked_from items; done = []; items = all_left h.reads; written = none_written h.fits; answers = refl }

module _ {whole : List Answer} {k : ℕ} {reason : Reason} {out₀ out left : List ℕ} {i at : ℕ} (m : Telling whole k reason out₀ out left i at) where
  -- no item is left
  pub ended : body_at left batch_item ≡ None → AnswersAre whole out₀ (record { count = i; used = at }) out
  unfolding undone_from
  ended e =
      let l : m.later ≡ [] = no_more m.items e in
      all_written m.written (sym (append-nil m.done) ∙ ap (λ (x : List Asked). m.done ++ undone_from i k reason x) (sym l) ∙ m.answers) (omega (arith, m.items.few))

  module _ {next : ℕ} (x : Next m.items next) where
    -- what the next item asks
    pub next_tells : TellsOne (part left 8 (next - 8)) (mid_of at (length out - at) out)
    next_tells = record { reads = x.reads; room = room_next m.written (next_index m.items x) }

    -- it was answered
    module _ {b : Bool} {said : Outcome} {used : ℕ} {ys : List ℕ} (tested : b ≡ eqb i k) (told : said ≡ said_of b reason)
        (puts : Puts longest_item (group batch_item (answer_items (answer_with (asked_in (part left 8 (next - 8))) said)) nil) (mid_of at (length out - at) out) ys used)
        (same : length ys ≡ length (mid_of at (length out - at) out)) where
      abbrev answer : Answer
      answer = answer_with x.asked (said_of (eqb i k) reason)

      answer_is : answer_with (asked_in (part left 8 (next - 8))) said ≡ answer
      answer_is =
          ap (λ (a : Asked). answer_with a said) x.item ∙ ap (answer_with x.asked) (told ∙ ap (λ (f : Bool). said_of f reason) tested)

      written : Written out₀ (put_mid at (length out - at) out ys) (i + 1) (at + used) (m.done ++ (answer ∷ []))
      written =
          more_written m.written (next_index m.items x) answer
          (subst (λ (a : Answer). Holds (answer_bytes a) (mid_of at (length out - at) out) ys used) answer_is puts.holds) puts.few same

      -- the answers from here
      now_is : undone_from i k reason m.later ≡ ifb b (answer ∷ []) (answer ∷ undone_from (i + 1) k reason x.rest)
      unfolding undone_from
      now_is = ap (undone_from i k reason) x.split ∙ ap (λ (f : Bool). ifb f (answer ∷ []) (answer ∷ undone_from (i + 1) k reason x.rest)) (sym tested)

      -- it is the one that failed
      pub stopped : b ≡ true → AnswersAre whole out₀ (record { count = i + 1; used = at + used }) (put_mid at (length out - at) out ys)
      stopped e =
          all_written written (ap (λ (y : List Answer). m.done ++ y) (sym (now_is ∙ ifb_true b _ _ e)) ∙ m.answers)
          (let j = next_index m.items x in omega arith)

      -- the next item
      pub again : b ≡ false → Telling whole k reason out₀ (put_mid at (length out - at) out ys) (take (length left - next) (drop next left)) (i + 1) (at + used)
      again e = record {
        later = x.rest;
        done = m.done ++ (answer ∷ []);
        items = rest_left m.items x;
        written = written;
        answers =
            append_assoc m.done (answer ∷ []) (undone_from (i + 1) k reason x.rest)
            ∙ ap (λ (y : List Answer). m.done ++ y) (sym (now_is ∙ ifb_false b _ _ e)) ∙ m.answers;
      }
