-- A batch under its option, from the answers of the functions that copy the table, try the batch, run it and answer it.
-- Assumes nothing.
use Rattle.std.specs.Prelude.{Option, None, Some}
use Prim.Native.Nat.{ℕ}
use mathlib.Core.Path.{◌≡◌, refl, sym, ap, subst, ◌∙◌}
use mathlib.Core.List.{List, map}
use lib.ListN.{length}
use lib.Seq.{sets}
use Rattle.octets.proofs.Stores.{sets_whole}
use Rattle.rules.specs.declared.Reason.{Reason}
use Rattle.frame.specs.Frame.{undo}
use Rattle.plans.specs.Plans.{empty_holder}
use Rattle.answer.specs.Respond.{Answer}
use Rattle.batch.specs.declared.BatchDone.{BatchDone}
use Rattle.batch.specs.Batch.{Ran, first_item}
use Rattle.batch.specs.Runs.{asked_from, AnswersAre, RanIs, ran_over}
use Rattle.undone_answers.specs.Undone.{undone_to, undone_over}
use Rattle.settle.specs.Trials.{fails_at, first_failure, TriedIs, Settles, SettledIs}
use Rattle.settle.proofs.Undo.{fails_any, passes_none, undone_is, settled_other, kept_other, kept_undo, settled_none, settled_any}

module _ {n : ℕ} {items t fresh out buffer : List ℕ} (asks : Settles n items t fresh out buffer) {option : ℕ} where
  -- another option than Undo: the batch was run
  pub other_is : {r : BatchDone} {t' out' : List ℕ} → (option ≡ undo → ⊥) → RanIs (ran_over n items fresh option t) out r t' out'
      → SettledIs option (ran_over n items fresh option t) t out buffer r t' out' buffer
  other_is {r} {t'} {out'} h is = record {
    left = subst (λ (y : Ran). RanIs y out r t' out') (sym (settled_other option t (ran_over n items fresh option t) h)) is;
    kept = sym (kept_other option t buffer h);
  }

  -- Undo: the table was copied, the batch was tried on the copy, and the table was copied again
  module _ {copy tried again : List ℕ} {trial : Option (ℕ × Reason)} (e : option ≡ undo) (first : copy ≡ sets buffer 0 t) (is : TriedIs (ran_over n items fresh undo copy) trial tried)
      (same : length tried ≡ length copy) (second : again ≡ sets tried 0 t) where
    copy_is : copy ≡ t
    copy_is = first ∙ sets_whole buffer t (sym asks.sized)

    again_is : again ≡ t
    again_is = second ∙ sets_whole tried t (sym (same ∙ ap length copy_is))

    -- the try was of this batch
    trial_is : TriedIs (ran_over n items fresh option t) trial tried
    trial_is =
        subst (λ (k : ℕ). TriedIs (ran_over n items fresh k t) trial tried) (sym e)
        (subst (λ (u : List ℕ). TriedIs (ran_over n items fresh undo u) trial tried) copy_is is)

    -- no item fails: the batch was run on the table
    pub passes_is : {r : BatchDone} {t' out' : List ℕ} → trial ≡ None → RanIs (ran_over n items fresh option t) out r t' out'
        → SettledIs option (ran_over n items fresh option t) t out buffer r t' out' again
    passes_is {r} {t'} {out'} p ran =
        let whole = ran_over n items fresh option t in
        record {
          left = subst (λ (y : Ran). RanIs y out r t' out') (sym (settled_none e t whole (passes_none first_item whole.answers (sym trial_is.trial ∙ p)))) ran;
          kept = again_is ∙ sym (kept_undo e t buffer);
        }

    -- one fails: the batch was answered from the request alone
    pub fails_is : {r : BatchDone} {out' : List ℕ} (k : ℕ) (reason : Reason) → trial ≡ fails_at k reason → AnswersAre (undone_over k reason items) out r out'
        → SettledIs option (ran_over n items fresh option t) t out buffer r t out' again
    fails_is {r} {out'} k reason p told =
        let whole = ran_over n items fresh option t in
        let failed = sym trial_is.trial ∙ p in
        let answers : undone_over k reason items ≡ map undone_to whole.answers =
        sym (subst (λ (o : ℕ). first_failure first_item (ran_over n items fresh o t).answers ≡ fails_at k reason → map undone_to (ran_over n items fresh o t).answers ≡ undone_over k reason items) (sym e)
        (undone_is n fresh k reason (asked_from items) first_item empty_holder t) failed) in
        record {
          left =
              subst (λ (y : Ran). RanIs y out r t out') (sym (settled_any e t whole (fails_any first_item whole.answers failed)))
              (record { table = refl; answers = subst (λ (y : List Answer). AnswersAre y out r out') answers told });
          kept = again_is ∙ sym (kept_undo e t buffer);
        }
