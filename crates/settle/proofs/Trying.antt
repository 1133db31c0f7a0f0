-- The loop that tries a batch: what holds between two items, how it begins, goes on and ends.
-- Assumes nothing.
use Rattle.std.specs.Prelude.{Option, None, Some}
use Prim.Native.Nat.{ℕ, ◌+◌, ◌-◌, ◌*◌}
use mathlib.Core.Path.{◌≡◌, refl, sym, ap, subst, ◌∙◌}
use mathlib.Core.Bool.{true, false}
use mathlib.Core.List.{List, []}
use lib.ListN.{length, take, drop}
use Rattle.octets.specs.If.{ifb}
use Rattle.octets.specs.Octets.{part}
use Rattle.octets.proofs.If.{ifb_true, ifb_false}
use Rattle.fields.specs.Found.{body_at}
use Rattle.table.specs.Layout.{Table, material_size}
use Rattle.tags.specs.Tags.{batch_item}
use Rattle.rules.specs.declared.Reason.{Reason}
use Rattle.batch_item.specs.Item.{Asked}
use Rattle.frame.specs.Frame.{undo}
use Rattle.plans.specs.Plans.{Did, empty_holder, is_failed}
use Rattle.answer.specs.Respond.{Answer}
use Rattle.batch.specs.declared.Carried.{Carried}
use Rattle.batch.specs.Batch.{Ran, answer_to, lastly, firstly, ends_batch, batch, first_item}
use Rattle.calls.specs.Effects.{strip_size}
use Rattle.batch.specs.Runs.{asked_in, asked_from, doing, CarriesOne, CarriedIs, Carries, ran_over}
use Rattle.batch.proofs.Left.{Left, Next, all_left, no_more, rest_left}
use Rattle.batch.proofs.Turns.{lent_part, own_part, batch_turn}
use Rattle.settle.specs.Trials.{fails_at, failure_of, fails_or, first_failure, TriedIs}
use Rattle.settle.proofs.Undo.{Fails, failed, fine, fails, ends_undo}

-- between two items none has failed, and the rest of the batch from here decides
pub record Trying (n : ℕ) (whole : Ran) (fresh t left : List ℕ) (i holder : ℕ) : Type 0 where
  pub later : List Asked
  pub items : Left left i later
  pub table : Table n t
  pub strip : length fresh ≡ strip_size
  pub trial : first_failure i (batch n fresh undo i holder t later).answers ≡ first_failure first_item whole.answers
  pub tables : (batch n fresh undo i holder t later).table ≡ whole.table

-- how it begins
pub begins : {n : ℕ} {items t fresh : List ℕ} → Carries n items t fresh → Trying n (ran_over n items fresh undo t) fresh t items first_item empty_holder
begins {n} {items} h = record { later = asked_from items; items = all_left h.reads; table = h.table; strip = h.strip; trial = refl; tables = refl }

module _ {n : ℕ} {whole : Ran} {fresh t left : List ℕ} {i holder : ℕ} (m : Trying n whole fresh t left i holder) where
  -- no item is left, and none failed
  pub ended : body_at left batch_item ≡ None → TriedIs whole None t
  unfolding batch first_failure
  ended e =
      let l : m.later ≡ [] = no_more m.items e in
      record {
        trial = ap (λ (x : List Asked). first_failure i (batch n fresh undo i holder t x).answers) (sym l) ∙ m.trial;
        table = ap (λ (x : List Asked). (batch n fresh undo i holder t x).table) (sym l) ∙ m.tables;
      }

  module _ {next : ℕ} (x : Next m.items next) where
    -- what the next item asks
    pub next_carries : CarriesOne n (part left 8 (next - 8)) t
    next_carries = record { reads = x.reads; table = m.table }

    -- what became of it, with its body and its part of the strip as they are lent
    module _ {r : Carried} {t' : List ℕ} (Lent-is : CarriedIs n (asked_in (part left 8 (next - 8))) t (lent_part fresh i) holder r t') where
      abbrev did : Did
      did = doing n x.asked (part fresh (material_size * i) material_size) holder t

      abbrev answer : Answer
      answer = answer_to x.asked (doing n x.asked (part fresh (material_size * i) material_size) holder t)

      is : CarriedIs n x.asked t (part fresh (material_size * i) material_size) holder r t'
      is =
          subst (λ (a : Asked). CarriedIs n a t (part fresh (material_size * i) material_size) holder r t') x.item
          (subst (λ (own : List ℕ). CarriedIs n (asked_in (part left 8 (next - 8))) t own holder r t') (own_part fresh i) Lent-is)

      -- the batch from here
      now_is : batch n fresh undo i holder t m.later ≡ ifb (ends_batch undo did) (lastly answer did.table) (firstly answer (batch n fresh undo (i + 1) did.holder did.table x.rest))
      now_is = ap (batch n fresh undo i holder t) x.split ∙ batch_turn n fresh undo i holder t x.asked x.rest

      -- by whether it failed, as the code was told
      module _ {f : Option Reason} (told : f ≡ failure_of r.performed.outcome) where
        told_is : failure_of did.outcome ≡ f
        told_is = sym (told ∙ ap (λ (d : Did). failure_of d.outcome) is.did)

        failed_as : Fails did.outcome f
        failed_as = subst (Fails did.outcome) told_is (fails did.outcome)

        -- it is the first that failed
        pub stopped : (reason : Reason) → f ≡ Some reason → TriedIs whole (fails_at i reason) t'
        unfolding first_failure fails_or
        stopped reason e =
            let q : batch n fresh undo i holder t m.later ≡ lastly answer did.table = now_is ∙ ifb_true _ _ _ (ends_undo did ∙ go (subst (Fails did.outcome) e failed_as)) in
            record {
              trial = sym (ap (λ (y : Option Reason). fails_or i None y) (told_is ∙ e)) ∙ ap (λ (y : Ran). first_failure i y.answers) (sym q) ∙ m.trial;
              table = ap (λ (d : Did). d.table) is.did ∙ ap (λ (y : Ran). y.table) (sym q) ∙ m.tables;
            }
          where
            go : {reason : Reason} → Fails did.outcome (Some reason) → is_failed did.outcome ≡ true
            go (failed reason o b) = b

        -- the next item
        pub again : f ≡ None → length t' ≡ length t → Trying n whole fresh t' (take (length left - next) (drop next left)) (i + 1) r.performed.holder
        unfolding first_failure fails_or
        again e lt =
            let q : batch n fresh undo i holder t m.later ≡ firstly answer (batch n fresh undo (i + 1) did.holder did.table x.rest) =
            now_is ∙ ifb_false _ _ _ (ends_undo did ∙ go (subst (Fails did.outcome) e failed_as)) in
            let same_from : batch n fresh undo (i + 1) r.performed.holder t' x.rest ≡ batch n fresh undo (i + 1) did.holder did.table x.rest =
            ap (λ (d : Did). batch n fresh undo (i + 1) d.holder d.table x.rest) is.did in
            record {
              later = x.rest;
              items = rest_left m.items x;
              table = lt ∙ m.table;
              strip = m.strip;
              trial =
                  ap (λ (y : Ran). first_failure (i + 1) y.answers) same_from
                  ∙ sym (ap (λ (y : Option Reason). fails_or i (first_failure (i + 1) (batch n fresh undo (i + 1) did.holder did.table x.rest).answers) y) (told_is ∙ e))
                  ∙ ap (λ (y : Ran). first_failure i y.answers) (sym q) ∙ m.trial;
              tables = ap (λ (y : Ran). y.table) same_from ∙ ap (λ (y : Ran). y.table) (sym q) ∙ m.tables;
            }
          where
            go : Fails did.outcome None → is_failed did.outcome ≡ false
            go (fine b) = b
