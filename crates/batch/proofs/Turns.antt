-- The batch loop: what holds between two items, how it begins, goes on and ends.
-- Assumes nothing.
use Rattle.std.specs.Prelude.{None}
use Prim.Native.Nat.{ℕ, ◌+◌, ◌-◌, ◌*◌}
use native.Mathlib.Omega.{arith}
use mathlib.Core.Path.{◌≡◌, refl, sym, ap, subst, ◌∙◌}
use mathlib.Core.Bool.{Bool, true, false, not, ◌&&◌}
use mathlib.Core.List.{List, [], ◌∷◌, ◌++◌, append_assoc, append-nil}
use lib.ListN.{length, take, drop}
use lib.Dec.{eqb}
use borrow.Rule.Slice.PartMut.{put_mid, mid_of}
use Rattle.octets.specs.If.{ifb}
use Rattle.octets.specs.Octets.{part}
use Rattle.octets.proofs.If.{ifb_true, ifb_false}
use Rattle.fields.specs.Found.{body_at}
use Rattle.table.specs.Layout.{Table, material_size}
use Rattle.tags.specs.Tags.{batch_item}
use Rattle.batch_item.specs.Item.{Asked}
use Rattle.frame.specs.Frame.{continue}
use Rattle.plans.specs.Plans.{Did, empty_holder, env_at}
use Rattle.act.proofs.Plans.{step_performs}
use Rattle.answer.specs.Respond.{Answer}
use Rattle.batch.specs.declared.ItemDone.{ItemDone}
use Rattle.batch.specs.Batch.{Ran, answer_to, lastly, firstly, ends_batch, batch, first_item}
use Rattle.calls.specs.Effects.{strip_size}
use Rattle.batch.specs.Runs.{asked_in, asked_from, doing, RunsOne, ItemIs, RanIs, ran_over, Runs}
use Rattle.batch.proofs.Left.{Left, Next, all_left, no_more, next_index, rest_left}
use Rattle.batch.proofs.Written.{Written, none_written, all_written, room_next, more_written}

-- the strip's part of an item, as it is lent
abbrev pub lent_part : List ℕ → ℕ → List ℕ
lent_part fresh i = take (material_size * i + material_size - material_size * i) (drop (material_size * i) fresh)

pub own_part : (fresh : List ℕ) (i : ℕ) → lent_part fresh i ≡ part fresh (material_size * i) material_size
own_part fresh i = let e : material_size * i + material_size - material_size * i ≡ material_size = omega arith in ap (λ (k : ℕ). take k (drop (material_size * i) fresh)) e

-- the batch from item i on: by what becomes of the first of its items, as the function that carries an item out has it
pub batch_turn : (n : ℕ) (fresh : List ℕ) (option i holder : ℕ) (t : List ℕ) (asked : Asked) (rest : List Asked)
    → let did = doing n asked (part fresh (material_size * i) material_size) holder t in
    batch n fresh option i holder t (asked ∷ rest)
    ≡ ifb (ends_batch option did) (lastly (answer_to asked did) did.table) (firstly (answer_to asked did) (batch n fresh option (i + 1) did.holder did.table rest))
unfolding batch
batch_turn n fresh option i holder t asked rest =
    ap (λ (d : Did). ifb (ends_batch option d) (lastly (answer_to asked d) d.table) (firstly (answer_to asked d) (batch n fresh option (i + 1) d.holder d.table rest)))
    (step_performs (env_at n fresh i) holder t asked)

-- between two items: what is answered stands in the room, and the rest of the batch from here gives the whole
pub record Mid (n : ℕ) (whole : Ran) (fresh : List ℕ) (option : ℕ) (out₀ t out left : List ℕ) (i holder at : ℕ) : Type 0 where
  pub later : List Asked
  pub done : List Answer
  pub items : Left left i later
  pub written : Written out₀ out i at done
  pub table : Table n t
  pub strip : length fresh ≡ strip_size
  pub answers : done ++ (batch n fresh option i holder t later).answers ≡ whole.answers
  pub tables : (batch n fresh option i holder t later).table ≡ whole.table

-- how it begins
pub begins : {n : ℕ} {items t fresh out : List ℕ} (option : ℕ) → Runs n items t fresh out → Mid n (ran_over n items fresh option t) fresh option out t out items first_item empty_holder 0
begins {n} {items} option h = record {
  later = asked_from items;
  done = [];
  items = all_left h.carries.reads;
  written = none_written h.fits;
  table = h.carries.table;
  strip = h.carries.strip;
  answers = refl;
  tables = refl;
}

module _ {n : ℕ} {whole : Ran} {fresh : List ℕ} {option : ℕ} {out₀ t out left : List ℕ} {i holder at : ℕ} (m : Mid n whole fresh option out₀ t out left i holder at) where
  -- no item is left
  pub ended : body_at left batch_item ≡ None → RanIs whole out₀ (record { count = i; used = at }) t out
  unfolding batch
  ended e =
      let l : m.later ≡ [] = no_more m.items e in
      let a : m.done ≡ whole.answers = sym (append-nil m.done) ∙ ap (λ (x : List Asked). m.done ++ (batch n fresh option i holder t x).answers) (sym l) ∙ m.answers in
      record {
        table = ap (λ (x : List Asked). (batch n fresh option i holder t x).table) (sym l) ∙ m.tables;
        answers = all_written m.written a (omega (arith, m.items.few));
      }

  module _ {next : ℕ} (x : Next m.items next) where
    -- what the next item asks
    pub next_runs : RunsOne n (part left 8 (next - 8)) t (mid_of at (length out - at) out)
    next_runs = record { carries = record { reads = x.reads; table = m.table }; room = room_next m.written (next_index m.items x) }

    -- what became of it, with its body and its part of the strip as they are lent
    module _ {r : ItemDone} {t' ys : List ℕ} (Lent-is : ItemIs n (asked_in (part left 8 (next - 8))) t (lent_part fresh i) holder (mid_of at (length out - at) out) r t' ys)
        (same : length ys ≡ length (mid_of at (length out - at) out)) where
      abbrev did : Did
      did = doing n x.asked (part fresh (material_size * i) material_size) holder t

      abbrev answer : Answer
      answer = answer_to x.asked (doing n x.asked (part fresh (material_size * i) material_size) holder t)

      -- the room after the item
      abbrev room' : List ℕ
      room' = put_mid at (length out - at) out ys

      is : ItemIs n x.asked t (part fresh (material_size * i) material_size) holder (mid_of at (length out - at) out) r t' ys
      is =
          subst (λ (a : Asked). ItemIs n a t (part fresh (material_size * i) material_size) holder (mid_of at (length out - at) out) r t' ys) x.item
          (subst (λ (own : List ℕ). ItemIs n (asked_in (part left 8 (next - 8))) t own holder (mid_of at (length out - at) out) r t' ys) (own_part fresh i) Lent-is)

      written : Written out₀ room' (i + 1) (at + r.used) (m.done ++ (answer ∷ []))
      written = more_written m.written (next_index m.items x) answer is.bytes is.few same

      -- by whether it ends the batch, as the code tests it
      module _ {b : Bool} (tested : b ≡ (r.failed && not (eqb option continue))) where
        ends_as : ends_batch option did ≡ b
        unfolding ends_batch
        ends_as = sym (tested ∙ ap (λ (f : Bool). f && not (eqb option continue)) is.failed)

        -- the batch from here, by how it goes on
        now_is : batch n fresh option i holder t m.later ≡ ifb b (lastly answer did.table) (firstly answer (batch n fresh option (i + 1) did.holder did.table x.rest))
        now_is =
            ap (batch n fresh option i holder t) x.split
            ∙ batch_turn n fresh option i holder t x.asked x.rest
            ∙ ap (λ (f : Bool). ifb f (lastly answer did.table) (firstly answer (batch n fresh option (i + 1) did.holder did.table x.rest))) ends_as

        -- nothing after this item
        pub stopped : b ≡ true → RanIs whole out₀ (record { count = i + 1; used = at + r.used }) t' room'
        stopped e =
            let q : batch n fresh option i holder t m.later ≡ lastly answer did.table = now_is ∙ ifb_true b _ _ e in
            record {
              table = is.table ∙ ap (λ (y : Ran). y.table) (sym q) ∙ m.tables;
              answers = all_written written (ap (λ (y : Ran). m.done ++ y.answers) (sym q) ∙ m.answers) (let k = next_index m.items x in omega arith);
            }

        -- the next item
        pub again : b ≡ false → length t' ≡ length t
            → Mid n whole fresh option out₀ t' room' (take (length left - next) (drop next left)) (i + 1) r.holder (at + r.used)
        again e lt =
            let q : batch n fresh option i holder t m.later ≡ firstly answer (batch n fresh option (i + 1) did.holder did.table x.rest) = now_is ∙ ifb_false b _ _ e in
            let same_from : batch n fresh option (i + 1) r.holder t' x.rest ≡ batch n fresh option (i + 1) did.holder did.table x.rest =
            ap (λ (h : ℕ). batch n fresh option (i + 1) h t' x.rest) is.held ∙ ap (λ (u : List ℕ). batch n fresh option (i + 1) did.holder u x.rest) is.table in
            record {
              later = x.rest;
              done = m.done ++ (answer ∷ []);
              items = rest_left m.items x;
              written = written;
              table = lt ∙ m.table;
              strip = m.strip;
              answers =
                  append_assoc m.done (answer ∷ []) (batch n fresh option (i + 1) r.holder t' x.rest).answers
                  ∙ ap (λ (y : Ran). m.done ++ (answer ∷ y.answers)) same_from
                  ∙ ap (λ (y : Ran). m.done ++ y.answers) (sym q) ∙ m.answers;
              tables = ap (λ (y : Ran). y.table) same_from ∙ ap (λ (y : Ran). y.table) (sym q) ∙ m.tables;
            }
