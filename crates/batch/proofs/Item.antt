-- One item, from the answers of the functions that read it, carry it out and write its answer.
-- Assumes nothing.
use Prim.Native.Nat.{ℕ, ◌-◌, ◌≤◌}
use native.Mathlib.Omega.{arith}
use mathlib.Core.Path.{◌≡◌, refl, sym, ap, subst, ◌∙◌}
use mathlib.Core.Bool.{Bool, true, false≢true}
use Rattle.std.specs.Prelude.{Option, None, Some}
use mathlib.Core.List.{List}
use lib.ListN.{length, take, drop, replicate, length-drop}
use lib.Seq.{take_at, take_all}
use Rattle.octets.specs.Maybe.{is_some}
use Rattle.ttlv.specs.Items.{nil, group}
use Rattle.ttlv.specs.Tree.{is_run, tree_of}
use Rattle.fields.proofs.Lift.{cut_tree}
use Rattle.ttlv_put.specs.Write.{Holds}
use Rattle.batch_item.specs.declared.ItemId.{ItemId}
use Rattle.batch_item.specs.declared.ItemParts.{ItemParts}
use Rattle.tags.specs.Tags.{batch_item}
use Rattle.batch_item.specs.Item.{Asked, item_in}
use Rattle.batch_item.specs.Readers.{id_of, parts_of}
use Rattle.batch_item.proofs.Item.{PartsShape, parts_shape}
use Rattle.payload.specs.declared.Command.{Command}
use Rattle.payload.specs.Payload.{command}
use Rattle.plans.specs.declared.Outcome.{Outcome}
use Rattle.plans.specs.declared.Performed.{Performed}
use Rattle.plans.specs.Plans.{Did, leaves, is_failed}
use Rattle.act.specs.Act.{performing}
use Rattle.answer.specs.Respond.{Answer, answer_items}
use Rattle.answer.specs.Front.{longest_item}
use Rattle.named_write.specs.Puts.{Puts}
use Rattle.answer_write.specs.Answers.{answer_of}
use Rattle.batch.specs.declared.Carried.{Carried}
use Rattle.batch.specs.Batch.{answer_with, answer_to}
use Rattle.batch.specs.Runs.{asked_or, asked_in, ReadsOne, doing, CarriedIs, answer_bytes, ItemIs}

-- an item that was read
asked_is : (o : Option Asked) → is_some o ≡ true → o ≡ Some (asked_or o)
unfolding is_some asked_or
asked_is None e = absurd (false≢true e)
asked_is (Some a) e = refl

-- the ID that a struct carries
id_taken : (v : List ℕ) → take (id_of v).len (id_of v).bytes ≡ v
unfolding id_of
id_taken v = take_at v (replicate (16 - length v) 0) (length v) refl

module _ {body : List ℕ} (one : ReadsOne body) where
  -- the parts of the item are those that were asked
  parts : PartsShape body (asked_in body)
  parts = parts_shape body (asked_in body) one.run (asked_is (item_in (tree_of body)) one.read)

  -- its operation and its ID, as they were read or carried
  module _ {operation : ℕ} {id : ItemId} (op : operation ≡ (asked_in body).operation) (e : id ≡ id_of (asked_in body).id) where
    pub id_short : id.len ≤ 16
    unfolding id_of
    id_short = subst (λ (x : ItemId). x.len ≤ 16) (sym e) parts.short

    -- with an outcome they make its answer
    pub answer_is : (o : Outcome) → answer_of operation id o ≡ answer_with (asked_in body) o
    answer_is o =
        ap (λ (k : ℕ). record { operation = k; id = take id.len id.bytes; outcome = o }) op
        ∙ ap (λ (v : List ℕ). record { operation = (asked_in body).operation; id = v; outcome = o }) (ap (λ (x : ItemId). take x.len x.bytes) e ∙ id_taken (asked_in body).id)

  -- the payload, as it is lent
  abbrev payload : ItemParts → List ℕ
  payload p = take (length body - p.payload) (drop p.payload body)

  -- the parts, as the reader answered them
  module _ {p : ItemParts} (e : p ≡ parts_of body) where
    pub operation_is : p.operation ≡ (asked_in body).operation
    operation_is = ap (λ (x : ItemParts). x.operation) e ∙ parts.operation

    pub id_is : p.id ≡ id_of (asked_in body).id
    id_is = ap (λ (x : ItemParts). x.id) e ∙ parts.id

    pub start_within : p.payload ≤ length body
    start_within = subst (λ (x : ItemParts). x.payload ≤ length body) (sym e) parts.within

    pub start_run : is_run (payload p) ≡ true
    start_run = subst (λ (x : ItemParts). is_run (payload x) ≡ true) (sym e) (ap is_run (rest_of (parts_of body).payload) ∙ parts.run)
      where
        rest_of : (k : ℕ) → take (length body - k) (drop k body) ≡ drop k body
        rest_of k = take_all (length body - k) (drop k body) (rw length-drop (omega arith))

    start_tree : tree_of (payload p) ≡ (asked_in body).payload
    start_tree = subst (λ (x : ItemParts). tree_of (payload x) ≡ (asked_in body).payload) (sym e) (cut_tree body (parts_of body).payload ∙ parts.payload)

    -- what was read and carried out is the item
    pub carried_is : {n : ℕ} {t fresh : List ℕ} {holder : ℕ} {c : Command} (d : Performed) {t' : List ℕ}
        → c ≡ command p.operation (tree_of (payload p)) → leaves d t' ≡ performing n fresh holder t c
        → CarriedIs n (asked_in body) t fresh holder (record { performed = d; operation = p.operation; id = p.id }) t'
    carried_is {n} {t} {fresh} {holder} d ec ed = record {
      did = ed ∙ ap (performing n fresh holder t) (ec ∙ ap (command p.operation) start_tree ∙ ap (λ (o : ℕ). command o (asked_in body).payload) operation_is);
      operation = operation_is;
      id = id_is;
    }

  -- what was carried out and written is the item and its answer
  pub item_is : {n : ℕ} {t fresh : List ℕ} {holder : ℕ} {r : Carried} {failed : Bool} {used : ℕ} {t' out out' : List ℕ}
      → CarriedIs n (asked_in body) t fresh holder r t' → failed ≡ is_failed r.performed.outcome
      → Puts longest_item (group batch_item (answer_items (answer_of r.operation r.id r.performed.outcome)) nil) out out' used
      → ItemIs n (asked_in body) t fresh holder out (record { failed = failed; holder = r.performed.holder; used = used }) t' out'
  item_is {n} {t} {fresh} {holder} {r} {failed} {used} {t'} {out} {out'} is ef h =
      let out_is : r.performed.outcome ≡ (doing n (asked_in body) fresh holder t).outcome = ap (λ (x : Did). x.outcome) is.did in
      let answer : answer_of r.operation r.id r.performed.outcome ≡ answer_to (asked_in body) (doing n (asked_in body) fresh holder t) =
      answer_is is.operation is.id r.performed.outcome ∙ ap (answer_with (asked_in body)) out_is in
      record {
        failed = ef ∙ ap is_failed out_is;
        held = ap (λ (x : Did). x.holder) is.did;
        table = ap (λ (x : Did). x.table) is.did;
        few = h.few;
        bytes = subst (λ (a : Answer). Holds (answer_bytes a) out out' used) answer h.holds;
      }
