-- `batch_item::find_item`. Step by step, as the definition goes.
-- Assumes nothing.
use mathlib.Core.Path.{◌≡◌, sym, ap, ◌∙◌}
use Prim.Native.Nat.{ℕ}
use mathlib.Core.List.{List}
use Rattle.std.specs.Prelude.{Option, Some, option_map}
use Rattle.octets.specs.Maybe.{◌>>=◌, ◌>>◌}
use Rattle.ttlv.specs.Items.{Items, ended}
use Rattle.ttlv.specs.Tree.{tree_of}
use Rattle.fields.specs.Fields.{body_of}
use Rattle.tags.specs.Tags.{request_payload}
use Rattle.batch_item.specs.Item.{Asked, item_in}
use Rattle.batch_item.specs.Readers.{id_in, asked}
use Rattle.runs.proofs.Steps.{stops, goes, fails, holds}
use Rattle.batch_item.proofs.Found.{id_first}
use Rattle.batch_item.proofs.find_item.Goals.{In_ok-operation}
use Rattle.batch_item.proofs.find_item.Goals as goal

-- what the definition asks for behind the ID
abbrev payload : ℕ → List ℕ → Items → Option Asked
payload operation id t = body_of request_payload t >>= λ (body, u). ended u >> Some (record { operation = operation; id = id; payload = body })

pub returns-in_err-operation : goal.returns-in_err-operation
unfolding item_in
returns-in_err-operation c = ap (option_map asked) c.from_residual.ensures ∙ sym (stops _ (sym c.in_err-operation.ensures))

-- ---- behind the operation

left : (c : In_ok-operation) → item_in (tree_of c.args.run.bytes.now) ≡ (id_in (tree_of c.in_ok-operation.rest.bytes.now) >>= λ (v, s). payload c.in_ok-operation.operation v s)
unfolding item_in id_in
left c = goes _ (sym c.in_ok-operation.ensures) ∙ id_first (payload c.in_ok-operation.operation) _

pub returns-in_err-id : goal.returns-in_err-id
returns-in_err-id c =
    ap (option_map asked) c.from_residual-in_err-id.ensures
    ∙ sym (left (goal.at.returns-in_err-id c).In_ok-operation ∙ stops _ (sym c.in_err-id.ensures))

pub returns-in_err-payload : goal.returns-in_err-payload
returns-in_err-payload c =
    ap (option_map asked) c.from_residual-in_err-payload.ensures
    ∙ sym (left (goal.at.returns-in_err-payload c).In_ok-operation ∙ goes _ (sym c.in_ok-id.ensures) ∙ stops _ (sym c.in_err-payload.ensures))

pub returns-in_err-end : goal.returns-in_err-end
returns-in_err-end c =
    ap (option_map asked) c.from_residual-in_err-end.ensures
    ∙ sym (left (goal.at.returns-in_err-end c).In_ok-operation ∙ goes _ (sym c.in_ok-id.ensures) ∙ goes _ (sym c.in_ok-payload.ensures) ∙ fails _ (sym c.in_err-end.ensures))

pub returns : goal.returns
returns c =
    sym (left (goal.at.returns c).In_ok-operation ∙ goes _ (sym c.in_ok-id.ensures) ∙ goes _ (sym c.in_ok-payload.ensures) ∙ holds _ (sym c.in_ok-end.ensures))
