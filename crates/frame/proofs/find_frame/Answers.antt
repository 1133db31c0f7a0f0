-- `frame::find_frame`. Each way through by its law.
-- Assumes nothing.
use Rattle.std.specs.Prelude.{Some}
use mathlib.Core.Path.{◌≡◌, sym, ap, ◌∙◌}
use Prim.Native.Nat.{ℕ, ◌-◌, ◌≤◌}
use native.Mathlib.Omega.{arith}
use mathlib.Core.Bool.{true}
use Rattle.std.specs.Prelude.{Option, None}
use mathlib.Core.List.{List}
use lib.ListN.{length}
use Rattle.octets.specs.Maybe.{is_some}
use Rattle.octets.specs.Octets.{part}
use Rattle.ttlv.specs.Parse.{message}
use Rattle.ttlv.specs.Tree.{tree_of}
use Rattle.ttlv.proofs.Step.{Within}
use Rattle.fields.specs.Found.{body_at}
use Rattle.fields.proofs.Found.{body_ends}
use Rattle.fields.proofs.Lift.{body_is_run}
use Rattle.fields.proofs.Runs.{tail, length_tail}
use Rattle.tags.specs.Tags.{request_header, request_message}
use Rattle.frame.specs.Frame.{Frame, header_in, frame_in}
use Rattle.frame.specs.Readers.{header_read, items_at, frame_read}
use Rattle.frame.proofs.Frame.{message_room, inner_run, frame_no_message, frame_no_header, batch_run, frame_bad_header, frame_empty, frame_bad_items, frame_is}
use Rattle.frame.proofs.find_frame.Goals.{In_ok-_end, In_ok-next, In_ok-major}
use Rattle.frame.proofs.find_frame.Goals as goal

-- no frame is the answer to a frame that reads as nothing
no_frame : (s : List ℕ) → frame_in (tree_of s) ≡ None → None ≡ frame_read (frame_in (tree_of s)) (items_at s)
unfolding frame_read
no_frame s e = sym (ap (λ (o : Option Frame). frame_read o (items_at s)) e)

pub returns-in_err-_end : goal.returns-in_err-_end
returns-in_err-_end c =
    c.from_residual.ensures ∙ no_frame c.args.request.now (frame_no_message c.args.request.now c.requires (sym c.in_err-_end.ensures))

-- ---- the message is there: the request, and that it is one item

one : (c : In_ok-_end) → is_some (message c.args.request.now) ≡ true
one c = c.requires

sent : (c : In_ok-_end) → body_at c.args.request.now request_message ≡ Some c.in_ok-_end._end
sent c = sym c.in_ok-_end.ensures

room : (c : In_ok-_end) → 8 ≤ length c.args.request.now
room c = message_room c.args.request.now (one c) request_message (sent c)

pub slice_bounds-s-count : goal.slice_bounds-s-count
slice_bounds-s-count c = room c

pub slice_bounds-s-start : goal.slice_bounds-s-start
slice_bounds-s-start c = omega (arith, room c)

pub returns-in_err-next : goal.returns-in_err-next
returns-in_err-next c =
    c.from_residual-in_err-next.ensures ∙ no_frame c.args.request.now (frame_no_header c.args.request.now (one (goal.at.returns-in_err-next c).In_ok-_end) (sent (goal.at.returns-in_err-next c).In_ok-_end) (sym c.in_err-next.ensures))

-- ---- the header is there: where it ends

headed : (c : In_ok-next) → body_at (tail c.args.request.now 8) request_header ≡ Some c.in_ok-next.next
headed c = sym c.in_ok-next.ensures

ends : (c : In_ok-next) → Within (tail c.args.request.now 8) c.in_ok-next.next
ends c = body_ends (tail c.args.request.now 8) request_header (headed c)

pub slice_bounds-read_header-count : goal.slice_bounds-read_header-count
slice_bounds-read_header-count c = omega (arith, ends c)

pub slice_bounds-read_header-start : goal.slice_bounds-read_header-start
slice_bounds-read_header-start c = omega (arith, ends c)

pub slice_bounds-read_header-end : goal.slice_bounds-read_header-end
slice_bounds-read_header-end c = omega (arith, ends c)

pub invariant_of-read_header : goal.invariant_of-read_header
invariant_of-read_header c =
    record { run = body_is_run (tail c.args.request.now 8) (inner_run c.args.request.now (one (goal.at.invariant_of-read_header c).In_ok-_end) request_message (sent (goal.at.invariant_of-read_header c).In_ok-_end)) request_header (headed (goal.at.invariant_of-read_header c).In_ok-next) }

pub returns-in_err-major : goal.returns-in_err-major
returns-in_err-major c =
    c.from_residual-in_err-major.ensures ∙ no_frame c.args.request.now (frame_bad_header c.args.request.now (one (goal.at.returns-in_err-major c).In_ok-_end) (sent (goal.at.returns-in_err-major c).In_ok-_end) (headed (goal.at.returns-in_err-major c).In_ok-next) (sym c.in_err-major.ensures))

-- ---- the header is read: the batch behind it

says : (c : In_ok-major)
    → header_read (header_in (tree_of (part (tail c.args.request.now 8) 8 (c.in_ok-next.next - 8)))) ≡ Some c.in_ok-major.field-0
says c = sym c.in_ok-major.ensures

is_one_lem : (c : In_ok-major) → is_some (message c.args.request.now) ≡ true
is_one_lem c = one (goal.at.In_ok-major c).In_ok-_end

is_sent : (c : In_ok-major) → body_at c.args.request.now request_message ≡ Some c.in_ok-_end._end
is_sent c = sent (goal.at.In_ok-major c).In_ok-_end

pub slice_bounds-batch-count : goal.slice_bounds-batch-count
slice_bounds-batch-count c = omega (arith, ends (goal.at.slice_bounds-batch-count c).In_ok-next)

pub slice_bounds-batch-start : goal.slice_bounds-batch-start
slice_bounds-batch-start c = omega (arith, ends (goal.at.slice_bounds-batch-start c).In_ok-next)

pub invariant_of-batch : goal.invariant_of-batch
invariant_of-batch c =
    record { run = batch_run c.args.request.now (is_one_lem (goal.at.invariant_of-batch c).In_ok-major) (is_sent (goal.at.invariant_of-batch c).In_ok-major) (headed (goal.at.invariant_of-batch c).In_ok-next) }

pub returns-then-is_empty : goal.returns-then-is_empty
returns-then-is_empty c =
    no_frame c.args.request.now (frame_empty c.args.request.now (is_one_lem (goal.at.returns-then-is_empty c).In_ok-major) (is_sent (goal.at.returns-then-is_empty c).In_ok-major) (headed (goal.at.returns-then-is_empty c).In_ok-next) (says (goal.at.returns-then-is_empty c).In_ok-major) (sym c.if-is_empty.ensures))

-- ---- the batch is not empty

pub returns-in_err-found : goal.returns-in_err-found
returns-in_err-found c =
    c.from_residual-in_err-found.ensures ∙ no_frame c.args.request.now (frame_bad_items c.args.request.now (is_one_lem (goal.at.returns-in_err-found c).In_ok-major) (is_sent (goal.at.returns-in_err-found c).In_ok-major) (headed (goal.at.returns-in_err-found c).In_ok-next) (says (goal.at.returns-in_err-found c).In_ok-major) (sym c.if-is_empty.ensures) (sym c.in_err-found.ensures))

pub overflow_add-result : goal.overflow_add-result
overflow_add-result c =
    omega (arith, ends (goal.at.overflow_add-result c).In_ok-next, length_tail c.args.request.now 8)

pub returns : goal.returns
returns c =
    sym (frame_is c.args.request.now (is_one_lem (goal.at.returns c).In_ok-major) (is_sent (goal.at.returns c).In_ok-major) (headed (goal.at.returns c).In_ok-next) (says (goal.at.returns c).In_ok-major) (sym c.if-is_empty.ensures) (sym c.in_ok-found.ensures))
