-- `engine::serve`. Each return is one law about the whole call.
-- Assumes nothing.
use mathlib.Core.Path.{◌≡◌, refl, sym, ap, ◌∙◌}
use native.Mathlib.Omega.{arith}
use mir.Syntax.{w64}
use mir.Val.{of_z}
use mir.Facts.{to_z-of_z}
use Rattle.std.specs.Prelude.{Ok}
use Rattle.std.proofs.lemmas.Result.{err_from_is_err_and}
use Rattle.refusals.proofs.Early.{Passed, passed}
use Rattle.frame.specs.Readers.{framing_told}
use Rattle.engine.proofs.Serves.{Asks, early_away, frame_away, frame_asks, from_within, lead_there, late_away, runs_from, served_is}
use Rattle.engine.proofs.serve.Goals.{In_ok-early_refusal, In_ok-batch, After-late_refusal}
use Rattle.engine.proofs.serve.Goals as goal

pub returns-in_err-early_refusal : goal.returns-in_err-early_refusal
returns-in_err-early_refusal c =
    let p = err_from_is_err_and c.from_residual.result c.from_residual.ensures.1 in
    rw (p.1, p.2) (early_away c.args.request.now c.args.table.now c.args.fresh.now (of_z w64 c.args.clock) c.args.out.now c.args.undo.now _ c.in_err-early_refusal.ensures)

-- ---- no early refusal applies
allowed : (c : In_ok-early_refusal) → Passed c.args.request.now c.args.table.now c.args.fresh.now c.args.out.now
allowed c = passed c.args.request.now c.args.table.now c.args.fresh.now c.args.out.now (sym c.in_ok-early_refusal.ensures)

pub read_frame-requires : goal.read_frame-requires
read_frame-requires c = (allowed c).is_message

pub returns-in_err-batch : goal.returns-in_err-batch
returns-in_err-batch c =
    let p = err_from_is_err_and c.from_residual-in_err-batch.result c.from_residual-in_err-batch.ensures.1 in
    rw (p.1, p.2) (frame_away (allowed (goal.at.returns-in_err-batch c).In_ok-early_refusal) (of_z w64 c.args.clock) c.args.undo.now c.in_err-batch.ensures _ refl)

-- ---- the frame was read

asks : (c : In_ok-batch)
    → Asks c.args.request.now c.args.table.now c.args.fresh.now (of_z w64 c.args.clock) c.args.out.now c.args.undo.now (framing_told (Ok c.in_ok-batch.batch))
asks c = frame_asks (allowed (goal.at.In_ok-batch c).In_ok-early_refusal) (of_z w64 c.args.clock) c.args.undo.now c.in_ok-batch.ensures refl

-- ---- the clock as its 64 bits, and whether a late refusal applies

bits_are : (c : After-late_refusal) → c.bits_of-bits.result ≡ (of_z w64 c.args.clock)
bits_are c = c.bits_of-bits.ensures ∙ ap (of_z w64) (to_z-of_z c.ranges.clock)

pub returns-in_err-late_refusal : goal.returns-in_err-late_refusal
returns-in_err-late_refusal c =
    let p = err_from_is_err_and c.from_residual-in_err-late_refusal.result c.from_residual-in_err-late_refusal.ensures.1 in
    rw (p.1, p.2) (late_away (asks (goal.at.returns-in_err-late_refusal c).In_ok-batch) (bits_are (goal.at.returns-in_err-late_refusal c).After-late_refusal) c.in_err-late_refusal.ensures _ refl)

-- ---- none does: the places that the table's lead says are read

pub places_said-n-requires : goal.places_said-n-requires
places_said-n-requires c = lead_there (asks (goal.at.places_said-n-requires c).In_ok-batch)

-- ---- the call is answered: it is lent its items, the table, the strip, the room and the second buffer

pub slice_bounds-items-count : goal.slice_bounds-items-count
slice_bounds-items-count c = from_within (asks (goal.at.slice_bounds-items-count c).In_ok-batch)

pub slice_bounds-items-start : goal.slice_bounds-items-start
slice_bounds-items-start c = omega (arith, from_within (asks (goal.at.slice_bounds-items-start c).In_ok-batch))

pub answer_all-length-requires : goal.answer_all-length-requires
answer_all-length-requires c =
    runs_from (asks (goal.at.answer_all-length-requires c).In_ok-batch) (bits_are (goal.at.answer_all-length-requires c).After-late_refusal) c.in_ok-late_refusal.ensures refl c.places_said-n.ensures

pub returns : goal.returns
returns c =
    served_is (asks (goal.at.returns c).In_ok-batch) (bits_are (goal.at.returns c).After-late_refusal) c.in_ok-late_refusal.ensures refl c.places_said-n.ensures c.answer_all-length.ensures
