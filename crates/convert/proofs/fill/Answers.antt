-- `convert::fill`. Behind the front of the old table stand the bodies that were copied so far.
-- Assumes nothing.
use mathlib.Core.Path.{◌≡◌, ap, ◌∙◌, subst}
use Prim.Native.Nat.{ℕ, ◌+◌, ◌<◌}
use native.Mathlib.Omega.{arith}
use mathlib.Core.List.{List}
use lib.ListN.{take, length-take}
use lib.Seq.{sets, length-sets}
use Rattle.table.specs.Layout.{body_size, line_start, body_start}
use Rattle.convert.specs.Old.{BothTables, widened}
use Rattle.convert.proofs.Bodies.{Filled, filled_start, filled_more, filled_end}
use Rattle.convert.proofs.Records.{length_new}
use Rattle.convert.proofs.fill.Invariants.{bodies, Stands}
use Rattle.convert.proofs.fill.Goals as goal

started : (w n : ℕ) (old new : List ℕ) {front : ℕ} {t : List ℕ} → BothTables w n old new → front ≡ line_start n → t ≡ sets new 0 (take front old) → Stands w n old t 0
started w n old new both e h = (
  rw (h, length-sets) both.new_sized,
  filled_start n body_size old (bodies w n old) new (omega (arith, both.old_sized)) (omega (arith, both.new_sized)) (h ∙ ap (λ (k : ℕ). sets new 0 (take k old)) e),
)

more : (w n : ℕ) (old new : List ℕ) (i : ℕ) {t₀ t : List ℕ} → BothTables w n old t₀ → i < n → t ≡ sets new (body_start n i) (bodies w n old i) → Stands w n old new i → Stands w n old t (i + 1)
more w n old new i both below h stands = (
  rw (h, length-sets) stands.0,
  filled_more n body_size old (bodies w n old) new i (length_new w n old both.fits both.old_sized i below) (omega (arith, stands.0)) h stands.1,
)

ended : (w n : ℕ) (old new : List ℕ) (i : ℕ) → i ≡ n → Stands w n old new i → new ≡ widened w n old
unfolding widened
ended w n old new i e stands = filled_end n body_size old (bodies w n old) new (stands.0 ∙ omega arith) (subst (Filled n body_size old (bodies w n old) new) e stands.1)

pub slice_bounds-put_all-end : goal.slice_bounds-put_all-end
slice_bounds-put_all-end c = rw length-take (omega arith)

pub put_all-requires : goal.put_all-requires
put_all-requires c = rw length-take (omega arith)

pub loop-i-init : goal.loop-i-init
loop-i-init c =
    let a = c.args in
    (omega arith, started a.w a.n a.old.now a.new.now c.requires c.line-front.ensures c.put_all.ensures)

pub loop-i-preserved : goal.loop-i-preserved
loop-i-preserved c =
    let a = c.args in
    (omega arith, more a.w a.n a.old.now c.loop-i.new c.loop-i.i c.requires c.loop-i-test.true c.copy_body.ensures c.loop-i.invariant.1)

pub returns : goal.returns
returns c =
    let a = c.args in
    ended a.w a.n a.old.now c.loop-i.new c.loop-i.i (omega arith) c.loop-i.invariant.1
