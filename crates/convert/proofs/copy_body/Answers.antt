-- `convert::copy_body`. The old body is written, and then the zeros behind it.
-- Assumes nothing.
use mathlib.Core.Path.{◌≡◌, sym, ap, ◌∙◌}
use Prim.Native.Nat.{ℕ, ◌+◌, ◌*◌, ◌-◌, ◌≤◌}
use native.Mathlib.Omega.{arith}
use mathlib.Core.List.{List}
use lib.ListN.{length, take, drop, replicate}
use lib.Seq.{sets}
use Rattle.octets.proofs.Stores.{sets_append}
use Rattle.octets.proofs.Zeros.{part_zeros}
use Rattle.table.specs.Layout.{body_size, line_start, body_start}
use Rattle.soundness.proofs.Parts.{lent_part_lem}
use Rattle.convert.specs.Old.{old_body_start, BothPlaces, old_body_at, lengthened}
use Rattle.convert.proofs.Records.{body_in_lem, length_old}
use Rattle.convert.proofs.copy_body.Goals.{After-line}
use Rattle.convert.proofs.copy_body.Goals as goal

-- the old body lies in the old table
inside : (c : After-line) → let a = c.args in
    old_body_start a.w a.n a.i + a.w ≤ length a.old.now
inside c =
    let a = c.args in
    let p = c.requires in
    body_in_lem a.w a.n a.old.now p.tables.fits p.tables.old_sized a.i p.below

pub overflow_mul-from : goal.overflow_mul-from
overflow_mul-from c = omega (arith, inside c)

pub overflow_add-from : goal.overflow_add-from
overflow_add-from c = omega (arith, inside c)

pub overflow_add-from-2 : goal.overflow_add-from-2
overflow_add-from-2 c = omega (arith, inside (goal.at.overflow_add-from-2 c).After-line)

pub slice_bounds-put_all-end : goal.slice_bounds-put_all-end
slice_bounds-put_all-end c = omega (arith, inside (goal.at.slice_bounds-put_all-end c).After-line)

-- the body of place i, copied from where it stands, and zeros behind it
copied : (w n : ℕ) (old new : List ℕ) (i : ℕ) {line body : ℕ} {t₁ t₂ : List ℕ} → BothPlaces w n old new i → line ≡ line_start n → body ≡ body_start n i
    → t₁ ≡ sets new body (take (line + w * i + w - (line + w * i)) (drop (line + w * i) old))
    → t₂ ≡ sets t₁ (body + w) (take (body_size - w) (drop w (replicate body_size 0)))
    → t₂ ≡ sets new (body_start n i) (lengthened w (old_body_at w n old i))
copied w n old new i {line} {body} asked el eb e₁ e₂ =
    let b = old_body_at w n old i in
    let both = asked.tables in
    let fits = both.fits in
    let long : length b ≡ w = length_old w n old fits both.old_sized i asked.below in
    let lent = lent_part_lem old (line + w * i) (old_body_start w n i) w (ap (λ (k : ℕ). k + w * i) el) in
    e₂
    ∙ ap (sets _ (body + w)) (part_zeros body_size w (body_size - w) (omega arith))
    ∙ ap (λ (t : List ℕ). sets t (body + w) (replicate (body_size - w) 0)) (e₁ ∙ ap (sets new body) lent)
    ∙ ap (λ (k : ℕ). sets (sets new body b) (body + k) (replicate (body_size - w) 0)) (sym long)
    ∙ sym (sets_append new body b (replicate (body_size - w) 0))
    ∙ ap (λ (at : ℕ). sets new at (lengthened w b)) eb

pub returns : goal.returns
returns c =
    let a = c.args in
    copied a.w a.n a.old.now a.new.now a.i c.requires c.line.ensures c.body-to.ensures
    c.put_all.ensures
    c.put_all-2.ensures
