-- No second answer meets a public function's contract, as the checker reads it.
-- Assumes nothing.
use mathlib.Core.Path.{◌≡◌, refl, sym, ap, ap₂, ◌∙◌}
use Prim.Native.Nat.{ℕ}
use Rattle.std.specs.Prelude.{Result, Ok, Err}
use Rattle.outcomes.specs.Outcomes.{OneAnswer}
use Rattle.refusal.specs.declared.Refusal.{Refusal}
use Rattle.refusal.proofs.Numbers.{number_once, number_above}
use Rattle.frame.specs.declared.Batch.{Batch}
use Rattle.frame.specs.Readers.{Framing, framing_told}
use Rattle.frame.proofs.read_frame.Reads as read_frame_reads

-- of two answers of which the same is told, one
told_once : (x y : Result Batch Refusal) → framing_told x ≡ framing_told y → x ≡ y
told_once (Ok b) (Ok c) e = ap₂ (λ (o i : ℕ). Ok (record { option = o; items = i })) (ap (λ (f : Framing). f.option) e) (ap (λ (f : Framing). f.items) e)
told_once (Ok b) (Err r) e = absurd (number_above r (sym (ap (λ (f : Framing). f.number) e)))
told_once (Err r) (Ok b) e = absurd (number_above r (ap (λ (f : Framing). f.number) e))
told_once (Err r) (Err s) e = ap Err (number_once r s (ap (λ (f : Framing). f.number) e))

pub read_frame_unique : OneAnswer read_frame_reads.Post
read_frame_unique κs a x y s t p q = told_once x y (p ∙ sym q)
