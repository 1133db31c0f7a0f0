-- The bytes of material that are written: as many as the length says, and never more than there are.
-- Assumes nothing.
use mathlib.Core.Path.{◌≡◌, sym, ap, ◌∙◌}
use Prim.Native.Nat.{ℕ, ◌/◌, min}
use lib.ListN.{length, take, length-take}
use Rattle.octets.proofs.Stores.{take_there}
use Rattle.words.specs.Words.{word_bytes}
use Rattle.words.proofs.Laws.{length_words}
use Rattle.plans.specs.declared.Key.{Key}
use Rattle.answer.specs.Respond.{material_of}

pub material_taken : (k : Key) → take (min (k.bits / 8) 32) (word_bytes k.material) ≡ material_of k
unfolding material_of
material_taken k =
    let b = word_bytes k.material in
    let n : length (take (k.bits / 8) b) ≡ min (k.bits / 8) 32 = length-take (k.bits / 8) b ∙ ap (min (k.bits / 8)) (length_words k.material) in
    ap (λ (i : ℕ). take i b) (sym n) ∙ take_there (k.bits / 8) b
