-- The bytes of a name that are written: as many as its length says, and never more than there are.
-- Assumes nothing.
use mathlib.Core.Path.{◌≡◌, sym, ap, ◌∙◌}
use Prim.Native.Nat.{ℕ, min}
use lib.ListN.{length, take, length-take}
use Rattle.octets.proofs.Stores.{take_there}
use Rattle.words.specs.Words.{word_bytes}
use Rattle.words.proofs.Laws.{length_words}
use Rattle.names.specs.declared.Name.{Name}
use Rattle.names.specs.Names.{name_text}

pub text_taken : (m : Name) → take (min m.len 32) (word_bytes m.words) ≡ name_text m
unfolding name_text
text_taken m =
    let b = word_bytes m.words in
    let n : length (take m.len b) ≡ min m.len 32 = length-take m.len b ∙ ap (min m.len) (length_words m.words) in
    ap (λ (i : ℕ). take i b) (sym n) ∙ take_there m.len b
