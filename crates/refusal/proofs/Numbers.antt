-- Each number names one refusal: what was tested can be told from it.
-- Assumes nothing.
use native.Mathlib.Omega.{arith}
use mathlib.Core.Path.{◌≡◌, refl, sym, ap, ap₂, ◌∙◌}
use Rattle.std.specs.Prelude.{ℕ, Result, Ok, Err, ⊤, [], ◌∷◌, get_or}
use Rattle.refusal.specs.declared.Refusal.{Refusal}
use Rattle.refusal.specs.declared.Refusal.TheVariants.{Room, Strip, Table, Length, Message, Frame, Version, Count, Continuation, Clock, Buffer}
use Rattle.refusal.specs.Numbers.{refusal_number, told_of, refused_with}

-- the refusal of a number; any that is none stands for a pass
named : ℕ → Result ⊤ Refusal
named n = get_or (Ok tt ∷ Err Room ∷ Err Strip ∷ Err Table ∷ Err Length ∷ Err Message ∷ Err Frame ∷ Err Version ∷ Err Count ∷ Err Continuation ∷ Err Clock ∷ Err Buffer ∷ []) n (Ok tt)

named_back : (r : Result ⊤ Refusal) → named (refused_with r) ≡ r
unfolding named
named_back (Ok a) = refl
named_back (Err Room) = refl
named_back (Err Strip) = refl
named_back (Err Table) = refl
named_back (Err Length) = refl
named_back (Err Message) = refl
named_back (Err Frame) = refl
named_back (Err Version) = refl
named_back (Err Count) = refl
named_back (Err Continuation) = refl
named_back (Err Clock) = refl
named_back (Err Buffer) = refl

-- of two answers of a test with one number, one
pub refused_once : (r r' : Result ⊤ Refusal) → refused_with r ≡ refused_with r' → r ≡ r'
refused_once r r' e = sym (named_back r) ∙ ap named e ∙ named_back r'

-- of two refusals with one number, one
failed_with : Refusal → Result ⊤ Refusal → Refusal
failed_with other (Ok a) = other
failed_with other (Err refusal) = refusal

pub number_once : (r s : Refusal) → refusal_number r ≡ refusal_number s → r ≡ s
unfolding failed_with
number_once r s e = ap (failed_with r) (refused_once (Err r) (Err s) e)

-- what a caller is told, read back
heard : Result ⊤ Refusal → ℕ → Result ℕ Refusal
heard (Ok a) length = Ok length
heard (Err refusal) length = Err refusal

told_back : (r : Result ℕ Refusal) → heard (named (told_of r).0) (told_of r).1 ≡ r
unfolding named heard
told_back (Ok length) = refl
told_back (Err Room) = refl
told_back (Err Strip) = refl
told_back (Err Table) = refl
told_back (Err Length) = refl
told_back (Err Message) = refl
told_back (Err Frame) = refl
told_back (Err Version) = refl
told_back (Err Count) = refl
told_back (Err Continuation) = refl
told_back (Err Clock) = refl
told_back (Err Buffer) = refl

-- of two calls of which the same is told, one
pub told_once : (r r' : Result ℕ Refusal) → (told_of r).0 ≡ (told_of r').0 → (told_of r).1 ≡ (told_of r').1 → r ≡ r'
told_once r r' n l = sym (told_back r) ∙ ap₂ (λ (k m : ℕ). heard (named k) m) n l ∙ told_back r'

-- 0 is no refusal's number
pub number_above : (r : Refusal) → refusal_number r ≡ 0 → ⊥
number_above Room z = omega arith
number_above Strip z = omega arith
number_above Table z = omega arith
number_above Length z = omega arith
number_above Message z = omega arith
number_above Frame z = omega arith
number_above Version z = omega arith
number_above Count z = omega arith
number_above Continuation z = omega arith
number_above Clock z = omega arith
number_above Buffer z = omega arith
