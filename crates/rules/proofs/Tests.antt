-- Laws of ordered tests: the first condition that holds gives the reason, and none is due exactly where none holds.
-- Assumes nothing.
use mathlib.Core.Path.{◌≡◌, refl, sym, ap, ◌∙◌}
use mathlib.Core.Bool.{Bool, true, false, not, false≢true}
use Rattle.std.specs.Prelude.{None, Some}
use mathlib.Core.List.{List, [], ◌∷◌}
use Prim.Native.Nat.{ℕ}
use native.Mathlib.Omega.{arith}
use Rattle.octets.specs.Octets.{all}
use Rattle.octets.proofs.If.{ifb_true, ifb_false, on_bool}
use Rattle.rules.specs.declared.Reason.{Reason}
use Rattle.rules.specs.Tests.{Test, due}

-- its condition holds: the first test decides
pub due_first : (test : Test) (tests : List Test) → test.holds ≡ true → due (test ∷ tests) ≡ Some test.reason
unfolding due
due_first test tests e = ifb_true test.holds (Some test.reason) (due tests) e

-- its condition does not hold: the later ones decide
pub due_later : (test : Test) (tests : List Test) → test.holds ≡ false → due (test ∷ tests) ≡ due tests
unfolding due
due_later test tests e = ifb_false test.holds (Some test.reason) (due tests) e

pub due_end : due [] ≡ None
unfolding due
due_end = refl

-- ---- what is due, as facts

-- a condition does not hold
abbrev pub passes : Test → Bool
passes test = not test.holds

-- the reason of the first condition that holds
pub data FirstOf (reason : Reason) : List Test → Type 0 where
  here : {test : Test} {tests : List Test} → test.holds ≡ true → test.reason ≡ reason → FirstOf reason (test ∷ tests)
  later : {test : Test} {tests : List Test} → test.holds ≡ false → FirstOf reason tests → FirstOf reason (test ∷ tests)

-- none is due exactly where no condition holds

pub none_due : (tests : List Test) → all passes tests ≡ true → due tests ≡ None
unfolding all
none_due [] e = due_end
none_due (test ∷ tests) e =
    on_bool test.holds
    (λ p. absurd (false≢true (rw p at e)))
    (λ p. due_later test tests p ∙ none_due tests (rw p at e))

pub due_none : (tests : List Test) → due tests ≡ None → all passes tests ≡ true
unfolding all
due_none [] e = refl
due_none (test ∷ tests) e =
    on_bool test.holds
    (λ p. let q = due_first test tests p in let z : ◌≡◌ {A = ℕ} 0 1 = cc in absurd (omega arith))
    (λ p. rw p (due_none tests (sym (due_later test tests p) ∙ e)))

-- a reason is due exactly where it is that of the first condition that holds

pub some_due : {reason : Reason} {tests : List Test} → FirstOf reason tests → due tests ≡ Some reason
some_due (here h r) = due_first _ _ h ∙ ap Some r
some_due (later h f) = due_later _ _ h ∙ some_due f

pub due_some : (reason : Reason) (tests : List Test) → due tests ≡ Some reason → FirstOf reason tests
due_some reason [] e = let q = due_end in let z : ◌≡◌ {A = ℕ} 0 1 = cc in absurd (omega arith)
due_some reason (test ∷ tests) e =
    on_bool test.holds
    (λ p. let q = due_first test tests p in here p (cc))
    (λ p. later p (due_some reason tests (sym (due_later test tests p) ∙ e)))
