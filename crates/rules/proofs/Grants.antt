-- Laws of a grant: state first, then limit, then amount; what is left where all three pass.
-- Assumes nothing.
use Rattle.std.specs.Prelude.{Result, Ok, Err}
use mathlib.Core.Path.{◌≡◌}
use Prim.Native.Nat.{ℕ, ◌-◌, ◌≤◌, ◌<◌}
use native.Mathlib.Omega.{arith}
use native.Mathlib.Decide.{dec_le, ℕ_discrete}
use borrow.Author.Tests.{ne_eqb, lt-ltb, le-ltb}
use Rattle.octets.specs.If.{ifb}
use Rattle.rules.specs.declared.Reason.{Reason}
use Rattle.rules.specs.declared.Reason.TheVariants.{InvalidField, WrongKeyLifecycleState, UsageLimitExceeded}
use Rattle.rules.specs.Numbers.{active}
use Rattle.rules.specs.Tests.{due}
use Rattle.rules.specs.States.{grant_tests, left_unless, granting}

module _ (state unit count amount : ℕ) where
  pub not_active : (state ≡ active → ⊥) → granting state unit count amount ≡ Err WrongKeyLifecycleState
  unfolding granting grant_tests due ifb left_unless
  not_active h = rw (ne_eqb _ _ h)

  module _ (is : state ≡ active) where
    pub no_limit : unit ≡ 0 → granting state unit count amount ≡ Err InvalidField
    unfolding granting grant_tests due ifb left_unless
    no_limit e = rw (is, e)

    module _ (limited : unit ≡ 0 → ⊥) where
      pub too_much : count < amount → granting state unit count amount ≡ Err UsageLimitExceeded
      unfolding granting grant_tests due ifb left_unless
      too_much h = rw (is, ne_eqb _ _ limited, lt-ltb)

      pub takes_off : amount ≤ count → granting state unit count amount ≡ Ok (count - amount)
      unfolding granting grant_tests due ifb left_unless
      takes_off h = rw (is, ne_eqb _ _ limited, le-ltb)

-- ---- a grant that takes something off, as facts

pub record Grant (state unit count amount left : ℕ) : Type 0 where
  pub usable : state ≡ active
  pub limited : unit ≡ 0 → ⊥
  pub enough : amount ≤ count
  pub rest : left ≡ count - amount

not_both : {A : Type 0} {g : Result ℕ Reason} {left : ℕ} {reason : Reason} → g ≡ Ok left → g ≡ Err reason → A
not_both p q = let z : ◌≡◌ {A = ℕ} 0 1 = cc in absurd (omega arith)

same_left : {g : Result ℕ Reason} {a b : ℕ} → g ≡ Ok a → g ≡ Ok b → b ≡ a
same_left p q = cc

module _ (state unit count amount left : ℕ) where
  pub grant_is : granting state unit count amount ≡ Ok left → Grant state unit count amount left
  grant_is e = elim (ℕ_discrete state active) [
    | no a ↦ not_both e (not_active state unit count amount a)
    | yes a ↦ elim (ℕ_discrete unit 0) [
      | yes u ↦ not_both e (no_limit state unit count amount a u)
      | no u ↦ elim (dec_le amount count) [
        | no h ↦ not_both e (too_much state unit count amount a u (omega arith))
        | yes h ↦ record { usable = a; limited = u; enough = h; rest = same_left (takes_off state unit count amount a u h) e }
      ]
    ]
  ]
