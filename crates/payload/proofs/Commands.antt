-- The command by the number of the operation.
-- Assumes nothing.
use mathlib.Core.Path.{◌≡◌, sym, ap, ◌∙◌}
use Prim.Native.Nat.{ℕ}
use borrow.Author.Tests.{ne_eqb}
use Rattle.octets.specs.If.{ifb}
use Rattle.octets.proofs.If.{ifb_false}
use Rattle.ttlv.specs.Items.{Items}
use Rattle.payload.specs.Payload.{create_in, rekey_in, alone_in, allocation_in, revoke_in, locate_in, or_invalid, command}
use Rattle.payload.specs.Readers.{alone_of}
use Rattle.payload.specs.declared.Command.{Command}
use Rattle.payload.specs.declared.Command.TheVariants.{Unsupported}

module _ (operation : ℕ) (t : Items) where
  abbrev by_alone : ℕ → Command
  by_alone n = or_invalid (alone_in (alone_of n) t)

  pub of_create : operation ≡ 0x01 → command operation t ≡ or_invalid (create_in t)
  unfolding command ifb
  of_create e = ap (λ (n : ℕ). command n t) e

  pub of_rekey : operation ≡ 0x04 → command operation t ≡ or_invalid (rekey_in t)
  unfolding command ifb
  of_rekey e = ap (λ (n : ℕ). command n t) e

  pub of_allocation : operation ≡ 0x11 → command operation t ≡ or_invalid (allocation_in t)
  unfolding command ifb
  of_allocation e = ap (λ (n : ℕ). command n t) e

  pub of_revoke : operation ≡ 0x13 → command operation t ≡ or_invalid (revoke_in t)
  unfolding command ifb
  of_revoke e = ap (λ (n : ℕ). command n t) e

  pub of_activate : operation ≡ 0x12 → command operation t ≡ by_alone operation
  unfolding command alone_of ifb
  of_activate e = ap (λ (n : ℕ). command n t) e ∙ sym (ap by_alone e)

  pub of_destroy : operation ≡ 0x14 → command operation t ≡ by_alone operation
  unfolding command alone_of ifb
  of_destroy e = ap (λ (n : ℕ). command n t) e ∙ sym (ap by_alone e)

  pub of_attributes : operation ≡ 0x0B → command operation t ≡ by_alone operation
  unfolding command alone_of ifb
  of_attributes e = ap (λ (n : ℕ). command n t) e ∙ sym (ap by_alone e)

  pub of_get : operation ≡ 0x0A → command operation t ≡ by_alone operation
  unfolding command alone_of ifb
  of_get e = ap (λ (n : ℕ). command n t) e ∙ sym (ap by_alone e)

  pub of_locate : operation ≡ 0x08 → command operation t ≡ or_invalid (locate_in t)
  unfolding command ifb
  of_locate e = ap (λ (n : ℕ). command n t) e

  pub of_none : (operation ≡ 0x01 → ⊥) → (operation ≡ 0x04 → ⊥) → (operation ≡ 0x11 → ⊥) → (operation ≡ 0x12 → ⊥) → (operation ≡ 0x13 → ⊥) → (operation ≡ 0x14 → ⊥) → (operation ≡ 0x0B → ⊥) → (operation ≡ 0x0A → ⊥) → (operation ≡ 0x08 → ⊥)
      → command operation t ≡ Unsupported
  unfolding command
  of_none a b c d e f g h i =
      ifb_false _ _ _ (ne_eqb operation 0x01 a)
      ∙ (ifb_false _ _ _ (ne_eqb operation 0x04 b)
      ∙ (ifb_false _ _ _ (ne_eqb operation 0x11 c)
      ∙ (ifb_false _ _ _ (ne_eqb operation 0x12 d)
      ∙ (ifb_false _ _ _ (ne_eqb operation 0x13 e)
      ∙ (ifb_false _ _ _ (ne_eqb operation 0x14 f)
      ∙ (ifb_false _ _ _ (ne_eqb operation 0x0B g)
      ∙ (ifb_false _ _ _ (ne_eqb operation 0x0A h)
      ∙ ifb_false _ _ _ (ne_eqb operation 0x08 i))))))))
