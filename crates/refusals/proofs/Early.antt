-- Refusals 1 to 5, rung by rung: what the ladder answers from what the branches know.
-- Assumes nothing.
use Prim.Native.Nat.{ℕ, suc, ◌<◌, ◌≤◌}
use mathlib.Core.Path.{◌≡◌, sym, ◌∙◌}
use mathlib.Core.Bool.{Bool, true, false, not}
use mathlib.Core.List.{List}
use lib.ListN.{length}
use native.Mathlib.Omega.{arith}
use borrow.Author.Tests.{ltb-false, eqb-true, not-true, not-false}
use Rattle.octets.specs.Maybe.{is_some}
use Rattle.octets.proofs.If.{chain, on_if}
use Rattle.ttlv.specs.Parse.{message}
use Rattle.place_counts.specs.Counts.{table_right}
use Rattle.calls.specs.Effects.{room_least, request_most, strip_size}
use Rattle.refusals.specs.Refusals.{early_refusal}

-- a test that a function answered, under `!`
pub yes_if : (r b : Bool) → r ≡ b → not r ≡ false → b ≡ true
yes_if r b e n = sym e ∙ not-false r n

pub no_if : (r b : Bool) → r ≡ b → not r ≡ true → b ≡ false
no_if r b e n = sym e ∙ not-true r n

module _ (request t strip : List ℕ) (room : ℕ) where
  pub early_1 : room < room_least → 1 ≡ early_refusal request t strip room
  unfolding early_refusal
  early_1 h = sym (simp chain)

  module _ (a : room_least ≤ room) where
    pub early_2 : (length strip ≡ strip_size → ⊥) → 2 ≡ early_refusal request t strip room
    unfolding early_refusal
    early_2 h = sym (simp chain)

    module _ (b : length strip ≡ strip_size) where
      pub early_3 : table_right t ≡ false → 3 ≡ early_refusal request t strip room
      unfolding early_refusal
      early_3 h = sym (simp (chain, h))

      module _ (s : table_right t ≡ true) where
        pub early_4 : length request ≡ 0 → 4 ≡ early_refusal request t strip room
        unfolding early_refusal
        early_4 h = sym (simp (chain, s))

        module _ (z : length request ≡ 0 → ⊥) where
          pub early_4b : request_most < length request → 4 ≡ early_refusal request t strip room
          unfolding early_refusal
          early_4b h = sym (simp (chain, s))

          module _ (l : length request ≤ request_most) where
            pub early_5 : is_some (message request) ≡ false → 5 ≡ early_refusal request t strip room
            unfolding early_refusal
            early_5 h = sym (simp (chain, s, h))

            pub early_0 : is_some (message request) ≡ true → 0 ≡ early_refusal request t strip room
            unfolding early_refusal
            early_0 h = sym (simp (chain, s, h))

-- ---- the ladder read back

-- what holds of a call to which none of them applies
pub record Passed (request t strip out : List ℕ) : Type 0 where
  pub none_early : early_refusal request t strip (length out) ≡ 0
  pub room : room_least ≤ length out
  pub strip_size : length strip ≡ strip_size
  pub right : table_right t ≡ true
  pub is_message : is_some (message request) ≡ true

module _ (request t strip out : List ℕ) where
  -- the ladder, by its number
  data Early : ℕ → Type 0 where
    refuses : (k : ℕ) → Early (suc k)
    passes : room_least ≤ length out → length strip ≡ strip_size → table_right t ≡ true → is_some (message request) ≡ true → Early 0

  early : Early (early_refusal request t strip (length out))
  unfolding early_refusal
  early =
      on_if Early (λ e. refuses 0) (λ a.
      on_if Early (λ e. refuses 1) (λ b.
      on_if Early (λ e. refuses 2) (λ s.
      on_if Early (λ e. refuses 3) (λ l.
      on_if Early (λ e. refuses 4) (λ m.
      passes (ltb-false (length out) room_least a) (eqb-true (length strip) strip_size (not-false _ b)) (not-false _ s) (not-false _ m))))))

  pub passed : early_refusal request t strip (length out) ≡ 0 → Passed request t strip out
  passed none_early = go early none_early
    where
      go : {k : ℕ} → Early k → k ≡ 0 → Passed request t strip out
      go (refuses k) z = absurd (omega arith)
      go (passes a b s m) z = record { none_early = none_early; room = a; strip_size = b; right = s; is_message = m }
