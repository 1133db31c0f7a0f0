-- The parts of an answer: the Unique Batch Item ID, with what stands behind it, and the outcome.
-- Assumes nothing.
use mathlib.Core.Path.{◌≡◌, refl}
use Prim.Native.Nat.{ℕ, ◌≤◌, ◌<◌}
use native.Mathlib.Omega.{arith}
use mathlib.Core.Bool.{true}
use lib.ListN.{length, take}
use mathlib.Core.List.{List, [], ◌∷◌}
use Rattle.ttlv_types.specs.Types.{byte_string}
use Rattle.ttlv.specs.Items.{Items, nil, value}
use Rattle.ttlv_put.specs.Write.{join, WroteValue}
use Rattle.tags.specs.Tags.{unique_batch_item_id}
use Rattle.plans.specs.declared.Outcome.{Outcome}
use Rattle.answer.specs.Respond.{id_items, outcome_items}
use Rattle.named_write.specs.Puts.{Puts}
use Rattle.named_write.proofs.Compose.{puts_nil, puts_value}

-- ---- the Unique Batch Item ID

-- none was given
pub puts_no_id : (b : List ℕ) (n : ℕ) {room : List ℕ} → n ≡ 0 → Puts 24 (id_items (take n b) nil) room room 0
unfolding id_items
puts_no_id b n {room} e = rw e (puts_nil 24 room)

id_given : (v : List ℕ) → 0 < length v → id_items v nil ≡ value unique_batch_item_id byte_string v nil
unfolding id_items
id_given [] h = absurd (omega arith)
id_given (x ∷ v) h = refl

-- its bytes were written
pub puts_id : (v : List ℕ) {room after : List ℕ} {r : ℕ} → WroteValue true unique_batch_item_id byte_string v room after r → 0 < length v → length v ≤ 16 → 24 ≤ length room
    → Puts 24 (id_items v nil) room after r
puts_id v w h k l = rw (id_given v h) (puts_value 24 unique_batch_item_id byte_string v refl refl w (omega arith) l (omega arith))

-- what stands behind it
pub id_join : (id : List ℕ) (u : Items) → join (id_items id nil) u ≡ id_items id u
unfolding id_items join
id_join [] u = refl
id_join (x ∷ id) u = refl

-- ---- outcomes

-- an outcome that is known
pub puts_outcome : {o o' : Outcome} {a n : ℕ} {room after : List ℕ} → o ≡ o' → Puts a (outcome_items o') room after n → Puts a (outcome_items o) room after n
puts_outcome e p = rw e p
