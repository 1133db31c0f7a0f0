-- No second outcome: a structure around what a body writes has one outcome, answer and room, where the body's run has one. Stated on what the contract promises.
-- Assumes nothing.
use Prim.Native.Nat.{ℕ, ◌+◌}
use mathlib.Core.Path.{◌≡◌, sym, ap, ◌∙◌}
use mathlib.Core.List.{List}
use Rattle.std.specs.Fn.{FnOnceReturnsAtMut}
use Rattle.ttlv_put.proofs.Unique.{wrote_unique}
use Rattle.ttlv_around.specs.Around.{Body, behind_head, WroteAround}

pub write_around_unique : {F : Type 0} {g : Body F} {body : F} {tag : ℕ} {room after after' : List ℕ} {r r' : ℕ}
    → ((n n' : ℕ) (left left' : List ℕ) → FnOnceReturnsAtMut g body (behind_head room) n left → FnOnceReturnsAtMut g body (behind_head room) n' left' → (n ≡ n') × (left ≡ left'))
    → WroteAround g body tag room after r → WroteAround g body tag room after' r' → (r ≡ r') × (after ≡ after')
write_around_unique one p q =
    let e = one p.size q.size p.left q.left p.ran q.ran in
    (p.answer ∙ ap (λ n. 8 + n) e.0 ∙ sym q.answer, (wrote_unique (rw (e.0, e.1) at p.headed) q.headed).1)
